-- The promise of a call of a peer gives the effect of its note.
use Rattle.std.proofs.Common.{◌≡◌, ℕ, ◌==◌, Bool, true, false, List, Option, None, Some, if◌then◌else◌, ap, refl}
use Rattle.std.specs.Prelude.{Result, Ok, Err}
use Rattle.call_book.specs.declared.leg_name.LegName.{LegName}
use Rattle.call_signals.specs.Order.{kind_of, media_of, Order}
use Rattle.call_signals.specs.declared.format.Format.{Format}
use Rattle.iax_frames.specs.FullFrame.{FullFrame}
use Rattle.leg_machine.specs.OrderTable.{IsShortMedia}
use Rattle.laws_of_peers.specs.Followed.{GivesUp, Leads}
use Rattle.step_log.specs.Notes.{given_up, without_lease}
use Rattle.step_log.specs.declared.made.Made.TheVariants as mades
use Rattle.peer_lock.specs.Accounts.{Credit}
use Rattle.peer_lock.specs.HandedUp.{HandedUp}
use Rattle.peer_lock.specs.Legs.{NamedLeg, leg_named}
use Rattle.peer_lock.specs.Makes.{WasHandled}
use Rattle.peer_lock.specs.Openings.{WasOpenedIn, WasOpenedOut, WasRejected}
use Rattle.peer_lock.specs.Orders.{WasOrdered, refused_at}
use Rattle.peer_lock.specs.Peer.{PeerView, WasTakenInto}
use Rattle.peer_lock.specs.Statuses.{WasLookedAt, WasRetired, is_done}
use Rattle.peer_lock.specs.Ticks.{WasTicked}
use Rattle.peer_lock.specs.declared.errors.OpenError.{OpenError}
use Rattle.peer_lock.specs.declared.errors.OrderError.{OrderError}
use Rattle.peer_lock.specs.declared.errors.OrderError.TheVariants as order_errors
use Rattle.peer_lock.specs.declared.errors.PeerError.{PeerError}
use Rattle.peer_lock.specs.declared.errors.RejectError.{RejectError}
use Rattle.peer_lock.specs.declared.errors.StepsSpent.{StepsSpent}
use Rattle.peer_lock.specs.declared.steps.EndedLeg.{EndedLeg}
use Rattle.peer_lock.specs.declared.steps.Status.{Status}
use Rattle.peer_lock.specs.declared.steps.Step.{Step}
use Rattle.peer_lock.specs.declared.steps.TickReport.{TickReport}

pub datagram_leads : (first_octets first_steps number now room : ℕ) (octets : List ℕ) (result : Result Step PeerError)
    (onwards : HandedUp) (old new : PeerView) (before after : Credit)
    → WasHandled first_octets first_steps octets now result old new before after room onwards
    → Leads (mades.Datagram number octets now result onwards) old new
datagram_leads first_octets first_steps number now room octets (Ok step) onwards old new before after was =
    let made = was.made was.worked.0 was.worked.1 in
    record {
      first = first_octets;
      datagram = was.worked.0;
      spelled = was.worked.1.spelled;
      becomes = made.peer;
      answers = made.answer;
      signals = made.signals;
    }
datagram_leads first_octets first_steps number now room octets (Err error) onwards old new before after was = was.err.peer

pub opening_leads : (first_steps number now : ℕ) (name : LegName) (frame : FullFrame) (challenge : List ℕ)
    (result : Result Step (LegName × OpenError)) (onwards : HandedUp) (old new : PeerView) (before after : Credit)
    → WasOpenedIn first_steps name frame now challenge result old new before after onwards
    → Leads (mades.OpenIn number name frame.head frame.payload now challenge (without_lease result) onwards) old new
opening_leads first_steps number now name frame challenge (Ok step) onwards old new before after was =
    record { becomes = was.peer; answers = was.step; signals = was.signals }
opening_leads first_steps number now name frame challenge (Err back) onwards old new before after was = was.err.peer

pub rejection_leads : (first_steps number : ℕ) (frame : FullFrame) (result : Result Step RejectError) (old new : PeerView)
    (before after : Credit) → WasRejected first_steps frame result old new before after
    → Leads (mades.RejectNew number frame.head frame.payload result) old new
rejection_leads first_steps number frame (Ok step) old new before after was = record { becomes = was.peer; answers = was.step }
rejection_leads first_steps number frame (Err error) old new before after was = was.err.0

pub placing_leads : (first_steps number now : ℕ) (name : LegName) (called caller : List ℕ) (format : Format)
    (result : Result Step (LegName × OpenError)) (old new : PeerView) (before after : Credit)
    → WasOpenedOut first_steps name called caller format now result old new before after
    → Leads (mades.OpenOut number name called caller format now (without_lease result)) old new
placing_leads first_steps number now name called caller format (Ok step) old new before after was = was.peer
placing_leads first_steps number now name called caller format (Err back) old new before after was = was.err.0

-- an order that isn't refused has its leg
ordered_leg : (spent : Bool) (at : Option NamedLeg) (order : Order) (now : ℕ)
    → (if spent then Some order_errors.StepsSpent else refused_at at order now) ≡ None → (leg : NamedLeg) × (at ≡ Some leg)
ordered_leg true at order now none = absurd (cc)
ordered_leg false None order now none = absurd (cc)
ordered_leg false (Some leg) order now none = (leg, refl)

pub order_leads : (first_steps number now : ℕ) (name : LegName) (order : Order) (result : Result Step OrderError)
    (old new : PeerView) (before after : Credit) → IsShortMedia order
    → WasOrdered first_steps name order now result old new before after
    → Leads (mades.Order number name (kind_of order) (media_of order) now result) old new
order_leads first_steps number now name order (Ok step) old new before after short was =
    let leg = ordered_leg (old.accounts.steps == first_steps) (leg_named old.legs name) order now was.unrefused in
    record {
      leg = leg.0;
      named = leg.1;
      order = order;
      kind_is = refl;
      media_is = refl;
      short = short;
      becomes = was.peer;
    }
order_leads first_steps number now name order (Err error) old new before after short was = was.err.0

pub tick_leads : (first_steps number now : ℕ) (result : Result TickReport StepsSpent) (old new : PeerView)
    (before after : Credit) → WasTicked first_steps now result old new before after → Leads (mades.Tick number now result) old new
tick_leads first_steps number now (Ok report) old new before after was = was.ticked
tick_leads first_steps number now (Err spent) old new before after was = was.err.0

pub retiring_leads : (number : ℕ) (name : LegName) (result : Option (LegName × EndedLeg)) (old new : PeerView)
    → WasRetired name result old new → Leads (mades.Retire number name (given_up result)) old new
retiring_leads number name (Some retired) old new was =
    given (leg_named old.legs name) refl
  where
    -- it wasn't kept, so it was done
    done : (b : Bool) → is_done (leg_named old.legs name) ≡ b → b ≡ true
    done true is = refl
    done false is = let kept = was.none.1 is in absurd (cc)

    given : (at : Option NamedLeg) → leg_named old.legs name ≡ at → GivesUp name retired.1 old new
    given None at = let kept = was.none.1 (ap is_done at) in absurd (cc)
    given (Some leg) at = record {
      leg = leg;
      named = at;
      done = done (is_done (Some leg)) (ap is_done at);
      facts = was.facts leg at;
      entries = (was.«record» leg at).0;
      ruled = was.ruled;
      becomes = was.gone;
    }
retiring_leads number name None old new was = was.same

pub looking_leads : (number leg : ℕ) (result : Option Status) (peer : PeerView) → WasLookedAt leg result peer
    → Leads (mades.Look number leg result) peer peer
looking_leads number leg result peer was = record { answers = was.status; stays = refl }

pub taking_leads : (number : ℕ) (result : Bool) (out_old out_new : List ℕ) (old new : PeerView)
    → WasTakenInto result out_old out_new old new
    → Leads (mades.TakeOut number (if result then Some out_new else None)) old new
taking_leads number true out_old out_new old new was = record { oldest = was.oldest; empty = tt }
taking_leads number false out_old out_new old new was = record { oldest = tt; empty = was.empty }
