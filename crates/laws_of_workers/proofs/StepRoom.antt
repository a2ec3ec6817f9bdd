-- One step of a call puts no more at its peer than its need allows.
use Rattle.std.proofs.Common.{◌≡◌, ◌≤◌, ℕ, ◌==◌, Bool, true, false, cond, List, Option}
use Rattle.std.proofs.Common.{None, Some, Ok, Err, length, refl, sym, ap, subst}
use Rattle.std.proofs.Common.{arith}
use Rattle.call_book.specs.declared.leg_name.LegName.{LegName}
use Rattle.call_signals.specs.Order.{kind_of, Kind}
use Rattle.call_signals.specs.declared.order.Command.TheVariants as commands
use Rattle.laws_of_calls.specs.DatagramsLeft.{OpensFew, brought_by, command_puts, is_first, need_puts}
use Rattle.laws_of_calls.specs.DatagramsLeft.{signals_put, step_puts, touched_puts}
use Rattle.call_control.specs.Work.{at, next_at}
use Rattle.call_control.specs.WorkState.{offer_in}
use Rattle.call_signals.specs.declared.order.Command.{Command}
use Rattle.call_signals.specs.declared.signal.MediaSpan.{MediaSpan}
use Rattle.call_control.specs.declared.need.Need.{Need}
use Rattle.call_control.specs.declared.need.Need.TheVariants as needs
use Rattle.call_control.specs.declared.place.Place.{Place}
use Rattle.call_control.specs.declared.place.Place.TheVariants as places
use Rattle.call_control.specs.declared.reply.Reply.{Reply}
use Rattle.call_control.specs.declared.reply.Reply.TheVariants as replies
use Rattle.exchange_core.specs.Traces.{Call, IsMade, IsUnasked}
use Rattle.iax_frames.specs.FullFrame.{FullFrame}
use Rattle.laws_of_peers.specs.Followed.{LeadsAll, load_at, place_of}
use Rattle.step_log.specs.declared.made.Made.{Made}
use Rattle.step_log.specs.declared.made.Made.TheVariants as mades
use Rattle.peer_lock.specs.HandedUp.{HandedUp}
use Rattle.laws_of_peers.specs.Loads.{Load, load_of, no_load, order_load}
use Rattle.peer_lock.specs.Openings.{opens_in}
use Rattle.peer_lock.specs.Peer.{PeerView}
use Rattle.peer_lock.specs.declared.steps.Step.{Step}

-- ---- one step

-- a step puts no more than its need allows, and brings nothing
pub record StepFew (load : Load) (need : Need) (reply : Reply) : Type 0 where
  pub few : load.datagrams ≤ need_puts (Some need)
  pub opens : OpensFew reply
  pub brings : brought_by reply ≡ 0

as_is : (load : Load) (need other : Need) (reply answer : Reply) → need ≡ other → reply ≡ answer → StepFew load other answer
    → StepFew load need reply
as_is load need other reply answer need_is reply_is few =
    subst (λ (n : Need). StepFew load n reply) (sym need_is) (subst (λ (r : Reply). StepFew load other r) (sym reply_is) few)

-- a step puts at any peer at most what it puts at its own
pub at_most : (place other : ℕ) (load : Load) (most : ℕ) → load.datagrams ≤ most → (cond (other == place) load no_load).datagrams
    ≤ most
at_most place other load most few = either_load (other == place)
  where
    either_load : (b : Bool) → (cond b load no_load).datagrams ≤ most
    either_load true = few
    either_load false = omega arith

abbrev pub is_begun : Option Need → Bool
is_begun (Some (needs.Datagram peer)) = true
is_begun (Some (needs.Tick peer)) = true
is_begun need = false

pub next_later : (place : Place) → is_first place ≡ false → is_begun (next_at place) ≡ false
next_later (places.Datagram peer) first = cc
next_later (places.Tick peer) first = cc
next_later place first = refl

order_same : (kind : Kind) (octets : ℕ) → (order_load kind octets).datagrams ≡ (order_load kind 0).datagrams
order_same (commands.Accept format) octets = refl
order_same (commands.Reject cause) octets = refl
order_same (commands.Indicate indication) octets = refl
order_same commands.Answer octets = refl
order_same (commands.Dtmf digit) octets = refl
order_same (commands.Media _) octets = refl
order_same (commands.Hangup cause) octets = refl
order_same (commands.Doom cause) octets = refl
order_same commands.Paid octets = refl

order_few : (kind : Kind) (command : Command MediaSpan) (octets : ℕ) → kind ≡ kind_of command
    → (order_load kind octets).datagrams ≤ command_puts command
order_few kind command octets is = omega (arith, order_same kind octets, ap (λ (k : Kind). (order_load k 0).datagrams) is)

-- a step that puts nothing and brings nothing
idle : (need : Need) (reply : Reply) → OpensFew reply → brought_by reply ≡ 0 → StepFew no_load need reply
idle need reply opens brings = record { few = omega arith; opens = opens; brings = brings }

-- the calls that ask no peer for a step
unasked_few : (call : Call) (handed : Option HandedUp) (need : Need) (reply : Reply) → IsUnasked call (offer_in handed) need reply
    → StepFew no_load need reply
unasked_few call handed (needs.OpenOut name) reply is = as_is no_load _ (needs.OpenOut name) reply _ refl is.0 (idle _ _ tt refl)
unasked_few call handed (needs.Order name command) reply is = as_is no_load _ (needs.Order name command) reply _ refl is.0
    (idle _ _ tt refl)
unasked_few call handed (needs.Look peer number) reply is = as_is no_load _ (needs.Look peer number) reply _ refl is.0
    (idle _ _ tt refl)
unasked_few call handed (needs.Retire name) reply is = as_is no_load _ (needs.Retire name) reply _ refl is.0 (idle _ _ tt refl)
unasked_few call handed (needs.Route name) (replies.Route route) is = idle _ _ tt refl
unasked_few call handed (needs.Route name) reply is = absurd is
unasked_few call handed need reply is = absurd is

module _ (opening : (peer : PeerView) (name : LegName) (frame : FullFrame) (now : ℕ) (challenge : List ℕ)
    → step_puts (opens_in peer name frame now challenge) ≤ 3) where
  pub made_few : (call : Call) (handed : Option HandedUp) (need : Need) (reply : Reply) (step : Made) (place : ℕ)
      (old new : List PeerView)
      (leads : LeadsAll (place_of step) step old new) → IsMade call (offer_in handed) need reply step
      → is_begun (Some need) ≡ false
      → StepFew (load_at place (place_of step) step old new leads) need reply
  made_few call handed need reply (mades.Datagram peer octets now answer onwards) place old new leads is later =
      let begun_now : is_begun (Some need) ≡ true = ap (λ (n : Need). is_begun (Some n)) is.0 in cc
  made_few call handed need reply (mades.Tick peer now answer) place old new leads is later =
      let begun_now : is_begun (Some need) ≡ true = ap (λ (n : Need). is_begun (Some n)) is.0 in cc
  made_few call handed need reply (mades.OpenIn peer name head payload now challenge (Ok step) onwards) place old new leads is
      later =
      let opened = opening leads.before name (record { head = head; payload = payload }) now challenge in
      as_is _ need (needs.OpenIn name) reply
      (replies.OpenIn (Ok (record { touched = step.touched; rejected = step.rejected; onwards = onwards }))) is.0 is.1
      (record {
        few = at_most place peer (load_of 1) 1 (omega arith);
        opens = omega (
          arith,
          opened,
          ap signals_put leads.leads.signals,
          ap (λ (s : Step). touched_puts s.touched)
              leads.leads.answers,
        );
        brings = refl;
      })
  made_few call handed need reply (mades.OpenIn peer name head payload now challenge (Err error) onwards) place old new leads is
      later =
      as_is _ need (needs.OpenIn name) reply (replies.OpenIn (Err error)) is.0 is.1
      (record { few = at_most place peer no_load 1 (omega arith); opens = tt; brings = refl })
  made_few call handed need reply (mades.RejectNew peer head payload (Ok step)) place old new leads is later =
      as_is _ need (needs.RejectNew peer) reply (replies.RejectNew (Ok tt)) is.0 is.1
      (record { few = at_most place peer (load_of 1) 1 (omega arith); opens = tt; brings = refl })
  made_few call handed need reply (mades.RejectNew peer head payload (Err error)) place old new leads is later =
      as_is _ need (needs.RejectNew peer) reply (replies.RejectNew (Err error)) is.0 is.1
      (record { few = at_most place peer no_load 1 (omega arith); opens = tt; brings = refl })
  made_few call handed need reply (mades.OpenOut peer name called caller format now (Ok step)) place old new leads is later =
      as_is _ need (needs.OpenOut name) reply (replies.OpenOut (Ok tt)) is.0 is.1
      (record { few = at_most place peer (load_of 1) 1 (omega arith); opens = tt; brings = refl })
  made_few call handed need reply (mades.OpenOut peer name called caller format now (Err error)) place old new leads is later =
      as_is _ need (needs.OpenOut name) reply (replies.OpenOut (Err error)) is.0 is.1
      (record { few = at_most place peer no_load 1 (omega arith); opens = tt; brings = refl })
  made_few call handed need reply (mades.Order peer name kind media now (Ok step)) place old new leads is later =
      as_is _ need (needs.Order name is.0) reply (replies.Order (Ok tt)) is.1 is.2
      (record {
        few = at_most place peer (order_load kind (length media)) (command_puts is.0) (order_few kind is.0 (length media) is.4);
        opens = tt;
        brings = refl;
      })
  made_few call handed need reply (mades.Order peer name kind media now (Err error)) place old new leads is later =
      as_is _ need (needs.Order name is.0) reply (replies.Order (Err error)) is.1 is.2
      (record { few = at_most place peer no_load (command_puts is.0) (omega arith); opens = tt; brings = refl })
  made_few call handed need reply (mades.Retire peer name (Some leg)) place old new leads is later =
      as_is _ need (needs.Retire name) reply (replies.Retire true) is.0 is.1
      (record { few = at_most place peer no_load 0 (omega arith); opens = tt; brings = refl })
  made_few call handed need reply (mades.Retire peer name None) place old new leads is later =
      as_is _ need (needs.Retire name) reply (replies.Retire false) is.0 is.1
      (record { few = at_most place peer no_load 0 (omega arith); opens = tt; brings = refl })
  made_few call handed need reply (mades.Look peer number answer) place old new leads is later =
      as_is _ need (needs.Look peer number) reply (replies.Look answer) is.0 is.1
      (record { few = at_most place peer no_load 0 (omega arith); opens = tt; brings = refl })
  made_few call handed need reply (mades.Reserve peer answer) place old new leads is later =
      as_is _ need (needs.Reserve peer) reply (replies.Reserve answer) is.0 is.1 (idle _ _ tt refl)
  made_few call handed need reply (mades.Bridge one other answer) place old new leads is later =
      as_is _ need (needs.Bridge one other) reply (replies.Bridge answer) is.0 is.1 (idle _ _ tt refl)
  made_few call handed need reply (mades.Partner name answer) place old new leads is later =
      as_is _ need (needs.Partner name) reply (replies.Partner answer) is.0 is.1 (idle _ _ tt refl)
  made_few call handed need reply (mades.Release name answer) place old new leads is later =
      as_is _ need (needs.Release name) reply (replies.Release answer) is.0 is.1 (idle _ _ tt refl)
  made_few call handed need reply mades.Unasked place old new leads is later = unasked_few call handed need reply is
  made_few call handed need reply step place old new leads is later = absurd is
