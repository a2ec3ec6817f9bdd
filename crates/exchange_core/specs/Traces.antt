-- The steps of a call, as they are noted under its pass.
use Rattle.std.specs.Prelude.{◌≡◌, ◌≢◌, ℕ, ◌≤◌, ◌++◌, ◌∷◌, ◌⊎◌, [], Bool, List, Option, None, Some, Result, Ok, Err, false}
use Rattle.std.specs.Prelude.{is_some, length, option_copied, option_map, slice_get, All}
use Rattle.call_book.specs.declared.leg_name.LegName.{LegName}
use Rattle.call_signals.specs.Caller.{numbered}
use Rattle.call_signals.specs.Format.{lowest_format}
use Rattle.call_signals.specs.declared.format.Format.{Format}
use Rattle.call_signals.specs.Order.{kind_of, media_over}
use Rattle.call_control.specs.Work.{next_of, after_told, of_datagram}
use Rattle.call_control.specs.WorkState.{WorkState, begun, offer_in, onwards_after}
use Rattle.call_signals.specs.declared.order.Command.{Command}
use Rattle.call_signals.specs.declared.signal.MediaSpan.{MediaSpan}
use Rattle.call_control.specs.declared.need.Need.{Need}
use Rattle.call_control.specs.declared.need.Need.TheVariants as needs
use Rattle.call_control.specs.declared.reply.StepReply.{StepReply}
use Rattle.call_control.specs.declared.reply.Reply.{Reply}
use Rattle.call_control.specs.declared.reply.Reply.TheVariants as replies
use Rattle.iax_frames.specs.FullFrame.{SpellsFull}
use Rattle.memory_requests.specs.Refused.{WasRefused}
use Rattle.step_log.specs.Notes.{Noted, Notes}
use Rattle.step_log.specs.declared.made.Made.{Made}
use Rattle.step_log.specs.declared.made.Made.TheVariants as mades
use Rattle.peer_accounts.specs.declared.onwards.Offer.{Offer}
use Rattle.peer_lock.specs.HandedUp.{HandedUp}
use Rattle.peer_lock.specs.declared.errors.OpenError.{OpenError}
use Rattle.peer_lock.specs.declared.errors.OpenError.TheVariants as open_errors
use Rattle.peer_lock.specs.declared.errors.OrderError.TheVariants as order_errors
use Rattle.peer_lock.specs.declared.errors.StepsSpent.{StepsSpent}
use Rattle.peer_lock.specs.declared.steps.Step.{Step}
use Rattle.peer_lock.specs.declared.steps.TickReport.{TickReport}
use Rattle.peer_plan.specs.Plan.{PlanView}
use Rattle.peer_plan.specs.declared.endpoint.Endpoint.{Endpoint}
use Rattle.exchange_core.specs.Routes.{IsRoute, format_for}
use Rattle.exchange_core.specs.declared.resources.Given.{Given}

-- the inputs of a call
pub record Call : Type 0 where
  pub plan : PlanView
  -- the datagram; empty for any other call
  pub octets : List ℕ
  pub challenge : Option (List ℕ)
  -- the number that is called from outside
  pub called : Option (List ℕ)
  pub now : ℕ

abbrev pub call_of : PlanView → Given → Call
call_of plan given = record {
  plan = plan;
  octets = given.datagram;
  challenge = option_copied given.challenge;
  called = option_copied given.called;
  now = given.now;
}

-- a call with nothing but its moment
abbrev pub moment : PlanView → ℕ → Call
moment plan now = record { plan = plan; octets = []; challenge = None; called = None; now = now }

-- ---- the part of an answer that a call gets

-- of a datagram and of an opening by a NEW: the leg concerned, the rejection, and the signals handed up
abbrev pub heard_of : {E : Type 0} → Result Step E → HandedUp → Result StepReply E
heard_of (Ok step) onwards = Ok (record { touched = step.touched; rejected = step.rejected; onwards = onwards })
heard_of (Err error) onwards = Err error

-- of a NEW of this exchange, of a rejected NEW and of an order: that the step was made
abbrev pub done_of : {E : Type 0} → Result Step E → Result (Unit {0}) E
done_of (Ok step) = Ok tt
done_of (Err error) = Err error

-- of a tick: whether it left nothing to be finished
abbrev pub quiet_of : Result TickReport StepsSpent → Result Bool StepsSpent
quiet_of (Ok report) = Ok report.is_quiet
quiet_of (Err spent) = Err spent

-- the caller; unknown for a call from outside
abbrev pub caller_of : Option (List ℕ) → List ℕ
caller_of None = numbered None
caller_of (Some caller) = caller

-- A leg of this peer is opened for the number called from outside, in the lowest format of the peer. Without such a number
-- it is opened for the offered call, in its format at this peer.
abbrev pub IsCallFor : PlanView → Option (List ℕ) → Option Offer → ℕ → List ℕ → List ℕ → Format → Type 0
IsCallFor plan (Some text) offer peer called caller format =
    (called ≡ text) × (caller ≡ numbered None) ×
    (option_map (λ peer. lowest_format peer.rules.formats) (slice_get plan.peers peer) ≡ Some (Some format))
IsCallFor plan None (Some offer) peer called caller format =
    (called ≡ offer.called) × (caller ≡ offer.caller) ×
    (option_map (λ peer. format_for offer peer.rules.formats) (slice_get plan.peers peer) ≡ Some (Some format))
IsCallFor plan None None peer called caller format = ⊥

-- ---- one step

-- nothing is offered, or the peer has no format of the call
abbrev pub LacksFormat : PlanView → Option Offer → ℕ → Type 0
LacksFormat plan None peer = Unit {0}
LacksFormat plan (Some offer) peer = option_map (λ peer. format_for offer peer.rules.formats) (slice_get plan.peers peer) ≡
    Some None

-- The needs that are answered without a locked state. The peer isn't in the plan, a request for memory was refused for a leg
-- to be taken out, nothing is offered, the peer lacks the format, or the need is a route.
abbrev pub IsUnasked : Call → Option Offer → Need → Reply → Type 0
IsUnasked call offer (needs.OpenOut name) reply =
    (reply ≡ replies.OpenOut (Err open_errors.NumberBusy)) ×
    ((length call.plan.peers ≤ name.peer) ⊎ ((call.called ≡ None) × LacksFormat call.plan offer name.peer))
IsUnasked call offer (needs.Order name command) reply = (reply ≡ replies.Order (Err order_errors.Gone)) ×
    (length call.plan.peers ≤ name.peer)
IsUnasked call offer (needs.Look peer number) reply = (reply ≡ replies.Look None) × (length call.plan.peers ≤ peer)
IsUnasked call offer (needs.Retire name) reply = (reply ≡ replies.Retire false) ×
    ((length call.plan.peers ≤ name.peer) ⊎ WasRefused)
IsUnasked call offer (needs.Route name) (replies.Route route) = IsRoute call.plan name.peer offer route
IsUnasked call offer need reply = ⊥

-- the needed step was made as it is noted, and this is its answer
abbrev pub IsMade : Call → Option Offer → Need → Reply → Made → Type 0
IsMade call offer need reply (mades.Datagram peer octets now answer onwards) =
    (need ≡ needs.Datagram peer) × (reply ≡ replies.Datagram (heard_of answer onwards)) × (octets ≡ call.octets) ×
    (now ≡ call.now)
IsMade call offer need reply (mades.OpenIn peer name head payload now challenge answer onwards) =
    (need ≡ needs.OpenIn name) × (reply ≡ replies.OpenIn (heard_of answer onwards)) × (peer ≡ name.peer)
    × SpellsFull call.octets (record { head = head; payload = payload }) × (call.challenge ≡ Some challenge) × (now ≡ call.now)
IsMade call offer need reply (mades.RejectNew peer head payload answer) =
    (need ≡ needs.RejectNew peer) × (reply ≡ replies.RejectNew (done_of answer))
    × SpellsFull call.octets (record { head = head; payload = payload })
IsMade call offer need reply (mades.OpenOut peer name called caller format now answer) =
    (need ≡ needs.OpenOut name) × (reply ≡ replies.OpenOut (done_of answer)) × (peer ≡ name.peer)
    × IsCallFor call.plan call.called offer peer called caller format × (now ≡ call.now)
IsMade call offer need reply (mades.Order peer name kind media now answer) =
    (command : Command MediaSpan) × (need ≡ needs.Order name command) × (reply ≡ replies.Order (done_of answer))
    × (peer ≡ name.peer) × (kind ≡ kind_of command) × (media ≡ media_over command call.octets) × (now ≡ call.now)
IsMade call offer need reply (mades.Tick peer now answer) = (need ≡ needs.Tick peer) × (reply ≡ replies.Tick (quiet_of answer)) ×
    (now ≡ call.now)
IsMade call offer need reply (mades.Look peer number answer) = (need ≡ needs.Look peer number) × (reply ≡ replies.Look answer)
IsMade call offer need reply (mades.Retire peer name answer) = (need ≡ needs.Retire name) ×
    (reply ≡ replies.Retire (is_some answer)) × (peer ≡ name.peer)
IsMade call offer need reply (mades.Reserve peer answer) = (need ≡ needs.Reserve peer) × (reply ≡ replies.Reserve answer)
IsMade call offer need reply (mades.Bridge one other answer) = (need ≡ needs.Bridge one other) × (reply ≡ replies.Bridge answer)
IsMade call offer need reply (mades.Partner name answer) = (need ≡ needs.Partner name) × (reply ≡ replies.Partner answer)
IsMade call offer need reply (mades.Release name answer) = (need ≡ needs.Release name) × (reply ≡ replies.Release answer)
IsMade call offer need reply mades.Unasked = IsUnasked call offer need reply
-- no call takes out a datagram, sets whether a peer drains, or asks for anybody else
IsMade call offer need reply made = ⊥

-- the pass has noted exactly this one more step
pub record Makes (call : Call) (offer : Option Offer) (need : Need) (reply : Reply) (old new : Noted) : Type 0 where
  pub step : Made
  pub noted : Notes step old new
  pub made : IsMade call offer need reply step

-- ---- all steps of a call

-- the table's state after an answer
abbrev pub told : WorkState → Reply → WorkState
told state reply = record { work = after_told state.work reply; onwards = onwards_after state.work.place reply state.onwards }

-- from this state exactly these steps were made, each the one that the table named, and their answers led to that state
abbrev pub IsTrace : Call → WorkState → List Made → WorkState → Type 0
IsTrace call from [] to = from ≡ to
IsTrace call from (step ∷ rest) to =
    (need : Need) × (reply : Reply) × (next_of from.work ≡ Some need) × IsMade call (offer_in from.onwards) need reply step ×
    IsTrace call (told from reply) rest to

-- the steps between these two states, and no others, are noted under the pass
pub record Traces (call : Call) (from to : WorkState) (old new : Noted) : Type 0 where
  pub steps : List Made
  pub noted : new.made ≡ old.made ++ steps
  pub begun : new.begun ≡ old.begun
  pub trace : IsTrace call from steps to

-- the pass has noted all steps of a call that begins here, and no others
pub record MakesAll (call : Call) (from : WorkState) (old new : Noted) : Type 0 where
  pub to : WorkState
  pub ended : next_of to.work ≡ None
  pub traces : Traces call from to old new

-- a datagram came from an endpoint: nothing is noted of a stranger's, and all steps of its call of a peer's
abbrev pub IsHeard : PlanView → Endpoint → Call → Noted → Noted → Type 0
IsHeard plan from call old new =
    (All (λ peer. peer.endpoint ≢ from) plan.peers × (new ≡ old))
    ⊎ ((peer : ℕ) × (option_map (λ peer. peer.endpoint) (slice_get plan.peers peer) ≡ Some from) ×
    MakesAll call (begun (of_datagram peer)) old new)
