-- The part of a leg that callers at once see: its stage, whether it is doomed and whether it owes. And the possible effect
-- on it of a frame, an order, a tick and an opening ("IAX Frames", "Call Setup").
pub use Rattle.call_signals.specs.Order.{kind_of, Kind}
use Rattle.std.specs.Prelude.{◌≡◌, ℕ, ◌||◌, ◌&&◌, not, ◌⊎◌, Bool, false, Option, None, Some, if◌then◌else◌}
use Rattle.leg_machine.specs.Leg.{LegState}
use Rattle.leg_machine.specs.OrderTable.{refuses_digits}
use Rattle.call_signals.specs.Stage.{is_over}
use Rattle.call_signals.specs.declared.signal.Indication.{Indication}
use Rattle.call_signals.specs.declared.openings.Opening.{Opening}
use Rattle.call_signals.specs.declared.openings.Opening.TheVariants.{Refused, Challenges, Offers}
use Rattle.call_signals.specs.declared.order.Command.TheVariants as commands
use Rattle.call_signals.specs.declared.signal.MediaSpan.{MediaSpan}
use Rattle.call_signals.specs.declared.signal.Signal.{Signal}
use Rattle.call_signals.specs.declared.signal.Signal.TheVariants as signals
use Rattle.call_signals.specs.declared.stage.Stage.{Stage}
use Rattle.call_signals.specs.declared.stage.Stage.TheVariants as stages

pub record SeenLeg : Type 0 where
  pub stage : Stage
  pub doomed : Bool
  -- the layer above isn't done with the end of the call
  pub owes : Bool

abbrev pub seen : LegState → SeenLeg
seen leg = record { stage = leg.stage; doomed = leg.doomed; owes = leg.owes }

-- A leg enters a stage. It owes once it enters the first stage that is Closing or Ended.
abbrev pub moved : SeenLeg → Stage → SeenLeg
moved leg stage = record leg { stage = stage; owes = leg.owes || (is_over stage && not (is_over leg.stage)) }

-- ---- frames

-- the kinds of a full frame to a leg
pub data SeenFrame : Type 0 where
  -- it changes nothing here
  Plain : SeenFrame
  ProvesItself : SeenFrame
  FailsToProve : SeenFrame
  AcceptsCall : SeenFrame
  RejectsCall : SeenFrame
  -- the call can't continue: another format, busy, or a hangup
  BreaksOff : SeenFrame
  Indicates : (indication : Indication) → SeenFrame
  AnswersCall : SeenFrame
  Dials : (digit : ℕ) → SeenFrame
  Speaks : (span : MediaSpan) → SeenFrame
  HangsUp : SeenFrame
  -- nothing is held any more
  AcknowledgesAll : SeenFrame

-- the stage afterwards, and the signal handed up
pub record SeenEffect : Type 0 where
  pub stage : Stage
  pub signal : Option Signal

abbrev pub seen_effect : Stage → Option Signal → SeenEffect
seen_effect stage signal = record { stage = stage; signal = signal }

abbrev pub frame_effect : SeenFrame → Stage → SeenEffect
frame_effect ProvesItself stages.Challenged = seen_effect stages.Offered (Some signals.Offered)
frame_effect FailsToProve stages.Challenged = seen_effect stages.Closing None
frame_effect AcceptsCall stages.Waiting = seen_effect stages.Linked None
frame_effect RejectsCall stages.Waiting = seen_effect stages.Ended (Some signals.Hangup)
frame_effect BreaksOff stages.Waiting = seen_effect stages.Closing (Some signals.Hangup)
frame_effect BreaksOff stages.Linked = seen_effect stages.Closing (Some signals.Hangup)
frame_effect BreaksOff stages.Up = seen_effect stages.Closing (Some signals.Hangup)
frame_effect (Indicates indication) stages.Linked = seen_effect stages.Linked (Some (signals.Indicated indication))
frame_effect AnswersCall stages.Linked = seen_effect stages.Up (Some signals.Answered)
frame_effect (Dials digit) stages.Linked = seen_effect stages.Linked (Some (signals.Dtmf digit))
frame_effect (Dials digit) stages.Up = seen_effect stages.Up (Some (signals.Dtmf digit))
frame_effect (Speaks span) stages.Linked = seen_effect stages.Linked (Some (signals.Media span))
frame_effect (Speaks span) stages.Up = seen_effect stages.Up (Some (signals.Media span))
frame_effect HangsUp stages.Closing = seen_effect stages.Ended None
frame_effect HangsUp stages.Ended = seen_effect stages.Ended None
frame_effect HangsUp stage = seen_effect stages.Ended (Some signals.Hangup)
frame_effect AcknowledgesAll stages.Closing = seen_effect stages.Ended None
frame_effect frame stage = seen_effect stage None

-- the leg after a full frame, and its signal, are those of one of these frames
abbrev pub IsSeenFrame : SeenLeg → SeenLeg → Option Signal → Type 0
IsSeenFrame old new signal =
    (frame : SeenFrame) × (new ≡ moved old (frame_effect frame old.stage).stage) ×
    (signal ≡ (frame_effect frame old.stage).signal)

-- ---- openings

abbrev pub opening_effect : Opening → SeenEffect
opening_effect Refused = seen_effect stages.Closing None
opening_effect Challenges = seen_effect stages.Challenged None
opening_effect Offers = seen_effect stages.Offered (Some signals.Offered)

-- a leg at its opening
abbrev pub fresh_leg : Stage → SeenLeg
fresh_leg stage = record { stage = stage; doomed = false; owes = is_over stage }

-- a leg that a NEW opened, and its signal, are those of one of these openings
abbrev pub IsSeenOpening : SeenLeg → Option Signal → Type 0
IsSeenOpening new signal =
    (opening : Opening) × (new ≡ fresh_leg (opening_effect opening).stage) × (signal ≡ (opening_effect opening).signal)

-- ---- orders

-- the stage after an order; none: the stage is a wrong one
abbrev pub stage_after : Kind → Stage → Option Stage
stage_after (commands.Accept format) stages.Offered = Some stages.Linked
stage_after (commands.Reject cause) stages.Offered = Some stages.Closing
stage_after (commands.Indicate indication) stages.Linked = Some stages.Linked
stage_after commands.Answer stages.Linked = Some stages.Up
stage_after (commands.Dtmf digit) stages.Linked = Some stages.Linked
stage_after (commands.Dtmf digit) stages.Up = Some stages.Up
stage_after (commands.Media _) stages.Linked = Some stages.Linked
stage_after (commands.Media _) stages.Up = Some stages.Up
stage_after (commands.Hangup cause) stages.Closing = None
stage_after (commands.Hangup cause) stages.Ended = None
stage_after (commands.Hangup cause) stage = Some stages.Closing
stage_after (commands.Doom cause) stage = Some stage
stage_after commands.Paid stage = Some stage
stage_after kind stage = None

-- the stage of this leg after an order; none: the stage is a wrong one, or the leg is doomed and refuses the digit
abbrev pub stage_ordered : LegState → Kind → Option Stage
stage_ordered leg (commands.Dtmf digit) = if refuses_digits leg then None else stage_after (commands.Dtmf digit) leg.stage
stage_ordered leg kind = stage_after kind leg.stage

-- a leg that is carried to this stage by an order
abbrev pub ordered : Kind → SeenLeg → Stage → SeenLeg
ordered (commands.Doom cause) leg stage = record leg { doomed = leg.doomed || not (is_over leg.stage) }
ordered commands.Paid leg stage = record leg { owes = leg.owes && not (is_over leg.stage) }
ordered kind leg stage = moved leg stage

-- the leg after an order that was carried out
abbrev pub IsSeenOrder : Kind → SeenLeg → SeenLeg → Type 0
IsSeenOrder kind old new = (stage : Stage) × (stage_after kind old.stage ≡ Some stage) × (new ≡ ordered kind old stage)

-- ---- ticks

-- the possible effects of a tick on a leg, apart from its frames
pub data Lapse : Type 0 where
  Ends : Lapse
  -- a doomed leg hangs up
  ClosesDoomed : Lapse

abbrev pub lapsed : Lapse → SeenLeg → SeenLeg
lapsed Ends leg = moved leg stages.Ended
lapsed ClosesDoomed leg = if leg.doomed && not (is_over leg.stage) then moved leg stages.Closing else leg

-- the leg after a tick
abbrev pub IsSeenTick : SeenLeg → SeenLeg → Type 0
IsSeenTick old new = (new ≡ old) ⊎ ((lapse : Lapse) × (new ≡ lapsed lapse old))
