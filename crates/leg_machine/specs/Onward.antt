-- The answer of a leg's call, with the values of its signal.
use Rattle.std.specs.Prelude.{◌≡◌, map, Option, None, Some}
use Rattle.iax_frames.specs.FullFrame.{spelling}
use Rattle.leg_machine.specs.Leg.{LegState}
use Rattle.leg_machine.specs.Openings.{called_of, calling_of}
use Rattle.leg_machine.specs.OrderTable.{Carried}
use Rattle.leg_machine.specs.Steps.{Step}
use Rattle.call_signals.specs.declared.outcomes.Judged.TheVariants.{Unnumbered}
use Rattle.call_signals.specs.declared.outcomes.Outcome.{Outcome}
use Rattle.call_signals.specs.declared.signal.Indication.TheVariants as indications
use Rattle.call_signals.specs.declared.signal.Onward.{Onward}
use Rattle.call_signals.specs.declared.signal.Onward.TheVariants as onwards
use Rattle.call_signals.specs.declared.signal.Signal.{Signal}
use Rattle.call_signals.specs.declared.signal.Signal.TheVariants as signals

abbrev pub onward_of : LegState → Signal → Onward
onward_of leg signals.Offered =
    onwards.Offered (called_of leg) (calling_of leg) leg.format
onward_of leg (signals.Indicated indications.Ringing) = onwards.Ringing
onward_of leg (signals.Indicated indications.Progress) = onwards.Progress
onward_of leg (signals.Indicated indications.Proceeding) = onwards.Proceeding
onward_of leg signals.Answered = onwards.Answered
onward_of leg (signals.Dtmf digit) = onwards.Dtmf digit
onward_of leg (signals.Media span) = onwards.Media span
onward_of leg signals.Hangup = onwards.Hangup

abbrev pub onward_if : LegState → Option Signal → Option Onward
onward_if leg None = None
onward_if leg (Some signal) = Some (onward_of leg signal)

-- this holds for the signal that is handed up
abbrev pub HandsUp : LegState → Option Onward → (Option Signal → Type 0) → Type 0
HandsUp leg onward Holds = (signal : Option Signal) × (onward ≡ onward_if leg signal) × Holds signal

-- a call's answer to a step
abbrev pub outcome_of : Step → Outcome
outcome_of s = record { judged = s.judged; replies = map spelling s.replies; onward = onward_if s.leg s.signal }

-- a call's answer to an order
abbrev pub order_outcome : Carried → Outcome
order_outcome carried = record { judged = Unnumbered; replies = carried.datagrams; onward = None }
