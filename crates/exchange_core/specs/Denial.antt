-- The reason why a call is refused: by the answer to one of its first steps, and by the notes of its steps.
use Rattle.std.specs.Prelude.{ℕ, zero, suc, List, Option, None, Some, Err, option_map}
use Rattle.call_control.specs.Beginnings.{Beginning, OfDatagram, OfTick, OfCall, OfHangUp}
use Rattle.call_control.specs.declared.reply.Reply.{Reply}
use Rattle.call_control.specs.declared.reply.Reply.TheVariants as replies
use Rattle.step_log.specs.Notes.{Noted, steps_in}
use Rattle.step_log.specs.declared.made.Made.{Made}
use Rattle.step_log.specs.declared.made.Made.TheVariants as mades
use Rattle.exchange_core.specs.Refusals.{from_peer, from_open, from_reject, from_reserve}
use Rattle.exchange_core.specs.Since.{last_of, noted_since}
use Rattle.exchange_core.specs.declared.answers.Refusal.{Refusal}
use Rattle.exchange_core.specs.declared.answers.Refusal.TheVariants as refusals
use Rattle.exchange_core.specs.declared.denial.Denial.{Denial}
use Rattle.exchange_core.specs.declared.denial.Denial.TheVariants as denials

abbrev pub denial_of : Reply → Option Denial
denial_of (replies.Datagram (Err error)) = option_map denials.Call (from_peer error)
denial_of (replies.RejectNew (Err error)) = Some (denials.Call (from_reject error))
denial_of (replies.OpenIn (Err error)) = Some (denials.Call (from_open error))
denial_of (replies.OpenOut (Err error)) = Some (denials.Call (from_open error))
denial_of (replies.Reserve (Err error)) = Some (denials.Call (from_reserve error))
denial_of (replies.Tick (Err spent)) = Some (denials.Call refusals.StepsSpent)
denial_of (replies.Order (Err error)) = Some (denials.Order error)
denial_of reply = None

-- .. and by its note
abbrev pub denial_by : Made → Option Denial
denial_by (mades.Datagram peer octets now (Err error) onwards) = option_map denials.Call (from_peer error)
denial_by (mades.RejectNew peer head payload (Err error)) = Some (denials.Call (from_reject error))
denial_by (mades.OpenIn peer name head payload now challenge (Err error) onwards) = Some (denials.Call (from_open error))
denial_by (mades.OpenOut peer name called caller format now (Err error)) = Some (denials.Call (from_open error))
denial_by (mades.Reserve peer (Err error)) = Some (denials.Call (from_reserve error))
denial_by (mades.Tick peer now (Err spent)) = Some (denials.Call refusals.StepsSpent)
denial_by (mades.Order peer name order media now (Err error)) = Some (denials.Order error)
denial_by made = None

-- this denial, if no step of a peer was made
abbrev pub unless_made : ℕ → Option Denial → Option Denial
unless_made zero denial = denial
unless_made (suc steps) denial = None

-- A call is refused if no peer made a step in it. The reason is the last denial among the answers: one before it is that no
-- number is free for a NEW, which is then rejected.
abbrev pub denied_by : List Made → Option Denial
denied_by steps = unless_made (steps_in steps) (last_of denial_by steps None)

-- the reason why the call is refused whose steps a pass has noted since
abbrev pub denied_since : Noted → Noted → Option Denial
denied_since old new = denied_by (noted_since old new)

-- .. as the refusal of a datagram or a tick, which has no other denial
abbrev pub refusal_in : Option Denial → Option Refusal
refusal_in (Some (denials.Call refusal)) = Some refusal
refusal_in denial = None

abbrev pub refused_since : Noted → Noted → Option Refusal
refused_since old new = refusal_in (denied_since old new)

-- the denial after an answer: only answers to first steps count
abbrev pub noted : Option Beginning → Reply → Option Denial → Option Denial
noted (Some begun) reply denial = denial_of reply
noted None reply denial = denial

-- the reasons for which no call is placed once its number may be called
abbrev pub RefusesCall : Refusal → Type 0
RefusesCall refusals.SerialsSpent = Unit {0}
RefusesCall refusals.NoNumber = Unit {0}
RefusesCall refusals.StepsSpent = Unit {0}
RefusesCall refusals.NumberBusy = Unit {0}
RefusesCall refusals.Memory = Unit {0}
RefusesCall refusal = ⊥

-- the refusals of a call with this beginning
abbrev pub Denies : Option Beginning → Denial → Type 0
Denies (Some OfDatagram) (denials.Call refusals.Stranger) = ⊥
Denies (Some OfDatagram) (denials.Call refusal) = Unit {0}
Denies (Some OfTick) (denials.Call refusals.StepsSpent) = Unit {0}
Denies (Some OfCall) (denials.Call refusal) = RefusesCall refusal
Denies (Some OfHangUp) (denials.Order error) = Unit {0}
Denies begun denial = ⊥
