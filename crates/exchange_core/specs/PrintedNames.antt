-- The names that are printed.
use Rattle.std.specs.Prelude.{ℕ, List, codes, Option, None, Some}
use Rattle.call_signals.specs.declared.stage.Stage.{Stage}
use Rattle.call_signals.specs.declared.stage.Stage.TheVariants as stages
use Rattle.exchange_core.specs.declared.answers.CallError.{CallError}
use Rattle.exchange_core.specs.declared.answers.CallError.TheVariants as call_errors
use Rattle.exchange_core.specs.declared.answers.Refusal.{Refusal}
use Rattle.exchange_core.specs.declared.answers.Refusal.TheVariants as refusals
use Rattle.peer_lock.specs.declared.errors.OrderError.{OrderError}
use Rattle.peer_lock.specs.declared.errors.OrderError.TheVariants as order_errors
use Rattle.peer_lock.specs.declared.steps.Rejection.{Rejection}
use Rattle.peer_lock.specs.declared.steps.Rejection.TheVariants as rejections

-- the stage of a number: that of its leg
abbrev pub stage_text : Option Stage → List ℕ
stage_text None = codes "Free"
stage_text (Some stages.Waiting) = codes "Waiting"
stage_text (Some stages.Challenged) = codes "Challenged"
stage_text (Some stages.Offered) = codes "Offered"
stage_text (Some stages.Linked) = codes "Linked"
stage_text (Some stages.Up) = codes "Up"
stage_text (Some stages.Closing) = codes "Closing"
stage_text (Some stages.Ended) = codes "Ended"

-- why a datagram or a tick was refused
abbrev pub refusal_text : Refusal → List ℕ
refusal_text refusals.Stranger = codes "Stranger"
refusal_text refusals.StepsSpent = codes "StepsSpent"
refusal_text refusals.TooLong = codes "TooLong"
refusal_text refusals.Short = codes "Short"
refusal_text refusals.MetaCommand = codes "MetaCommand"
refusal_text refusals.EntryCut = codes "EntryCut"
refusal_text refusals.NoSource = codes "NoSource"
refusal_text refusals.Cut = codes "Cut"
refusal_text refusals.NoToken = codes "NoToken"
refusal_text refusals.NoCall = codes "NoCall"
refusal_text refusals.RecordFull = codes "RecordFull"
refusal_text refusals.Unaddressed = codes "Unaddressed"
refusal_text refusals.NewUnacknowledged = codes "NewUnacknowledged"
refusal_text refusals.SerialsSpent = codes "SerialsSpent"
refusal_text refusals.NoNumber = codes "NoNumber"
refusal_text refusals.NumberBusy = codes "NumberBusy"
refusal_text refusals.Draining = codes "Draining"
refusal_text refusals.RemoteBusy = codes "RemoteBusy"
refusal_text refusals.Memory = codes "Memory"

-- why an answer rejects a request
abbrev pub rejection_text : Rejection → List ℕ
rejection_text rejections.NoNumber = codes "NoNumber"
rejection_text rejections.Draining = codes "Draining"
rejection_text rejections.Registration = codes "Registration"
rejection_text rejections.CallToken = codes "CallToken"
rejection_text rejections.ManyEntries = codes "ManyEntries"
rejection_text rejections.Reflection = codes "Reflection"

-- why no call was placed
abbrev pub call_error_text : CallError → List ℕ
call_error_text call_errors.BadNumber = codes "BadNumber"
call_error_text call_errors.SerialsSpent = codes "SerialsSpent"
call_error_text call_errors.NoNumber = codes "NoNumber"
call_error_text call_errors.StepsSpent = codes "StepsSpent"
call_error_text call_errors.NumberBusy = codes "NumberBusy"
call_error_text call_errors.Memory = codes "Memory"

-- why a leg doesn't hang up
abbrev pub order_error_text : OrderError → List ℕ
order_error_text order_errors.StepsSpent = codes "StepsSpent"
order_error_text order_errors.Gone = codes "Gone"
order_error_text order_errors.WrongStage = codes "WrongStage"
order_error_text order_errors.WindowFull = codes "WindowFull"
order_error_text order_errors.RecordFull = codes "RecordFull"
order_error_text order_errors.Memory = codes "Memory"
