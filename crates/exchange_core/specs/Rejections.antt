-- The rejections in the answers of a call's steps ("REJECT", "REGREJ").
use Rattle.std.specs.Prelude.{Option, None, Some, Ok}
use Rattle.call_control.specs.declared.reply.Reply.{Reply}
use Rattle.call_control.specs.declared.reply.Reply.TheVariants as replies
use Rattle.step_log.specs.Notes.{Noted}
use Rattle.step_log.specs.declared.made.Made.{Made}
use Rattle.step_log.specs.declared.made.Made.TheVariants as mades
use Rattle.peer_lock.specs.declared.steps.Rejection.{Rejection}
use Rattle.peer_lock.specs.declared.steps.Rejection.TheVariants.{NoNumber}
use Rattle.exchange_core.specs.Since.{last_of, noted_since}

-- the rejection of a step, by its answer
abbrev pub rejection_of : Reply → Option Rejection
rejection_of (replies.Datagram (Ok heard)) = heard.rejected
rejection_of (replies.OpenIn (Ok heard)) = heard.rejected
rejection_of (replies.RejectNew (Ok done)) = Some NoNumber
rejection_of reply = None

-- .. and by its note
abbrev pub rejection_by : Made → Option Rejection
rejection_by (mades.Datagram peer octets now (Ok step) onwards) = step.rejected
rejection_by (mades.OpenIn peer name head payload now challenge (Ok step) onwards) = step.rejected
rejection_by (mades.RejectNew peer head payload (Ok step)) = Some NoNumber
rejection_by made = None

-- the last rejection in the steps that a pass has noted since, if there is one
abbrev pub rejected_since : Noted → Noted → Option Rejection
rejected_since old new = last_of rejection_by (noted_since old new) None
