-- The part of an answer that affects the steps of a call. It omits the texts of an offer, the room of a list, a rejection,
-- and a leg's record.
use Rattle.std.specs.Prelude.{List, Option, None, Some, Ok}
use Rattle.call_book.specs.declared.leg_name.LegName.{LegName}
use Rattle.call_signals.specs.declared.signal.Signal.{Signal}
use Rattle.peer_lock.specs.declared.steps.Status.{Status}
use Rattle.call_control.specs.declared.reply.StepReply.{StepReply}
use Rattle.call_control.specs.declared.reply.Reply.{Reply}
use Rattle.call_control.specs.declared.reply.Reply.TheVariants as replies

-- the leg concerned, and the signals handed up
abbrev pub heard : Option LegName → List (LegName × Signal) → StepReply
heard touched signals =
    record { touched = touched; rejected = None; onwards = record { signals = signals; offer = None; room = 0 } }

abbrev pub seen_status : Status → Status
seen_status status = record status { held = 0; entries = 0 }

abbrev pub seen_reply : Reply → Reply
seen_reply (replies.Datagram (Ok step)) = replies.Datagram (Ok (heard step.touched step.onwards.signals))
seen_reply (replies.OpenIn (Ok step)) = replies.OpenIn (Ok (heard step.touched step.onwards.signals))
seen_reply (replies.Look (Some status)) = replies.Look (Some (seen_status status))
seen_reply reply = reply
