-- The rows of the tables.
use Rattle.std.specs.Prelude.{Bool, true, false, Option, None, Some, if◌then◌else◌}
use Rattle.call_signals.specs.Stage.{is_over}
use Rattle.call_signals.specs.declared.cause.Cause.{Cause}
use Rattle.call_signals.specs.declared.effects.Answering.{Answering}
use Rattle.call_signals.specs.declared.effects.Answering.TheVariants.{Acknowledged, Answered, Silent}
use Rattle.call_signals.specs.declared.effects.Effect.{Effect}
use Rattle.call_signals.specs.declared.effects.Mark.{Mark}
use Rattle.call_signals.specs.declared.effects.Mark.TheVariants.{Nothing}
use Rattle.call_signals.specs.declared.reply.ReplyFrame.{ReplyFrame}
use Rattle.call_signals.specs.declared.reply.ReplyFrame.TheVariants.{Hangup, Reject}
use Rattle.call_signals.specs.declared.signal.Signal.{Signal}
use Rattle.call_signals.specs.declared.signal.Signal.TheVariants as signals
use Rattle.call_signals.specs.declared.stage.Stage.{Stage}
use Rattle.call_signals.specs.declared.stage.Stage.TheVariants.{Closing}

-- the answer, the stage afterwards, and the signal handed up
abbrev pub row : Answering → Stage → Option Signal → Effect
row answer stage signal = record { answer = answer; stage = stage; signal = signal; mark = Nothing }

-- and the mark
abbrev pub marking : Answering → Stage → Mark → Effect
marking answer stage mark = record { answer = answer; stage = stage; signal = None; mark = mark }

-- a frame without a row
abbrev pub no_effect : Stage → Effect
no_effect stage = row Acknowledged stage None

-- a numbered frame is the answer; nothing else happens
abbrev pub reply_alone : Stage → ReplyFrame → Effect
reply_alone stage reply = if is_over stage then no_effect stage else row (Answered reply) stage None

-- the call is given up
abbrev pub hung_up : Cause → Effect
hung_up cause = row (Answered (Hangup cause)) Closing (Some signals.Hangup)

-- the call is rejected
abbrev pub rejected : Cause → Effect
rejected cause = row (Answered (Reject cause)) Closing None

-- the frame is acknowledged, and something is handed up
abbrev pub goes_on : Stage → Signal → Effect
goes_on stage signal = row Acknowledged stage (Some signal)

-- a signal that is handed up unless the call is over
abbrev pub unless_over : Stage → Signal → Option Signal
unless_over stage signal = if is_over stage then None else Some signal

-- whether a numbered frame is the answer
abbrev pub is_reply : Answering → Bool
is_reply Acknowledged = false
is_reply Silent = false
is_reply (Answered reply) = true
