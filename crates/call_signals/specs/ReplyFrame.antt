-- The replies of a leg, and the elements of its frames ("IAX Frames", "Control Frames", "Information Elements").
use Rattle.std.specs.Prelude.{ℕ, List, [], ◌∷◌, ◌++◌, Option}
use Rattle.std.specs.Int.{w32, to_be_bytes}
use Rattle.info_elements.specs.Numbers.{CALLED_NUMBER, USERNAME, CAPABILITY, FORMAT, VERSION, AUTHMETHODS, CHALLENGE, CAUSE}
use Rattle.info_elements.specs.Numbers.{CAUSECODE}
pub use Rattle.call_signals.specs.Caller.{element_of, element_if}
use Rattle.call_signals.specs.Cause.{cause_code, cause_text}
use Rattle.call_signals.specs.Codes.{FRAME_DTMF, FRAME_CONTROL, FRAME_IAX, CONTROL_RINGING, CONTROL_ANSWER, CONTROL_PROGRESS}
use Rattle.call_signals.specs.Codes.{CONTROL_PROCEEDING}
use Rattle.call_signals.specs.Codes.{IAX_AUTHREQ, IAX_AUTHREP, IAX_ACCEPT, IAX_REJECT, IAX_HANGUP, IAX_UNSUPPORT, IAX_PING}
use Rattle.call_signals.specs.Codes.{IAX_PONG, IAX_LAGRP}
use Rattle.call_signals.specs.Format.{format_bit}
use Rattle.call_signals.specs.declared.cause.Cause.{Cause}
use Rattle.call_signals.specs.declared.format.Format.{Format}
use Rattle.call_signals.specs.declared.signal.Indication.{Indication}
use Rattle.call_signals.specs.declared.signal.Indication.TheVariants.{Ringing, Progress, Proceeding}
use Rattle.call_signals.specs.declared.reply.ReplyFrame.{ReplyFrame}
use Rattle.call_signals.specs.declared.reply.ReplyFrame.TheVariants.{AuthReq, AuthRep, Accept, Reject, Hangup, Ping, Pong, LagRp}
use Rattle.call_signals.specs.declared.reply.ReplyFrame.TheVariants.{Unsupport, Indicate, Answer, Dtmf}

abbrev pub cause_elements : Cause → List ℕ
cause_elements cause = element_of CAUSE (cause_text cause) ++ element_of CAUSECODE (cause_code cause ∷ [])

abbrev pub format_bits : Format → List ℕ
format_bits format = to_be_bytes w32 (format_bit format)

-- the data of a NEW: version 2, the elements that say who calls, and the one format
abbrev pub new_elements : Option (List ℕ) → List ℕ → List ℕ → Format → List ℕ
new_elements user called caller format =
    element_of VERSION (0 ∷ 2 ∷ []) ++ element_of CALLED_NUMBER called ++ caller
    ++ element_if USERNAME user ++ element_of FORMAT (format_bits format) ++ element_of CAPABILITY (format_bits format)

-- the data of an AUTHREQ: the method is MD5
abbrev pub auth_req_elements : Option (List ℕ) → List ℕ → List ℕ
auth_req_elements user challenge =
    element_if USERNAME user ++ element_of AUTHMETHODS (0 ∷ 2 ∷ []) ++ element_of CHALLENGE challenge

-- DTMF, control and IAX frames
abbrev pub type_of : ReplyFrame → ℕ
type_of (Dtmf digit) = FRAME_DTMF
type_of (Indicate indication) = FRAME_CONTROL
type_of Answer = FRAME_CONTROL
type_of _ = FRAME_IAX

abbrev pub indication_subclass : Indication → ℕ
indication_subclass Ringing = CONTROL_RINGING
indication_subclass Progress = CONTROL_PROGRESS
indication_subclass Proceeding = CONTROL_PROCEEDING

abbrev pub subclass_of : ReplyFrame → ℕ
subclass_of AuthReq = IAX_AUTHREQ
subclass_of (AuthRep digits) = IAX_AUTHREP
subclass_of (Accept format) = IAX_ACCEPT
subclass_of (Reject cause) = IAX_REJECT
subclass_of (Hangup cause) = IAX_HANGUP
subclass_of (Unsupport octet) = IAX_UNSUPPORT
subclass_of Ping = IAX_PING
subclass_of (Pong timestamp) = IAX_PONG
subclass_of (LagRp timestamp) = IAX_LAGRP
subclass_of (Indicate indication) = indication_subclass indication
subclass_of Answer = CONTROL_ANSWER
subclass_of (Dtmf digit) = digit

-- PONG and LAGRP have the timestamp of the frame that they answer
abbrev pub timestamp_of : ReplyFrame → ℕ → ℕ
timestamp_of (Pong timestamp) present = timestamp
timestamp_of (LagRp timestamp) present = timestamp
timestamp_of _ present = present
