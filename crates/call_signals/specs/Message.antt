-- The meaning of a full frame, by its type and the meaning of C and subclass.
use Rattle.std.specs.Prelude.{ℕ, List, codes, Bool, true, false, ◌==◌, nat_lt, Option, Some, None, if◌then◌else◌}
use Rattle.iax_frames.specs.declared.full_frame.FullHead.{FullHead}
use Rattle.iax_frames.specs.FullFrame.{subclass_meaning}
use Rattle.call_signals.specs.Codes.{FRAME_DTMF, FRAME_VOICE, FRAME_CONTROL, FRAME_IAX}
use Rattle.call_signals.specs.Codes.{CONTROL_HANGUP, CONTROL_RINGING, CONTROL_ANSWER, CONTROL_BUSY, CONTROL_CONGESTION}
use Rattle.call_signals.specs.Codes.{CONTROL_PROGRESS, CONTROL_PROCEEDING}
use Rattle.call_signals.specs.Codes.{IAX_NEW, IAX_PING, IAX_PONG, IAX_ACK, IAX_HANGUP, IAX_REJECT, IAX_ACCEPT, IAX_AUTHREQ}
use Rattle.call_signals.specs.Codes.{IAX_AUTHREP, IAX_INVAL}
use Rattle.call_signals.specs.Codes.{IAX_LAGRQ, IAX_LAGRP, IAX_VNAK, IAX_TXCNT, IAX_TXACC, IAX_QUELCH, IAX_UNQUELCH, IAX_POKE}
use Rattle.call_signals.specs.Codes.{IAX_UNSUPPORT}
use Rattle.call_signals.specs.Format.{format_of_bit, same_format}
use Rattle.call_signals.specs.Signal.{indication_name}
use Rattle.call_signals.specs.declared.format.Format.{Format}
use Rattle.call_signals.specs.declared.signal.Indication.TheVariants.{Ringing, Progress, Proceeding}
use Rattle.call_signals.specs.declared.message.Message.{Message}
use Rattle.call_signals.specs.declared.message.Message.TheVariants.{New, Ping, Pong, Ack, Hangup, Reject, Accept, AuthReq}
use Rattle.call_signals.specs.declared.message.Message.TheVariants.{AuthRep, Inval, LagRq, LagRp, Vnak, TxCnt, TxAcc, Quelch}
use Rattle.call_signals.specs.declared.message.Message.TheVariants.{Unquelch, Poke, Unsupport, UnknownIax, ClearsCall, Indicates}
use Rattle.call_signals.specs.declared.message.Message.TheVariants.{Answer, Dtmf, Voice, Other}

-- "IAX Frames"
abbrev pub iax_message : ℕ → Message
iax_message subclass =
    if subclass == IAX_NEW then New
    else if subclass == IAX_PING then Ping
    else if subclass == IAX_PONG then Pong
    else if subclass == IAX_ACK then Ack
    else if subclass == IAX_HANGUP then Hangup
    else if subclass == IAX_REJECT then Reject
    else if subclass == IAX_ACCEPT then Accept
    else if subclass == IAX_AUTHREQ then AuthReq
    else if subclass == IAX_AUTHREP then AuthRep
    else if subclass == IAX_INVAL then Inval
    else if subclass == IAX_LAGRQ then LagRq
    else if subclass == IAX_LAGRP then LagRp
    else if subclass == IAX_VNAK then Vnak
    else if subclass == IAX_TXCNT then TxCnt
    else if subclass == IAX_TXACC then TxAcc
    else if subclass == IAX_QUELCH then Quelch
    else if subclass == IAX_UNQUELCH then Unquelch
    else if subclass == IAX_POKE then Poke
    else if subclass == IAX_UNSUPPORT then Unsupport
    else UnknownIax

-- "Control Frames"
abbrev pub control_message : ℕ → Message
control_message subclass =
    if subclass == CONTROL_HANGUP then ClearsCall
    else if subclass == CONTROL_RINGING then Indicates Ringing
    else if subclass == CONTROL_ANSWER then Answer
    else if subclass == CONTROL_BUSY then ClearsCall
    else if subclass == CONTROL_CONGESTION then ClearsCall
    else if subclass == CONTROL_PROGRESS then Indicates Progress
    else if subclass == CONTROL_PROCEEDING then Indicates Proceeding
    else Other

-- "DTMF Frames"
abbrev pub dtmf_message : ℕ → Message
dtmf_message subclass = if nat_lt subclass 128 then Dtmf subclass else Other

-- "Voice Frames", "Media Formats"
abbrev pub voice_in : Option Format → Message
voice_in (Some format) = Voice format
voice_in None = Other

abbrev pub voice_message : ℕ → Message
voice_message subclass = voice_in (format_of_bit subclass)

-- "Frame Types"
abbrev pub by_type : ℕ → ℕ → Message
by_type frame_type subclass =
    if frame_type == FRAME_DTMF then dtmf_message subclass
    else if frame_type == FRAME_VOICE then voice_message subclass
    else if frame_type == FRAME_CONTROL then control_message subclass
    else if frame_type == FRAME_IAX then iax_message subclass
    else Other

-- an octet of C and subclass that means nothing is an unknown subclass
abbrev pub message_by : ℕ → Option ℕ → Message
message_by frame_type (Some subclass) = by_type frame_type subclass
message_by frame_type None = if frame_type == FRAME_IAX then UnknownIax else Other

abbrev pub message_of : FullHead → Message
message_of head = message_by head.frame_type (subclass_meaning head.subclass)

-- all but five advance the sequence numbers ("Message Transport")
abbrev pub is_numbered : Message → Bool
is_numbered Ack = false
is_numbered Inval = false
is_numbered Vnak = false
is_numbered TxCnt = false
is_numbered TxAcc = false
is_numbered _ = true

abbrev pub is_inval : Message → Bool
is_inval Inval = true
is_inval _ = false

abbrev pub is_vnak : Message → Bool
is_vnak Vnak = true
is_vnak _ = false

-- it accepts, challenges, rejects or ends a call: an answer to a NEW ("Call Setup")
abbrev pub answers_new : Message → Bool
answers_new Accept = true
answers_new AuthReq = true
answers_new Reject = true
answers_new Hangup = true
answers_new _ = false

abbrev pub is_voice_in : Format → Message → Bool
is_voice_in format (Voice voice) = same_format voice format
is_voice_in format _ = false

-- its name ("Frame Types", "Control Frames", "IAX Frames"); a description if it has no one name
abbrev pub name_of : Message → List ℕ
name_of New = codes "NEW"
name_of Ping = codes "PING"
name_of Pong = codes "PONG"
name_of Ack = codes "ACK"
name_of Hangup = codes "HANGUP"
name_of Reject = codes "REJECT"
name_of Accept = codes "ACCEPT"
name_of AuthReq = codes "AUTHREQ"
name_of AuthRep = codes "AUTHREP"
name_of Inval = codes "INVAL"
name_of LagRq = codes "LAGRQ"
name_of LagRp = codes "LAGRP"
name_of Vnak = codes "VNAK"
name_of TxCnt = codes "TXCNT"
name_of TxAcc = codes "TXACC"
name_of Quelch = codes "QUELCH"
name_of Unquelch = codes "UNQUELCH"
name_of Poke = codes "POKE"
name_of Unsupport = codes "UNSUPPORT"
name_of UnknownIax = codes "unknown IAX frame"
name_of ClearsCall = codes "clearing control frame"
name_of (Indicates indication) = indication_name indication
name_of Answer = codes "ANSWER"
name_of (Dtmf digit) = codes "DTMF"
name_of (Voice format) = codes "VOICE"
name_of Other = codes "other frame"
