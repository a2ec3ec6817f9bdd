-- The frames that a leg writes ("Full Frames", "IAX Frames", "Control Frames", "Information Elements").
pub use Rattle.call_signals.specs.ReplyFrame.{element_of, element_if, cause_elements, format_bits, new_elements}
pub use Rattle.call_signals.specs.ReplyFrame.{auth_req_elements}
pub use Rattle.call_signals.specs.ReplyFrame.{type_of, indication_subclass, subclass_of, timestamp_of}
use Rattle.std.specs.Prelude.{ℕ, Bool, true, false, ◌-◌, ◌%◌, ◌^◌, List, [], ◌∷◌, unwrap_or}
use Rattle.iax_frames.specs.FullFrame.{FullFrame}
use Rattle.iax_frames.specs.declared.stored_frame.Frame.{Frame}
use Rattle.info_elements.specs.Numbers.{FORMAT, MD5_RESULT, IAX_UNKNOWN}
use Rattle.resend_queue.specs.declared.held_frame.Held.{Held}
use Rattle.seq_window.specs.History.{sent_count, taken_count}
use Rattle.call_signals.specs.Codes.{FRAME_VOICE, FRAME_IAX, IAX_NEW, IAX_ACK, IAX_VNAK}
use Rattle.call_signals.specs.Format.{format_bit}
use Rattle.leg_machine.specs.Leg.{LegState}
use Rattle.call_signals.specs.declared.reply.ReplyFrame.{ReplyFrame}
use Rattle.call_signals.specs.declared.reply.ReplyFrame.TheVariants.{AuthReq, AuthRep, Accept, Reject, Hangup, Ping, Pong, LagRp}
use Rattle.call_signals.specs.declared.reply.ReplyFrame.TheVariants.{Unsupport, Indicate, Answer, Dtmf}

-- the data of a reply
abbrev pub data_of : LegState → ReplyFrame → List ℕ
data_of leg AuthReq = auth_req_elements leg.rules.user (unwrap_or leg.challenge [])
data_of leg (AuthRep digits) = element_of MD5_RESULT digits
data_of leg (Accept format) = element_of FORMAT (format_bits format)
data_of leg (Reject cause) = cause_elements cause
data_of leg (Hangup cause) = cause_elements cause
data_of leg (Unsupport octet) = element_of IAX_UNKNOWN (octet ∷ [])
data_of leg Ping = []
data_of leg (Pong timestamp) = []
data_of leg (LagRp timestamp) = []
data_of leg (Indicate indication) = []
data_of leg Answer = []
data_of leg (Dtmf digit) = []

-- milliseconds since the opening, modulo 2 ^ 32
abbrev pub present_of : LegState → ℕ → ℕ
present_of leg now = (now - leg.opened) % 2 ^ 32

abbrev pub reply_frame : LegState → ℕ → ReplyFrame → Frame
reply_frame leg now reply = record {
  ts = timestamp_of reply (present_of leg now);
  kind = type_of reply;
  subclass = subclass_of reply;
  payload = data_of leg reply;
}

-- the NEW of a call from here
abbrev pub new_frame_with : LegState → ℕ → List ℕ → Frame
new_frame_with leg now elements = record { ts = present_of leg now; kind = FRAME_IAX; subclass = IAX_NEW; payload = elements }

abbrev pub new_frame : LegState → ℕ → List ℕ → List ℕ → Frame
new_frame leg now called caller = new_frame_with leg now (new_elements leg.rules.user called caller leg.format)

-- media as a full frame
abbrev pub voice_frame : LegState → ℕ → List ℕ → Frame
voice_frame leg now media = record {
  ts = present_of leg now;
  kind = FRAME_VOICE;
  subclass = format_bit leg.format;
  payload = media;
}

-- A frame as this leg sends it: with the number of this byte, and the number that the leg expects next.
abbrev pub outgoing : LegState → Bool → ℕ → Frame → FullFrame
outgoing leg again byte frame = record {
  head = record {
    source = leg.number;
    retransmitted = again;
    destination = unwrap_or leg.remote 0;
    timestamp = frame.ts;
    oseqno = byte;
    iseqno = taken_count leg.window.history % 256;
    frame_type = frame.kind;
    subclass = frame.subclass;
  };
  payload = frame.payload;
}

-- the byte of the next number
abbrev pub next_byte : LegState → ℕ
next_byte leg = sent_count leg.window.history % 256

-- an IAX frame that isn't numbered, with the timestamp of the frame that it answers
abbrev pub unnumbered : LegState → ℕ → ℕ → FullFrame
unnumbered leg subclass timestamp =
    outgoing leg false (next_byte leg) (record { ts = timestamp; kind = FRAME_IAX; subclass = subclass; payload = [] })

abbrev pub ack : LegState → FullFrame → FullFrame
ack leg frame = unnumbered leg IAX_ACK frame.head.timestamp

abbrev pub vnak : LegState → FullFrame → FullFrame
vnak leg frame = unnumbered leg IAX_VNAK frame.head.timestamp

-- a held frame as it is retransmitted
abbrev pub sent_again : LegState → Held Frame → FullFrame
sent_again leg held = outgoing leg true held.number held.frame
