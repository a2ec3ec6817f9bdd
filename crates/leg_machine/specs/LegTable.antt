-- The table of the leg: the effect of a taken frame, row by row ("IAX Frames", "Control Frames", "Call Setup").
pub use Rattle.call_signals.specs.FrameElements.{element_in}
use Rattle.std.specs.Prelude.{ℕ, ◌+◌, List, length, map, not, nat_le, ◌&&◌, Bool, true, false, Option, None, Some, bit_and, ◌==◌}
use Rattle.std.specs.Prelude.{bytes_eq, nat_eq, if◌then◌else◌}
use Rattle.std.specs.Char.{to_ascii_lowercase}
use Rattle.call_auth.specs.Md5Answer.{md5_answer}
use Rattle.iax_frames.specs.FullFrame.{FullFrame}
use Rattle.info_elements.specs.Element.{u16_in, u32_in}
use Rattle.info_elements.specs.Numbers.{FORMAT, AUTHMETHODS, CHALLENGE, MD5_RESULT}
use Rattle.leg_machine.specs.Effects.{row, marking, no_effect, reply_alone, hung_up, rejected, goes_on, unless_over}
use Rattle.call_signals.specs.Format.{format_bit, same_format}
use Rattle.call_signals.specs.PeerRules.{is_own}
use Rattle.leg_machine.specs.Leg.{LegState}
use Rattle.call_signals.specs.declared.cause.Cause.TheVariants.{NormalClearing, CallRejected}
use Rattle.call_signals.specs.declared.effects.Answering.TheVariants.{Acknowledged, Answered, Silent}
use Rattle.call_signals.specs.declared.effects.Effect.{Effect}
use Rattle.call_signals.specs.declared.effects.Mark.TheVariants.{Quelches, Unquelches, Authenticates}
use Rattle.call_signals.specs.declared.format.Format.{Format}
use Rattle.call_signals.specs.declared.message.Message.{Message}
use Rattle.call_signals.specs.declared.message.Message.TheVariants as messages
use Rattle.call_signals.specs.declared.reply.ReplyFrame.TheVariants as replies
use Rattle.call_signals.specs.declared.rules.PeerRules.{PeerRules}
use Rattle.call_signals.specs.declared.signal.Signal.TheVariants as signals
use Rattle.call_signals.specs.declared.stage.Stage.{Stage}
use Rattle.call_signals.specs.declared.stage.Stage.TheVariants as stages

-- ---- Challenged

-- the digits, in either case, are the MD5 answer
abbrev pub is_answer : Option (List ℕ) → Option (List ℕ) → Option (List ℕ) → Bool
is_answer (Some challenge) (Some secret) (Some digits) =
    bytes_eq (map to_ascii_lowercase digits) (md5_answer challenge secret)
is_answer _ _ _ = false

-- AUTHREP
abbrev pub challenged_auth_rep : LegState → FullFrame → Effect
challenged_auth_rep leg frame =
    if is_answer leg.challenge leg.rules.secret (element_in frame MD5_RESULT)
    then row Silent stages.Offered (Some signals.Offered)
    else rejected CallRejected

-- ---- Waiting

-- MD5 is among the methods
abbrev pub asks_md5 : Option ℕ → Bool
asks_md5 (Some methods) = bit_and methods 2 == 2
asks_md5 None = false

-- the answer to a challenge, if there are a challenge and a secret
abbrev pub answer_if : Option (List ℕ) → Option (List ℕ) → Option (List ℕ)
answer_if (Some challenge) (Some secret) = Some (md5_answer challenge secret)
answer_if _ _ = None

-- A peer that this exchange challenges may send the challenge back, to have it answered. A hardened leg doesn't answer it.
abbrev pub is_reflected : PeerRules → FullFrame → Bool
is_reflected rules frame = rules.is_hardened && is_own rules.challenge_prefix (element_in frame CHALLENGE)

-- the first AUTHREQ that asks for MD5 is answered, unless its challenge is reflected
abbrev pub auth_rep_digits : LegState → FullFrame → Option (List ℕ)
auth_rep_digits leg frame =
    if not leg.authenticated && asks_md5 (u16_in (element_in frame AUTHMETHODS)) && not (is_reflected leg.rules frame)
    then answer_if (element_in frame CHALLENGE) leg.rules.outbound_secret
    else None

abbrev pub auth_rep_row : Option (List ℕ) → Effect
auth_rep_row (Some digits) = marking (Answered (replies.AuthRep digits)) stages.Waiting Authenticates
auth_rep_row None = hung_up CallRejected

-- FORMAT is absent or the one offered
abbrev pub is_wanted : Format → Option ℕ → Bool
is_wanted format (Some bits) = bits == format_bit format
is_wanted format None = true

-- ACCEPT
abbrev pub waiting_accept : LegState → FullFrame → Effect
waiting_accept leg frame =
    if is_wanted leg.format (u32_in (element_in frame FORMAT))
    then row Acknowledged stages.Linked None
    else hung_up CallRejected

-- ---- Linked and Up

-- 1 to 1,380 octets of media
abbrev pub is_media : ℕ → Bool
is_media n = nat_le 1 n && nat_le n 1380

-- voice of the call's format, if it has media
abbrev pub voice_row : Stage → LegState → FullFrame → Format → Effect
voice_row stage leg frame voice =
    if same_format voice leg.format && is_media (length frame.payload)
    then goes_on stage (signals.Media (record { start = 12; end = 12 + length frame.payload }))
    else no_effect stage

-- ---- the rows

-- all stages
abbrev pub any_stage : Stage → FullFrame → Message → Effect
any_stage stage frame messages.Hangup = row Acknowledged stages.Ended (unless_over stage signals.Hangup)
any_stage stage frame messages.Ping = reply_alone stage (replies.Pong frame.head.timestamp)
any_stage stage frame messages.LagRq = reply_alone stage (replies.LagRp frame.head.timestamp)
any_stage stage frame messages.UnknownIax = reply_alone stage (replies.Unsupport frame.head.subclass)
any_stage stage frame _ = no_effect stage

abbrev pub challenged : LegState → FullFrame → Message → Effect
challenged leg frame messages.AuthRep = challenged_auth_rep leg frame
challenged leg frame message = any_stage stages.Challenged frame message

abbrev pub waiting : LegState → FullFrame → Message → Effect
waiting leg frame messages.AuthReq = auth_rep_row (auth_rep_digits leg frame)
waiting leg frame messages.Accept = waiting_accept leg frame
waiting leg frame messages.Reject = goes_on stages.Ended signals.Hangup
waiting leg frame message = any_stage stages.Waiting frame message

-- Linked and Up
abbrev pub talking : Stage → LegState → FullFrame → Message → Effect
talking stage leg frame messages.ClearsCall = hung_up NormalClearing
talking stage leg frame (messages.Dtmf digit) = goes_on stage (signals.Dtmf digit)
talking stage leg frame (messages.Voice voice) = voice_row stage leg frame voice
talking stage leg frame messages.Quelch = marking Acknowledged stage Quelches
talking stage leg frame messages.Unquelch = marking Acknowledged stage Unquelches
talking stage leg frame message = any_stage stage frame message

abbrev pub linked : LegState → FullFrame → Message → Effect
linked leg frame (messages.Indicates indication) = goes_on stages.Linked (signals.Indicated indication)
linked leg frame messages.Answer = goes_on stages.Up signals.Answered
linked leg frame message = talking stages.Linked leg frame message

-- the effect of a taken frame
abbrev pub effect_at : Stage → LegState → FullFrame → Message → Effect
effect_at stages.Challenged leg frame message = challenged leg frame message
effect_at stages.Waiting leg frame message = waiting leg frame message
effect_at stages.Linked leg frame message = linked leg frame message
effect_at stages.Up leg frame message = talking stages.Up leg frame message
effect_at stages.Offered leg frame message = any_stage stages.Offered frame message
effect_at stages.Closing leg frame message = any_stage stages.Closing frame message
effect_at stages.Ended leg frame message = any_stage stages.Ended frame message

abbrev pub effect_of : LegState → FullFrame → Message → Effect
effect_of leg frame message = effect_at leg.stage leg frame message
