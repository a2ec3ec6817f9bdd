-- The delivery of a full frame ("Full Frames", "INVAL", "NEW"), and the answer to one that no leg has ("POKE", "REJECT",
-- "REGREJ"). Call tokens are chan_iax2's; RFC 5456 has none.
use Rattle.std.specs.Prelude.{◌≡◌, ℕ, ◌+◌, ◌/◌, ◌%◌, ◌==◌, ◌&&◌, ◌||◌, Bool, true, false, List, [], ◌∷◌, Option, None, Some}
use Rattle.std.specs.Prelude.{option_map, if◌then◌else◌}
use Rattle.call_auth.specs.CallToken.{call_token, is_given}
use Rattle.call_auth.specs.declared.call_token.CallTokens.{CallTokens}
use Rattle.iax_frames.specs.FullFrame.{FullFrame, spelling}
use Rattle.iax_frames.specs.declared.full_frame.FullHead.{FullHead}
use Rattle.leg_machine.specs.Message.{message_of, is_numbered}
use Rattle.leg_machine.specs.Working.{frame_refused}
use Rattle.call_signals.specs.Codes.{FRAME_IAX, IAX_CALLTOKEN, IAX_INVAL, IAX_PONG, IAX_REJECT, IAX_REGREQ, IAX_REGREJ}
use Rattle.call_signals.specs.Codes.{IAX_REGREL}
use Rattle.call_signals.specs.FrameElements.{element_in}
use Rattle.call_signals.specs.ReplyFrame.{cause_elements, element_of}
use Rattle.call_signals.specs.declared.cause.Cause.TheVariants.{Congestion, Other}
use Rattle.call_signals.specs.declared.message.Message.{Message}
use Rattle.call_signals.specs.declared.message.Message.TheVariants.{New, Poke}
use Rattle.call_signals.specs.declared.rules.PeerRules.{PeerRules}
use Rattle.info_elements.specs.Numbers.{CALLTOKEN}
pub use Rattle.peer_legs.specs.Finding.{is_reached, can_reach, if_reached, found}
use Rattle.peer_legs.specs.Challenges.{is_crowded}
use Rattle.peer_legs.specs.Legs.{NamedLeg}
use Rattle.peer_lock.specs.Errors.{from_step}
use Rattle.peer_lock.specs.Peer.{PeerView}
use Rattle.peer_lock.specs.Pokes.{NO_CALL, answers_poke, is_own_pong}
use Rattle.peer_lock.specs.declared.pokes.Pokes.{Pokes}
use Rattle.peer_lock.specs.declared.errors.PeerError.{PeerError}
use Rattle.peer_lock.specs.declared.errors.PeerError.TheVariants as errors
use Rattle.peer_lock.specs.declared.steps.Rejection.{Rejection}
use Rattle.peer_lock.specs.declared.steps.Rejection.TheVariants as rejections
use Rattle.peer_lock.specs.declared.unknown_calls.Answer.{Answer}
use Rattle.peer_lock.specs.declared.unknown_calls.AnswerData.{AnswerData}
use Rattle.peer_lock.specs.declared.unknown_calls.AnswerData.TheVariants as data_of

-- the answer to a frame that belongs to no call
abbrev pub UnknownAnswer : Type 0
UnknownAnswer = Answer

pub data Delivery : Type 0 where
  Reaches : (named : NamedLeg) → Delivery
  -- a NEW that no leg has yet
  NeedsNumber : Delivery
  -- a NEW that no leg has yet, without a call token of its endpoint
  NoToken : Delivery
  -- no leg has it, and it gets this answer
  Gets : (answer : Answer) → Delivery
  -- no leg has it: the PONG to the last POKE
  Pongs : Delivery
  NoCall : Delivery

-- ---- kinds of frames

abbrev pub is_new : Message → Bool
is_new New = true
is_new _ = false

abbrev pub is_poke : Message → Bool
is_poke Poke = true
is_poke _ = false

-- REGREQ or REGREL. Neither is a power of two, so no octet with C set means it.
abbrev pub is_registration : FullHead → Bool
is_registration head = (head.frame_type == FRAME_IAX) && ((head.subclass == IAX_REGREQ) || (head.subclass == IAX_REGREL))

-- ---- answers

-- the data of an answer: none, a cause ("Information Elements": CAUSE and CAUSECODE), or a call token
abbrev pub answer_data : AnswerData → List ℕ
answer_data data_of.Nothing = []
answer_data (data_of.Why cause) = cause_elements cause
answer_data (data_of.Token digits) = element_of CALLTOKEN digits

abbrev pub answer_octets : Answer → List ℕ
answer_octets answer = spelling (record { head = answer.head; payload = answer_data answer.says })

-- INVAL from the number that the frame names, to its source
abbrev pub inval_for : FullHead → Answer
inval_for head = record {
  head = record {
    source = head.destination;
    retransmitted = false;
    destination = head.source;
    timestamp = 0;
    oseqno = 0;
    iseqno = 0;
    frame_type = FRAME_IAX;
    subclass = IAX_INVAL;
  };
  rejected = None;
  says = data_of.Nothing;
}

-- an answer to the source of a frame, with its timestamp, which acknowledges it
abbrev pub answer_head : FullHead → ℕ → FullHead
answer_head head subclass = record {
  source = NO_CALL;
  retransmitted = false;
  destination = head.source;
  timestamp = head.timestamp;
  oseqno = 0;
  iseqno = (head.oseqno + 1) % 256;
  frame_type = FRAME_IAX;
  subclass = subclass;
}

-- PONG to a POKE ("POKE")
abbrev pub pong_for : FullHead → Answer
pong_for head = record { head = answer_head head IAX_PONG; rejected = None; says = data_of.Nothing }

-- REJECT to a NEW that isn't let in ("REJECT"): congestion
abbrev pub reject_for : Rejection → FullHead → Answer
reject_for why head = record { head = answer_head head IAX_REJECT; rejected = Some why; says = data_of.Why Congestion }

-- REGREJ to a REGREQ or a REGREL ("REGREJ"): facility rejected, by Q.850
abbrev pub regrej_for : FullHead → Answer
regrej_for head =
    record { head = answer_head head IAX_REGREJ; rejected = Some rejections.Registration; says = data_of.Why (Other 29) }

-- CALLTOKEN to a NEW that asks for a call token: the token of the endpoint at that moment
abbrev pub token_for : CallTokens → FullHead → ℕ → Answer
token_for tokens head now =
    record {
      head = answer_head head IAX_CALLTOKEN;
      rejected = Some rejections.CallToken;
      says = data_of.Token (call_token tokens (now / 5000));
    }

-- ---- delivery

-- Why a peer lets no NEW in: it drains, or, in plan version 4, legs that wait for the answer to a challenge have half of its
-- numbers.
abbrev pub closed_to_calls : PeerView → Option Rejection
closed_to_calls peer =
    if peer.drains then Some rejections.Draining
    else if peer.rules.is_hardened && is_crowded peer.legs then Some rejections.NoNumber
    else None

-- a NEW that no leg has and that needs no further token
abbrev pub let_in : Option Rejection → FullHead → Delivery
let_in None head = NeedsNumber
let_in (Some why) head = Gets (reject_for why head)

-- .. by the element CALLTOKEN: without one it is refused, an empty one asks for a token
abbrev pub by_token : Option Rejection → CallTokens → FullHead → ℕ → Option (List ℕ) → Delivery
by_token closed tokens head now None = NoToken
by_token closed tokens head now (Some []) = Gets (token_for tokens head now)
by_token closed tokens head now (Some (digit ∷ digits)) =
    if is_given tokens now (digit ∷ digits) then let_in closed head else NoToken

-- a NEW that no leg has; it needs a token if its peer needs tokens
abbrev pub newcomer : Option Rejection → Option CallTokens → FullFrame → ℕ → Delivery
newcomer closed None frame now = let_in closed frame.head
newcomer closed (Some tokens) frame now = by_token closed tokens frame.head now (element_in frame CALLTOKEN)

-- no leg is found, and it is no PONG to a POKE: by whether the peer is closed to calls, and by its rules
abbrev pub unknown_call : Option Rejection → PeerRules → FullFrame → ℕ → Delivery
unknown_call closed rules frame now =
    if frame.head.destination == 0
    then (if is_new (message_of frame.head) && (frame.head.oseqno == 0) then newcomer closed rules.call_tokens frame now
    else if rules.poke && is_poke (message_of frame.head) then Gets (pong_for frame.head)
    else if rules.is_hardened && is_registration frame.head then Gets (regrej_for frame.head) else NoCall)
    else (if is_numbered (message_of frame.head) then Gets (inval_for frame.head) else NoCall)

-- no leg is found
abbrev pub legless : Option Rejection → PeerRules → Pokes → FullFrame → ℕ → Delivery
legless closed rules pokes frame now =
    if is_own_pong rules frame.head then (if answers_poke rules pokes frame.head then Pongs else NoCall)
    else unknown_call closed rules frame now

abbrev pub delivered : Option Rejection → PeerRules → Pokes → Option NamedLeg → FullFrame → ℕ → Delivery
delivered closed rules pokes (Some named) frame now = Reaches named
delivered closed rules pokes None frame now = legless closed rules pokes frame now

abbrev pub delivery : PeerView → FullFrame → ℕ → Delivery
delivery peer frame now = delivered (closed_to_calls peer) peer.rules peer.pokes (found peer.legs frame) frame now

-- ---- refusals

-- why the leg that gets a frame refuses it, memory aside
abbrev pub leg_refused : NamedLeg → FullFrame → Option PeerError
leg_refused named frame = option_map from_step (frame_refused named.leg frame)

-- why a delivered frame is refused, unless a leg gets it
abbrev pub delivery_refused : Delivery → Option PeerError
delivery_refused (Reaches named) = None
delivery_refused NeedsNumber = Some errors.NeedsNumber
delivery_refused NoToken = Some errors.NoToken
delivery_refused (Gets answer) = None
delivery_refused Pongs = None
delivery_refused NoCall = Some errors.NoCall

-- .. by the leg that was found, if there is one
abbrev pub found_refused : Option NamedLeg → Delivery → FullFrame → Option PeerError
found_refused (Some named) delivery frame = leg_refused named frame
found_refused None delivery frame = delivery_refused delivery

-- why a full frame is refused, memory aside
abbrev pub full_refused : PeerView → FullFrame → ℕ → Option PeerError
full_refused peer frame now = found_refused (found peer.legs frame) (delivery peer frame now) frame

-- ---- call tokens

-- a frame has a call token that its endpoint was given in these five seconds or in the five before
abbrev pub BearsToken : CallTokens → ℕ → FullFrame → Type 0
BearsToken tokens now frame = (token : List ℕ) × (element_in frame CALLTOKEN ≡ Some token) × (is_given tokens now token ≡ true)
