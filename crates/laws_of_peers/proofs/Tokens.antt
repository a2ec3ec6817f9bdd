-- A NEW needs a number only at a peer that is open to calls and, if its peer needs tokens, with a call token.
use Rattle.std.specs.Prelude.{◌&&◌, ◌==◌, option_map}
use Rattle.std.proofs.Common.{◌≡◌, ℕ, Bool, true, false, List, [], ◌∷◌, Option, None, Some, cond, refl, subst}
use Rattle.call_auth.specs.CallToken.{is_given}
use Rattle.call_auth.specs.declared.call_token.CallTokens.{CallTokens}
use Rattle.call_signals.specs.FrameElements.{element_in}
use Rattle.call_signals.specs.declared.rules.PeerRules.{PeerRules}
use Rattle.iax_frames.specs.FullFrame.{FullFrame}
use Rattle.iax_frames.specs.declared.full_frame.FullHead.{FullHead}
use Rattle.info_elements.specs.Numbers.{CALLTOKEN}
use Rattle.call_signals.specs.declared.outcomes.StepError.{StepError}
use Rattle.call_signals.specs.declared.outcomes.StepError.TheVariants as step_errors
use Rattle.leg_machine.specs.Message.{message_of, is_numbered}
use Rattle.leg_machine.specs.Working.{frame_refused}
use Rattle.peer_legs.specs.Legs.{NamedLeg}
use Rattle.peer_lock.specs.Delivery.{Delivery, Gets, NoCall, NoToken, Pongs, BearsToken, by_token, closed_to_calls, delivered}
use Rattle.peer_lock.specs.Delivery.{delivery_refused, found, found_refused, full_refused, let_in}
use Rattle.peer_lock.specs.Delivery.{inval_for, is_new, is_poke, is_registration, newcomer, pong_for, regrej_for}
use Rattle.peer_lock.specs.Delivery.{unknown_call}
use Rattle.peer_lock.specs.Errors.{from_step}
use Rattle.peer_lock.specs.Peer.{PeerView}
use Rattle.peer_lock.specs.Pokes.{answers_poke, is_own_pong}
use Rattle.peer_lock.specs.declared.pokes.Pokes.{Pokes}
use Rattle.peer_lock.specs.declared.errors.PeerError.TheVariants as errors
use Rattle.peer_lock.specs.declared.steps.Rejection.{Rejection}

-- at a leg it needs none
pub at_leg : (refused : Option StepError) → option_map from_step refused ≡ Some errors.NeedsNumber → ⊥
at_leg None is = cc
at_leg (Some step_errors.RecordFull) is = cc
at_leg (Some step_errors.Unaddressed) is = cc
at_leg (Some step_errors.NewUnacknowledged) is = cc
at_leg (Some step_errors.Memory) is = cc

open_to_calls : (closed : Option Rejection) (head : FullHead) → delivery_refused (let_in closed head) ≡ Some errors.NeedsNumber
    → closed ≡ None
open_to_calls None head is = refl
open_to_calls (Some why) head is = cc

given : (closed : Option Rejection) (head : FullHead) (b : Bool)
    → delivery_refused (cond b (let_in closed head) NoToken) ≡ Some errors.NeedsNumber → (b ≡ true) × (closed ≡ None)
given closed head true is = (refl, open_to_calls closed head is)
given closed head false is = cc

by_element : (closed : Option Rejection) (tokens : CallTokens) (head : FullHead) (now : ℕ) (element : Option (List ℕ))
    → delivery_refused (by_token closed tokens head now element) ≡ Some errors.NeedsNumber
    → (text : List ℕ) × (element ≡ Some text) × (is_given tokens now text ≡ true)
by_element closed tokens head now None is = cc
by_element closed tokens head now (Some []) is = cc
by_element closed tokens head now (Some (digit ∷ digits)) is =
    (digit ∷ digits, refl, (given closed head (is_given tokens now (digit ∷ digits)) is).0)

element_open : (closed : Option Rejection) (tokens : CallTokens) (head : FullHead) (now : ℕ) (element : Option (List ℕ))
    → delivery_refused (by_token closed tokens head now element) ≡ Some errors.NeedsNumber → closed ≡ None
element_open closed tokens head now None is = cc
element_open closed tokens head now (Some []) is = cc
element_open closed tokens head now (Some (digit ∷ digits)) is =
    (given closed head (is_given tokens now (digit ∷ digits)) is).1

newcomer_open : (closed : Option Rejection) (tokens : Option CallTokens) (frame : FullFrame) (now : ℕ)
    → delivery_refused (newcomer closed tokens frame now) ≡ Some errors.NeedsNumber → closed ≡ None
newcomer_open closed None frame now is = open_to_calls closed frame.head is
newcomer_open closed (Some tokens) frame now is =
    element_open closed tokens frame.head now (element_in frame CALLTOKEN) is

-- only a NEW that no leg has needs one
only_new : (nowhere new poked registers numbered : Bool) (head : FullHead) (comes : Delivery)
    → delivery_refused (cond nowhere
    (cond new comes (cond poked (Gets (pong_for head)) (cond registers (Gets (regrej_for head)) NoCall)))
    (cond numbered (Gets (inval_for head)) NoCall))
    ≡ Some errors.NeedsNumber
    → delivery_refused comes ≡ Some errors.NeedsNumber
only_new true true poked registers numbered head comes is = is
only_new true false true registers numbered head comes is = cc
only_new true false false true numbered head comes is = cc
only_new true false false false numbered head comes is = cc
only_new false new poked registers true head comes is = cc
only_new false new poked registers false head comes is = cc

-- a PONG needs none
no_pong : (own counts : Bool) (rest : Delivery) → delivery_refused (cond own (cond counts Pongs NoCall) rest)
    ≡ Some errors.NeedsNumber
    → delivery_refused rest ≡ Some errors.NeedsNumber
no_pong true true rest is = cc
no_pong true false rest is = cc
no_pong false counts rest is = is

-- .. and no frame of a leg
pub needs_new : (closed : Option Rejection) (rules : PeerRules) (pokes : Pokes) (frame : FullFrame) (now : ℕ)
    (at : Option NamedLeg)
    → found_refused at (delivered closed rules pokes at frame now) frame ≡ Some errors.NeedsNumber
    → delivery_refused (newcomer closed rules.call_tokens frame now) ≡ Some errors.NeedsNumber
needs_new closed rules pokes frame now (Some named) is = absurd (at_leg (frame_refused named.leg frame) is)
needs_new closed rules pokes frame now None is =
    let other = no_pong (is_own_pong rules frame.head) (answers_poke rules pokes frame.head)
    (unknown_call closed rules frame now) is in
    only_new (frame.head.destination == 0) (is_new (message_of frame.head) && (frame.head.oseqno == 0))
    (rules.poke && is_poke (message_of frame.head))
    (rules.is_hardened && is_registration frame.head) (is_numbered (message_of frame.head)) frame.head
    (newcomer closed rules.call_tokens frame now) other

pub calls_bear_tokens : (peer : PeerView) (frame : FullFrame) (now : ℕ) (tokens : CallTokens)
    → peer.rules.call_tokens ≡ Some tokens
    → full_refused peer frame now ≡ Some errors.NeedsNumber → BearsToken tokens now frame
calls_bear_tokens peer frame now tokens asked is =
    let closed = closed_to_calls peer in
    let new = needs_new closed peer.rules peer.pokes frame now (found peer.legs frame) is in
    by_element closed tokens frame.head now (element_in frame CALLTOKEN)
    (subst (λ (t : Option CallTokens). delivery_refused (newcomer closed t frame now) ≡ Some errors.NeedsNumber) asked new)

-- only a peer that is open to calls gives a number
pub open_alone : (peer : PeerView) (frame : FullFrame) (now : ℕ) → full_refused peer frame now ≡ Some errors.NeedsNumber
    → closed_to_calls peer ≡ None
open_alone peer frame now is =
    let closed = closed_to_calls peer in
    newcomer_open closed peer.rules.call_tokens frame now
    (needs_new closed peer.rules peer.pokes frame now (found peer.legs frame) is)
