-- The handling of a full frame that belongs to no leg, case by case.
use Rattle.std.specs.Prelude.{◌&&◌, ◌==◌}
use Rattle.std.proofs.Common.{ℕ, List, [], ◌∷◌, Option, None, Some, cond}
use Rattle.call_auth.specs.CallToken.{is_given}
use Rattle.call_auth.specs.declared.call_token.CallTokens.{CallTokens}
use Rattle.call_signals.specs.FrameElements.{element_in}
use Rattle.info_elements.specs.Numbers.{CALLTOKEN}
use Rattle.iax_frames.specs.declared.full_frame.FullHead.{FullHead}
use Rattle.call_signals.specs.declared.rules.PeerRules.{PeerRules}
use Rattle.iax_frames.specs.FullFrame.{FullFrame}
use Rattle.leg_machine.specs.Message.{message_of, is_numbered}
use Rattle.peer_lock.specs.Delivery.{Delivery, NeedsNumber, NoToken, Gets, Pongs, NoCall, by_token, inval_for, is_new, is_poke}
use Rattle.peer_lock.specs.Delivery.{is_registration, legless, let_in, newcomer, pong_for, regrej_for, reject_for, token_for}
use Rattle.peer_lock.specs.Delivery.{unknown_call}
use Rattle.peer_lock.specs.Pokes.{answers_poke, is_own_pong}
use Rattle.peer_lock.specs.declared.pokes.Pokes.{Pokes}
use Rattle.peer_lock.specs.declared.steps.Rejection.{Rejection}
use Rattle.peer_lock.proofs.Choices.{either}

-- .. of a NEW that needs no further token
of_let_in : (P : Delivery → Type 0) (closed : Option Rejection) (head : FullHead) → P NeedsNumber
    → ((why : Rejection) → P (Gets (reject_for why head))) → P (let_in closed head)
of_let_in P None head needs reject = needs
of_let_in P (Some why) head needs reject = reject why

by_each : (P : Delivery → Type 0) (closed : Option Rejection) (tokens : CallTokens) (head : FullHead) (now : ℕ)
    (given : Option (List ℕ)) → P NeedsNumber → P NoToken → ((why : Rejection) → P (Gets (reject_for why head)))
    → P (Gets (token_for tokens head now)) → P (by_token closed tokens head now given)
by_each P closed tokens head now None needs unheard reject token = unheard
by_each P closed tokens head now (Some []) needs unheard reject token = token
by_each P closed tokens head now (Some (digit ∷ digits)) needs unheard reject token =
    either P (is_given tokens now (digit ∷ digits)) (let_in closed head) NoToken (of_let_in P closed head needs reject) unheard

-- .. of a NEW
of_new : (P : Delivery → Type 0) (closed : Option Rejection) (tokens : Option CallTokens) (frame : FullFrame) (now : ℕ)
    → P NeedsNumber → P NoToken → ((why : Rejection) → P (Gets (reject_for why frame.head)))
    → ((tokens : CallTokens) → P (Gets (token_for tokens frame.head now)))
    → P (newcomer closed tokens frame now)
of_new P closed None frame now needs unheard reject token = of_let_in P closed frame.head needs reject
of_new P closed (Some tokens) frame now needs unheard reject token =
    by_each P closed tokens frame.head now (element_in frame CALLTOKEN) needs unheard reject (token tokens)

-- .. of a frame that is no PONG to a POKE
of_unknown : (P : Delivery → Type 0) (closed : Option Rejection) (rules : PeerRules) (frame : FullFrame) (now : ℕ) → P
    NeedsNumber → P NoToken
    → P NoCall
    → P (Gets (inval_for frame.head)) → P (Gets (pong_for frame.head)) → P (Gets (regrej_for frame.head))
    → ((why : Rejection) → P (Gets (reject_for why frame.head)))
    → ((tokens : CallTokens) → P (Gets (token_for tokens frame.head now))) → P (unknown_call closed rules frame now)
of_unknown P closed rules frame now needs unheard none inval pong regrej reject token =
    let new = newcomer closed rules.call_tokens frame now in
    let registers = cond (rules.is_hardened && is_registration frame.head) (Gets (regrej_for frame.head)) NoCall in
    let asks = cond (rules.poke && is_poke (message_of frame.head)) (Gets (pong_for frame.head)) registers in
    either P (frame.head.destination == 0) (cond (is_new (message_of frame.head) && (frame.head.oseqno == 0)) new asks)
    (cond (is_numbered (message_of frame.head)) (Gets (inval_for frame.head)) NoCall)
    (either P (is_new (message_of frame.head) && (frame.head.oseqno == 0)) new asks (of_new P closed rules.call_tokens frame now
    needs unheard reject token)
    (either P (rules.poke && is_poke (message_of frame.head)) (Gets (pong_for frame.head)) registers pong
    (either P (rules.is_hardened && is_registration frame.head) (Gets (regrej_for frame.head)) NoCall regrej none)))
    (either P (is_numbered (message_of frame.head)) (Gets (inval_for frame.head)) NoCall inval none)

-- a property of each case holds for the case at hand
pub of_each : (P : Delivery → Type 0) (closed : Option Rejection) (rules : PeerRules) (pokes : Pokes) (frame : FullFrame) (now
    : ℕ)
    → P NeedsNumber → P NoToken → P NoCall → P Pongs
    → P (Gets (inval_for frame.head)) → P (Gets (pong_for frame.head)) → P (Gets (regrej_for frame.head))
    → ((why : Rejection) → P (Gets (reject_for why frame.head)))
    → ((tokens : CallTokens) → P (Gets (token_for tokens frame.head now))) → P (legless closed rules pokes frame now)
of_each P closed rules pokes frame now needs unheard none pongs inval pong regrej reject token =
    let unknown = unknown_call closed rules frame now in
    either P (is_own_pong rules frame.head) (cond (answers_poke rules pokes frame.head) Pongs NoCall) unknown
    (either P (answers_poke rules pokes frame.head) Pongs NoCall pongs none)
    (of_unknown P closed rules frame now needs unheard none inval pong regrej reject token)
