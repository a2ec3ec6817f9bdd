-- A peer that drains, or whose numbers wait for answers to challenges, lets no NEW in.
use Rattle.std.specs.Prelude.{◌&&◌, ◌==◌, is_some, not}
use Rattle.std.proofs.Common.{◌≡◌, ◌≢◌, ◌∙◌, ℕ, Bool, true, false, List, [], ◌∷◌, Option, None, Some, cond, refl, subst, sym}
use Rattle.std.proofs.lemmas.Bool.{ne_eqb}
use Rattle.call_auth.specs.CallToken.{is_given}
use Rattle.call_auth.specs.declared.call_token.CallTokens.{CallTokens}
use Rattle.call_book.specs.declared.leg_name.LegName.{LegName}
use Rattle.call_signals.specs.FrameElements.{element_in}
use Rattle.call_signals.specs.declared.rules.PeerRules.{PeerRules}
use Rattle.iax_frames.specs.FullFrame.{FullFrame}
use Rattle.iax_frames.specs.declared.full_frame.FullHead.{FullHead}
use Rattle.info_elements.specs.Numbers.{CALLTOKEN}
use Rattle.leg_machine.specs.Message.{message_of, is_numbered}
use Rattle.leg_machine.specs.Working.{frame_refused}
use Rattle.peer_legs.specs.Challenges.{is_crowded}
use Rattle.peer_legs.specs.Legs.{NamedLeg, is_free_name, leg_of_remote}
use Rattle.peer_lock.specs.Delivery.{Delivery, Gets, NeedsNumber, NoCall, NoToken, Pongs, by_token, closed_to_calls, delivered}
use Rattle.peer_lock.specs.Delivery.{delivery, delivery_refused, found, found_refused, full_refused, inval_for, is_new}
use Rattle.peer_lock.specs.Delivery.{is_poke}
use Rattle.peer_lock.specs.Delivery.{is_registration, newcomer, pong_for, regrej_for, reject_for, unknown_call}
use Rattle.peer_lock.specs.Openings.{open_in_refused}
use Rattle.peer_lock.specs.Peer.{PeerView}
use Rattle.peer_lock.specs.Pokes.{answers_poke, is_own_pong}
use Rattle.peer_lock.specs.declared.errors.OpenError.{OpenError}
use Rattle.peer_lock.specs.declared.errors.OpenError.TheVariants as errors
use Rattle.peer_lock.specs.declared.errors.PeerError.TheVariants as refusals
use Rattle.peer_lock.specs.declared.pokes.Pokes.{Pokes}
use Rattle.peer_lock.specs.declared.steps.Rejection.{Rejection}
use Rattle.peer_lock.specs.declared.steps.Rejection.TheVariants as rejections
use Rattle.laws_of_peers.proofs.Tokens.{at_leg, open_alone}

-- ---- no number

unsome : (o : Option Rejection) (why : Rejection) → o ≡ Some why → o ≡ None → ⊥
unsome None why is none = cc
unsome (Some other) why is none = cc

pub draining_none : (peer : PeerView) (frame : FullFrame) (now : ℕ) → peer.drains ≡ true
    → full_refused peer frame now ≢ Some refusals.NeedsNumber
draining_none peer frame now drains =
    λ is. unsome (closed_to_calls peer) rejections.Draining (rw drains refl) (open_alone peer frame now is)

either_way : (drains : Bool) → cond drains (Some rejections.Draining) (Some rejections.NoNumber) ≡ None → ⊥
either_way true is = cc
either_way false is = cc

pub crowded_none : (peer : PeerView) (frame : FullFrame) (now : ℕ) → peer.rules.is_hardened ≡ true
    → is_crowded peer.legs ≡ true → full_refused peer frame now ≢ Some refusals.NeedsNumber
crowded_none peer frame now hardened full =
    let same : closed_to_calls peer ≡ cond peer.drains (Some rejections.Draining) (Some rejections.NoNumber) =
    rw (hardened, full) refl in
    λ is. either_way peer.drains (sym same ∙ open_alone peer frame now is)

-- ---- what would get a number is rejected

by_given : (why : Rejection) (head : FullHead) (b : Bool)
    → delivery_refused (cond b NeedsNumber NoToken) ≡ Some refusals.NeedsNumber
    → cond b (Gets (reject_for why head)) NoToken ≡ Gets (reject_for why head)
by_given why head true is = refl
by_given why head false is = cc

by_element : (why : Rejection) (tokens : CallTokens) (head : FullHead) (now : ℕ) (element : Option (List ℕ))
    → delivery_refused (by_token None tokens head now element) ≡ Some refusals.NeedsNumber
    → by_token (Some why) tokens head now element ≡ Gets (reject_for why head)
by_element why tokens head now None is = cc
by_element why tokens head now (Some []) is = cc
by_element why tokens head now (Some (digit ∷ digits)) is = by_given why head (is_given tokens now (digit ∷ digits)) is

by_tokens : (why : Rejection) (tokens : Option CallTokens) (frame : FullFrame) (now : ℕ)
    → delivery_refused (newcomer None tokens frame now) ≡ Some refusals.NeedsNumber
    → newcomer (Some why) tokens frame now ≡ Gets (reject_for why frame.head)
by_tokens why None frame now is = refl
by_tokens why (Some tokens) frame now is = by_element why tokens frame.head now (element_in frame CALLTOKEN) is

-- a frame that no leg has, by whether it has a destination, is a NEW, a POKE that is answered, a registration, numbered
abbrev unknown : (nowhere new poked registers numbered : Bool) (head : FullHead) (comes : Delivery) → Delivery
unknown nowhere new poked registers numbered head comes =
    cond nowhere (cond new comes (cond poked (Gets (pong_for head)) (cond registers (Gets (regrej_for head)) NoCall)))
    (cond numbered (Gets (inval_for head)) NoCall)

by_tests : (nowhere new poked registers numbered : Bool) (head : FullHead) (comes turns answer : Delivery)
    → (delivery_refused comes ≡ Some refusals.NeedsNumber → turns ≡ answer)
    → delivery_refused (unknown nowhere new poked registers numbered head comes) ≡ Some refusals.NeedsNumber
    → unknown nowhere new poked registers numbered head turns ≡ answer
by_tests true true poked registers numbered head comes turns answer then is = then is
by_tests true false true registers numbered head comes turns answer then is = cc
by_tests true false false true numbered head comes turns answer then is = cc
by_tests true false false false numbered head comes turns answer then is = cc
by_tests false new poked registers true head comes turns answer then is = cc
by_tests false new poked registers false head comes turns answer then is = cc

by_pong : (own counts : Bool) (rest turns answer : Delivery)
    → (delivery_refused rest ≡ Some refusals.NeedsNumber → turns ≡ answer)
    → delivery_refused (cond own (cond counts Pongs NoCall) rest) ≡ Some refusals.NeedsNumber
    → cond own (cond counts Pongs NoCall) turns ≡ answer
by_pong true true rest turns answer then is = cc
by_pong true false rest turns answer then is = cc
by_pong false counts rest turns answer then is = then is

turned : (why : Rejection) (rules : PeerRules) (pokes : Pokes) (frame : FullFrame) (now : ℕ) (at : Option NamedLeg)
    → found_refused at (delivered None rules pokes at frame now) frame ≡ Some refusals.NeedsNumber
    → delivered (Some why) rules pokes at frame now ≡ Gets (reject_for why frame.head)
turned why rules pokes frame now (Some named) is = absurd (at_leg (frame_refused named.leg frame) is)
turned why rules pokes frame now None is =
    let answer = Gets (reject_for why frame.head) in
    by_pong (is_own_pong rules frame.head) (answers_poke rules pokes frame.head) (unknown_call None rules frame now)
    (unknown_call (Some why) rules frame now) answer
    (by_tests (frame.head.destination == 0) (is_new (message_of frame.head) && (frame.head.oseqno == 0))
    (rules.poke && is_poke (message_of frame.head)) (rules.is_hardened && is_registration frame.head)
    (is_numbered (message_of frame.head)) frame.head (newcomer None rules.call_tokens frame now)
    (newcomer (Some why) rules.call_tokens frame now) answer (by_tokens why rules.call_tokens frame now)) is

pub rejected : (peer : PeerView) (frame : FullFrame) (now : ℕ) → peer.drains ≡ true
    → full_refused (record peer { drains = false }) frame now ≡ Some refusals.NeedsNumber
    → delivery peer frame now ≡ Gets (reject_for rejections.Draining frame.head)
rejected peer frame now drains is =
    let undrained = record peer { drains = false } in
    let none : closed_to_calls undrained ≡ None = open_alone undrained frame now is in
    let at : Option NamedLeg = found peer.legs frame in
    let would : found_refused at (delivered None peer.rules peer.pokes at frame now) frame ≡ Some refusals.NeedsNumber =
    subst (λ (o : Option Rejection).
    found_refused at (delivered o peer.rules peer.pokes at frame now) frame ≡ Some refusals.NeedsNumber) none is in
    rw drains (turned rejections.Draining peer.rules peer.pokes frame now at would)

-- ---- no leg

one_of : (spent busy : Bool) (rest : Option OpenError)
    → cond spent (Some errors.StepsSpent) (cond busy (Some errors.NumberBusy) (cond true (Some errors.Draining) rest)) ≢ None
one_of true busy rest is = cc
one_of false true rest is = cc
one_of false false rest is = cc

pub closed : (peer : PeerView) (credit : ℕ) (name : LegName) (source : ℕ) → peer.drains ≡ true
    → open_in_refused peer credit name source ≢ None
closed peer credit name source drains = rw drains (one_of (peer.accounts.steps == credit) (not (is_free_name peer.legs name))
    (cond (is_some (leg_of_remote peer.legs source)) (Some errors.RemoteBusy) None))

pub named : (peer : PeerView) (credit : ℕ) (name : LegName) (source : ℕ) → peer.drains ≡ true → peer.accounts.steps ≢ credit
    → is_free_name peer.legs name ≡ true → open_in_refused peer credit name source ≡ Some errors.Draining
named peer credit name source drains unspent free = rw (ne_eqb peer.accounts.steps credit unspent, free, drains) refl
