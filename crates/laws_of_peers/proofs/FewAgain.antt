-- A VNAK brings no more frames than a window is wide.
use Rattle.std.specs.Prelude.{option_map, is_some, ◌==◌}
use Rattle.std.specs.Option.{option_to_list}
use Rattle.std.proofs.Common.{◌≡◌, ◌≤◌, ℕ, ◌+◌, ◌&&◌, cond, List, [], ◌∷◌, Option, None, Some, length, subst, refl, arith}
use Rattle.std.proofs.lemmas.List.{length-append, length-map, length-drop, take_all}
use Rattle.call_signals.specs.Message.{message_of, is_inval, is_vnak}
use Rattle.call_signals.specs.Stage.{is_closing}
use Rattle.call_signals.specs.declared.message.Message.{Message}
use Rattle.call_signals.specs.declared.rules.PeerRules.{PeerRules}
use Rattle.call_signals.specs.declared.stage.Stage.TheVariants.{Ended}
use Rattle.iax_frames.specs.FullFrame.{FullFrame}
use Rattle.iax_frames.specs.declared.datagram.Datagram.TheVariants.{Full}
use Rattle.iax_frames.specs.declared.stored_frame.Frame.{Frame}
use Rattle.leg_machine.specs.Leg.{LegState, staged}
use Rattle.leg_machine.specs.Replies.{sent_again}
use Rattle.leg_machine.specs.Steps.{Step, answer_step, full_step, handled_step, inval_step, message_step, nothing_sent}
use Rattle.leg_machine.specs.Steps.{numbered_step, oldest_step, prepared, resend_step, vnak_step}
use Rattle.leg_machine.specs.Tie.{IsLegOf}
use Rattle.leg_machine.specs.Tries.{frames_again}
use Rattle.leg_machine.specs.Working.{acknowledged, brings_nothing, brings_oldest, counts, is_unaddressed, learnt, refusal}
use Rattle.leg_machine.specs.Working.{vnak_noted}
use Rattle.peer_legs.specs.Finding.{found}
use Rattle.peer_legs.specs.Legs.{NamedLeg}
use Rattle.peer_lock.specs.Delivery.{closed_to_calls, delivered, legless}
use Rattle.laws_of_peers.specs.Loads.{datagram_load, delivered_load}
use Rattle.peer_lock.specs.Peer.{PeerView}
use Rattle.peer_lock.specs.declared.steps.Rejection.{Rejection}
use Rattle.peer_lock.specs.declared.pokes.Pokes.{Pokes}
use Rattle.peer_lock.specs.SoundPeer.{IsSoundPeer}
use Rattle.peer_lock.proofs.Choices.{either}
use Rattle.laws_of_peers.proofs.UnknownCalls.{of_each}
use Rattle.laws_of_peers.proofs.RoomSteps.{inval_few, numbered_few}
use Rattle.laws_of_peers.proofs.SeenArrivals.{found_named}
use Rattle.seq_window.specs.Entry.{Entry}
use Rattle.seq_window.specs.History.{IsWithinWindow, acked_count, held, sent_count}
use Rattle.seq_window.specs.Window.{Sending, count_of, held_at, held_count, held_frames, judged_acknowledgement, numbered_from}
use Rattle.seq_window.specs.declared.judgements.Acknowledged.{Acknowledged}

-- ---- what is held

from_few : (first : ℕ) (frames : List Frame) (sendings : List Sending) → length (numbered_from first frames sendings)
    ≤ length sendings
from_few first [] sendings = omega arith
from_few first (frame ∷ frames) [] = omega arith
from_few first (frame ∷ frames) (s ∷ sendings) = omega (arith, from_few (first + 1) frames sendings)

within_few : (width : ℕ) (history : List Entry) (held : ℕ) → IsWithinWindow width history
    → held + acked_count history ≡ sent_count history → held ≤ width
within_few width history held within count = omega (arith, within.held, count)

held_few : (rules : PeerRules) (leg : LegState) → IsLegOf rules leg → held_count leg.window ≤ rules.window
held_few rules leg is =
    let whole : IsWithinWindow leg.window.width leg.window.history =
    subst (λ (h : List Entry). IsWithinWindow leg.window.width h) (take_all (length leg.window.history) leg.window.history
    (omega arith))
    (is.legal.at_each_moment (length leg.window.history)) in
    subst (λ (width : ℕ). held_count leg.window ≤ width) is.width (within_few leg.window.width leg.window.history
    (held_count leg.window) whole is.held)

-- a frame that comes takes off some
prepared_few : (leg : LegState) (frame : FullFrame) → held_count (prepared leg frame).window ≤ held_count leg.window
prepared_few leg frame =
    let judged : LegState = acknowledged (learnt leg frame.head.source) frame.head.iseqno in
    let count : ℕ = count_of (judged_acknowledgement leg.window.history frame.head.iseqno) in
    let fewer : held_count judged.window ≤ held_count leg.window = omega (arith, length-drop count leg.window.sendings) in
    either (λ (l : LegState). held_count l.window ≤ held_count leg.window)
    (is_closing judged.stage && (held_count judged.window == 0))
    (staged judged Ended) judged fewer fewer

-- ---- retransmitted datagrams

list_few : {A : Type 0} (o : Option A) → length (option_to_list o) ≤ 1
list_few None = omega arith
list_few (Some one) = omega arith

-- to a leg that holds so few
answer_few : (most : ℕ) (leg : LegState) (number now : ℕ) → 2 ≤ most → held_count leg.window ≤ most
    → length (answer_step leg number now).replies ≤ most
answer_few most leg number now some few =
    let noted : LegState = vnak_noted leg number now in
    let oldest = list_few (option_map (sent_again noted) (held_at noted.window 0)) in
    let next = list_few (option_map (sent_again noted) (held_at noted.window 1)) in
    let both = length-append (frames_again noted 0) (frames_again noted 1) in
    let all = from_few (acked_count leg.window.history) (held leg.window.history) leg.window.sendings in
    let P : Step → Type 0 = λ s. length s.replies ≤ most in
    either P (brings_nothing leg number now) (nothing_sent leg)
    (cond (brings_oldest leg now) (oldest_step noted now) (resend_step noted now)) (omega arith)
    (either P (brings_oldest leg now) (oldest_step noted now) (resend_step noted now) (omega (arith, oldest, next, both, some))
    (omega (arith, length-map (held_frames leg.window) (sent_again noted), all, few)))

vnak_few_at : (most : ℕ) (judged : Acknowledged) (leg : LegState) (number now : ℕ) → 2 ≤ most → held_count leg.window ≤ most
    → length (vnak_step judged leg number now).replies ≤ most
vnak_few_at most judged leg number now some few =
    either (λ (s : Step). length s.replies ≤ most) (counts judged) (answer_step leg number now) (nothing_sent leg)
    (answer_few most leg number now some few) (omega arith)

message_few_at : (most : ℕ) (message : Message) (leg : LegState) (frame : FullFrame) (now : ℕ) → 2 ≤ most
    → held_count leg.window ≤ most
    → length (message_step message leg frame now).replies ≤ most
message_few_at most message leg frame now some few =
    let numbered : Step = numbered_step (prepared leg frame) frame message now in
    let judged : Acknowledged = judged_acknowledgement leg.window.history frame.head.iseqno in
    let asked : Step = vnak_step judged (prepared leg frame) frame.head.iseqno now in
    let P : Step → Type 0 = λ s. length s.replies ≤ most in
    either P (is_inval message) (inval_step leg frame now) (cond (is_vnak message) asked numbered)
    (omega (arith, inval_few leg frame now, some))
    (either P (is_vnak message) asked numbered
    (vnak_few_at most judged (prepared leg frame) frame.head.iseqno now some (omega (arith, prepared_few leg frame, few)))
    (omega (arith, numbered_few (prepared leg frame) frame message now, some)))

full_few_at : (most : ℕ) (leg : LegState) (frame : FullFrame) (now : ℕ) → 2 ≤ most → held_count leg.window ≤ most
    → length (full_step leg frame now).replies ≤ most
full_few_at most leg frame now some few =
    let message = message_of frame.head in
    let P : Step → Type 0 = λ s. length s.replies ≤ most in
    either P (is_some (refusal leg frame)) (nothing_sent leg) (handled_step leg frame now) (omega arith)
    (either P (is_unaddressed leg frame) (numbered_step leg frame message now) (message_step message leg frame now)
    (omega (arith, numbered_few leg frame message now, some)) (message_few_at most message leg frame now some few))

-- ---- at a peer

-- without a leg
unknown_few : (closed : Option Rejection) (rules : PeerRules) (pokes : Pokes) (frame : FullFrame) (now : ℕ)
    → (delivered_load (legless closed rules pokes frame now) frame now).datagrams ≤ 127
unknown_few closed rules pokes frame now =
    of_each (λ d. (delivered_load d frame now).datagrams ≤ 127) closed rules pokes frame now (omega arith) (omega arith)
    (omega arith) (omega arith) (omega arith) (omega arith) (omega arith)
    (λ why. omega arith)
    (λ tokens. omega arith)

found_few : (peer : PeerView) (frame : FullFrame) (now : ℕ) (o : Option NamedLeg) → IsSoundPeer peer → found peer.legs frame ≡ o
    → (delivered_load (delivered (closed_to_calls peer) peer.rules peer.pokes o frame now) frame now).datagrams ≤ 127
found_few peer frame now None sound is = unknown_few (closed_to_calls peer) peer.rules peer.pokes frame now
found_few peer frame now (Some named) sound is =
    let at = found_named peer.legs frame named sound.legs is in
    let few = held_few peer.rules named.leg (sound.kept.ruled named.name.number named at) in
    full_few_at 127 named.leg frame now (omega arith) (omega (arith, few, sound.kept.rules.window.1))

pub vnak_few : (peer : PeerView) (frame : FullFrame) (now : ℕ) → IsSoundPeer peer
    → (datagram_load peer (Full frame) now).datagrams ≤ 127
vnak_few peer frame now sound = found_few peer frame now (found peer.legs frame) sound refl
