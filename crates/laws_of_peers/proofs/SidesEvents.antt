-- A side of a network can add to its record, and send, all that a step of a leg adds and sends.
use Rattle.std.specs.Prelude.{◌&&◌}
use Rattle.std.proofs.Common.{◌≡◌, ℕ, suc, ◌+◌, ◌-◌, ◌<◌, ◌≤◌, nat_lt, Bool, true, false, cond, All, List, [], ◌∷◌, ◌++◌, length}
use Rattle.std.proofs.Common.{Option, Some, None, slice_get, refl, ap, sym, subst, ◌∙◌, arith}
use Rattle.std.proofs.lemmas.Bool.{lt-ltb}
use Rattle.std.proofs.lemmas.List.{append-nil, length-append, length-drop, take_all}
use Rattle.std.proofs.lemmas.Option.{slice_get_within}
use Rattle.call_book.specs.declared.leg_name.LegName.{LegName}
use Rattle.call_signals.specs.Message.{message_of, is_numbered}
use Rattle.call_signals.specs.declared.message.Message.{Message}
use Rattle.call_signals.specs.declared.message.Message.TheVariants.{New}
use Rattle.call_signals.specs.declared.rules.PeerRules.{PeerRules}
use Rattle.iax_frames.specs.FullFrame.{FullFrame}
use Rattle.iax_frames.specs.declared.stored_frame.Frame.{Frame}
use Rattle.leg_machine.specs.Leg.{LegState}
use Rattle.leg_machine.specs.Tie.{TakesTurn, SendsAtMostOne, IsSending, numbered_frame}
use Rattle.leg_machine.specs.Working.{stored}
use Rattle.peer_legs.specs.Legs.{NamedLeg, PeerLegs, IsLegOf, leg_at}
use Rattle.peer_legs.proofs.PlaceLaws.{placed_there, stands_at}
use Rattle.peer_lock.specs.Delivery.{is_new}
use Rattle.peer_lock.specs.Peer.{PeerView}
use Rattle.laws_of_peers.specs.Sides.{OneSteps, TakesTurnAtLeg, SendsAtLeg, TakesNew, SendsNew, SendsAt, EachSends}
use Rattle.laws_of_peers.specs.Sides.{IsSideOf, Bears, IsSentBy, IsSentByOrMini, TurnsInto, SendsInto, unused_side}
use Rattle.peer_lock.specs.SoundPeer.{IsSoundPeer}
use Rattle.seq_window.specs.Entry.{Entry, Sent, Acked, Taken}
use Rattle.seq_window.specs.History.{IsLegal, IsWithinWindow, held, sent_count}
use Rattle.seq_window.specs.Network.{Action, SendNumbered, SendUnnumbered, Retransmit, JudgeAcknowledgement, JudgeNumber}
use Rattle.seq_window.specs.Network.{Datagram, Side, added_in_turn, actions_in_turn, after, after_all, after_retransmission}
use Rattle.seq_window.specs.Network.{after_acknowledgement, after_number, after_reception, reply_actions}
use Rattle.seq_window.specs.Turn.{Turn, entries_for_reply, entries_in_turn}
use Rattle.peer_lock.proofs.Choices.{either}
use Rattle.laws_of_peers.proofs.SidesSent.{acked_before, before_within, sendings_out, or_minis_out}

-- ---- an action leaves the sizes of a side's window

record HasSizes (width limit : ℕ) (own : Side) : Type 0 where
  pub width_is : own.width ≡ width
  pub limit_is : own.limit ≡ limit

retransmitted : (own : Side) (place : ℕ) (frame : Option Frame)
    → HasSizes own.width own.limit (after_retransmission own place frame)
retransmitted own place None = record { width_is = refl; limit_is = refl }
retransmitted own place (Some frame) = record { width_is = refl; limit_is = refl }

acknowledged : (own : Side) (datagram : Option Datagram) → HasSizes own.width own.limit (after_acknowledgement own datagram)
acknowledged own None = record { width_is = refl; limit_is = refl }
acknowledged own (Some datagram) = record { width_is = refl; limit_is = refl }

numbered : (own : Side) (number : ℕ) (frame : Option Frame) → HasSizes own.width own.limit (after_number own number frame)
numbered own number None = record { width_is = refl; limit_is = refl }
numbered own number (Some frame) = record { width_is = refl; limit_is = refl }

received : (own : Side) (datagram : Option Datagram) → HasSizes own.width own.limit (after_reception own datagram)
received own None = record { width_is = refl; limit_is = refl }
received own (Some datagram) = numbered own datagram.number datagram.frame

acted : (action : Action) (own other : Side) → HasSizes own.width own.limit (after action own other)
acted (SendNumbered frame) own other =
    either (HasSizes own.width own.limit) (nat_lt (length (held own.history)) own.width && nat_lt (length own.history) own.limit)
    _ own
    (record { width_is = refl; limit_is = refl }) (record { width_is = refl; limit_is = refl })
acted SendUnnumbered own other = record { width_is = refl; limit_is = refl }
acted (Retransmit place) own other = retransmitted own place (slice_get (held own.history) place)
acted (JudgeAcknowledgement which) own other = acknowledged own (slice_get other.datagrams which)
acted (JudgeNumber which) own other = received own (slice_get other.datagrams which)

all_acted : (actions : List Action) (own other : Side) → HasSizes own.width own.limit (after_all actions own other)
all_acted [] own other = record { width_is = refl; limit_is = refl }
all_acted (action ∷ actions) own other =
    let one = acted action own other in
    let rest = all_acted actions (after action own other) other in
    record { width_is = rest.width_is ∙ one.width_is; limit_is = rest.limit_is ∙ one.limit_is }

acts : (rules : PeerRules) (new : LegState) (own other : Side) (actions : List Action) → own.width ≡ rules.window
    → own.limit ≡ rules.record_limit
    → (after_all actions own other).history ≡ new.window.history → IsSideOf rules new (after_all actions own other)
acts rules new own other actions width limit becomes =
    let sizes = all_acted actions own other in
    record { width = sizes.width_is ∙ width; limit = sizes.limit_is ∙ limit; history = becomes }

-- the record of a leg of the peer is legal
legal_by : (rules : PeerRules) (leg : LegState) → IsLegOf rules leg → IsLegal rules.window rules.record_limit leg.window.history
legal_by rules leg is =
    subst (λ (limit : ℕ). IsLegal rules.window limit leg.window.history) is.limit
    (subst (λ (width : ℕ). IsLegal width leg.window.limit leg.window.history) is.width is.legal)

within : (first number count : ℕ) → first ≤ number → number - first < count → number < first + count
within first number count le lt = omega (arith, le, lt)

-- the leg that stepped is under its number
pub leg_after : (old new : PeerView) (named : NamedLeg) (leg : LegState) (datagrams : List (List ℕ))
    → OneSteps old new named leg datagrams
    → leg_at new.legs named.name.number ≡ Some (record { name = named.name; leg = leg })
leg_after old new named leg datagrams steps =
    let here = stands_at old.legs named.name.number named steps.at in
    ap (λ (legs : PeerLegs). leg_at legs named.name.number) steps.legs
    ∙ placed_there old.legs named.name.number (Some (record { name = named.name; leg = leg })) here.first
    (within old.legs.first named.name.number (length old.legs.places) here.first
    (slice_get_within old.legs.places (named.name.number - old.legs.first) (Some named) here.place))

-- ---- a sent frame

sent_more : (entries : List Entry) (frame : Frame) → sent_count (entries ++ Sent frame ∷ []) ≡ suc (sent_count entries)
sent_more [] frame = refl
sent_more (Sent one ∷ entries) frame = ap suc (sent_more entries frame)
sent_more (Acked count ∷ entries) frame = sent_more entries frame
sent_more (Taken one ∷ entries) frame = sent_more entries frame

both_true : (a b : Bool) → a ≡ true → b ≡ true → (a && b) ≡ true
both_true true b one other = other
both_true false b one other = cc

-- a side that sends a frame and whose record stays legal
module _ (own other : Side) (frame : Frame) (legal : IsLegal own.width own.limit (own.history ++ Sent frame ∷ [])) where
  abbrev after_it : List Entry
  after_it = own.history ++ Sent frame ∷ []

  now : IsWithinWindow own.width after_it
  now = subst (IsWithinWindow own.width) (take_all (length after_it) after_it (omega arith))
      (legal.at_each_moment (length after_it))

  before_it : IsWithinWindow own.width own.history
  before_it = before_within own.width own.limit own.history frame legal

  has_room : nat_lt (length (held own.history)) own.width ≡ true
  has_room = lt-ltb (length (held own.history)) own.width
      (omega (
        arith,
        now.held,
        before_it.acked,
        sent_more own.history frame,
        acked_before own.history frame,
        length-drop {A = Frame},
      ))

  has_entry : nat_lt (length own.history) own.limit ≡ true
  has_entry = lt-ltb (length own.history) own.limit
      (omega (arith, legal.within_limit, length-append own.history (Sent frame ∷ [])))

  pub sent_after : (after (SendNumbered frame) own other).history ≡ own.history ++ Sent frame ∷ []
  sent_after =
      rw (both_true (nat_lt (length (held own.history)) own.width) (nat_lt (length own.history) own.limit) has_room has_entry)
      refl

replied : (own other : Side) (sent : Option Frame) → IsLegal own.width own.limit (own.history ++ entries_for_reply sent)
    → (after_all (reply_actions sent) own other).history ≡ own.history ++ entries_for_reply sent
replied own other None legal = simp append-nil
replied own other (Some frame) legal = sent_after own other frame legal

-- by sending at most one frame a side comes to a record
abbrev SendsTo : PeerRules → Side → Side → LegState → Type 0
SendsTo rules own other leg = (sent : Option Frame) × IsSideOf rules leg (after_all (reply_actions sent) own other)

-- the record after it is known
sends_to : (rules : PeerRules) (new : LegState) (own other : Side) (sent : Option Frame) → IsLegOf rules new
    → own.width ≡ rules.window
    → own.limit ≡ rules.record_limit → new.window.history ≡ own.history ++ entries_for_reply sent → SendsTo rules own other new
sends_to rules new own other sent goes width limit grown =
    let legal : IsLegal own.width own.limit (own.history ++ entries_for_reply sent) =
    subst (IsLegal own.width own.limit) grown (rw (width, limit) (legal_by rules new goes)) in
    (sent, acts rules new own other (reply_actions sent) width limit (replied own other sent legal ∙ sym grown))

sends_events : (rules : PeerRules) (leg new : LegState) (own other : Side) → SendsAtMostOne leg new → IsLegOf rules new
    → IsSideOf rules leg own → SendsTo rules own other new
sends_events rules leg new own other sends goes is =
    let grown : new.window.history ≡ own.history ++ entries_for_reply sends.0 = sends.1 ∙ ap (λ h. h ++ entries_for_reply sends.0)
    (sym is.history) in
    sends_to rules new own other sends.0 goes is.width is.limit grown

-- ---- a full frame

numbered_new : (message : Message) → is_new message ≡ true → is_numbered message ≡ true
numbered_new New is = refl
numbered_new _ is = cc

-- a NEW is numbered
new_numbered : (frame : FullFrame) → is_new (message_of frame.head) ≡ true → numbered_frame frame ≡ Some (stored frame)
new_numbered frame is = ap (λ (b : Bool). cond b (Some (stored frame)) None) (numbered_new (message_of frame.head) is)

module _ (law : (own other : Side) (which : ℕ) (datagram : Datagram) (turn : Turn) → slice_get other.datagrams which
    ≡ Some datagram
    → IsLegal own.width own.limit (own.history ++ added_in_turn own datagram turn)
    → (after_all (actions_in_turn which turn) own other).history ≡ own.history ++ added_in_turn own datagram turn) where
  -- the record after the turn is known
  turns_to : (rules : PeerRules) (new : LegState) (own other : Side) (which : ℕ) (datagram : Datagram) (turn : Turn)
      → IsLegOf rules new → own.width ≡ rules.window
      → own.limit ≡ rules.record_limit → slice_get other.datagrams which ≡ Some datagram
      → new.window.history ≡ own.history ++ added_in_turn own datagram turn
      → IsSideOf rules new (after_all (actions_in_turn which turn) own other)
  turns_to rules new own other which datagram turn goes width limit at grown =
      let legal : IsLegal own.width own.limit (own.history ++ added_in_turn own datagram turn) =
      subst (IsLegal own.width own.limit) grown (rw (width, limit) (legal_by rules new goes)) in
      acts rules new own other (actions_in_turn which turn) width limit (law own other which datagram turn at legal ∙ sym grown)

  turn_events : (rules : PeerRules) (leg new : LegState) (frame : FullFrame) (own other : Side) (which : ℕ) (datagram : Datagram)
      (datagrams : List (List ℕ))
      → TakesTurn leg frame new → IsLegOf rules new → IsSideOf rules leg own → slice_get other.datagrams which ≡ Some datagram
      → Bears frame datagram
      → All (IsSending new) datagrams → TurnsInto rules own other which new datagrams
  turn_events rules leg new frame own other which datagram datagrams turns goes is at bears sendings =
      let actions = actions_in_turn which turns.0 in
      let grown : new.window.history ≡ own.history ++ added_in_turn own datagram turns.0 =
      turns.1
      ∙ (λ i. sym is.history i ++ entries_in_turn (sym is.history i) (bears.iseqno i) (bears.oseqno i) (bears.frame_is i)
      turns.0) in
      let side = turns_to rules new own other which datagram turns.0 goes is.width is.limit at grown in
      let sends = sendings_out rules new goes other (after_all actions own other) datagrams side sendings in
      (turns.0, record { grows = side; sends = sends })

  pub frame_events : (old new : PeerView) (frame : FullFrame) (turn : TakesTurnAtLeg old frame new) → IsSoundPeer new
      → (own other : Side) → IsSideOf new.rules turn.named.leg own
      → (which : ℕ) (datagram : Datagram) → slice_get other.datagrams which ≡ Some datagram → Bears frame datagram
      → TurnsInto new.rules own other which turn.leg turn.datagrams
  frame_events old new frame turn sound own other is which datagram at bears =
      turn_events new.rules turn.named.leg turn.leg frame own other which datagram turn.datagrams turn.tied
      (sound.kept.ruled turn.named.name.number (record { name = turn.named.name; leg = turn.leg })
      (leg_after old new turn.named turn.leg turn.datagrams turn.steps)) is at bears
      turn.sendings

  -- ---- a received NEW

  pub call_in_events : (old new : PeerView) (name : LegName) (frame : FullFrame) (takes : TakesNew old name frame new)
      → IsSoundPeer new → is_new (message_of frame.head) ≡ true
      → (other : Side) (which : ℕ) (datagram : Datagram) → slice_get other.datagrams which ≡ Some datagram → Bears frame datagram
      → TurnsInto new.rules (unused_side new.rules) other which takes.leg takes.opens.datagrams
  call_in_events old new name frame takes sound is_one other which datagram at bears =
      let own = unused_side new.rules in
      let turn = takes.tied.0 in
      let actions = actions_in_turn which turn in
      let goes = sound.kept.ruled name.number (record { name = name; leg = takes.leg }) takes.opens.there in
      let numbered : Some (stored frame) ≡ datagram.frame = sym (new_numbered frame is_one) ∙ bears.frame_is in
      let grown : takes.leg.window.history ≡ own.history ++ added_in_turn own datagram turn =
      takes.tied.1 ∙ (λ i. entries_in_turn [] (bears.iseqno i) (bears.oseqno i) (numbered i) turn) in
      let side = turns_to new.rules takes.leg own other which datagram turn goes refl refl at grown in
      let mid = after_all actions own other in
      let sends = sendings_out new.rules takes.leg goes other mid takes.opens.datagrams side takes.opens.sendings in
      (turn, record { grows = side; sends = sends })

-- ---- an order, and a NEW that is sent

pub order_events : (old new : PeerView) (name : LegName) (sends : SendsAtLeg old name new) → IsSoundPeer new → (own other : Side)
    → IsSideOf new.rules sends.named.leg own
    → SendsInto IsSentByOrMini new.rules own other sends.leg sends.datagrams
order_events old new name sends sound own other is =
    let goes = sound.kept.ruled sends.named.name.number (record { name = sends.named.name; leg = sends.leg })
    (leg_after old new sends.named sends.leg sends.datagrams sends.steps) in
    let one = sends_events new.rules sends.named.leg sends.leg own other sends.tied goes is in
    let mid = after_all (reply_actions one.0) own other in (
      one.0,
      record {
        grows = one.1;
        sends = or_minis_out new.rules sends.leg goes other mid sends.datagrams one.1 sends.sendings;
      },
    )

-- only full frames are sent
sent_into : (rules : PeerRules) (leg : LegState) (own other : Side) (datagrams : List (List ℕ)) → IsLegOf rules leg
    → SendsTo rules own other leg → All (IsSending leg) datagrams
    → SendsInto IsSentBy rules own other leg datagrams
sent_into rules leg own other datagrams goes one sendings =
    let mid = after_all (reply_actions one.0) own other in
    (one.0, record { grows = one.1; sends = sendings_out rules leg goes other mid datagrams one.1 sendings })

pub call_out_events : (old new : PeerView) (name : LegName) (sends : SendsNew old name new) → IsSoundPeer new → (other : Side)
    → SendsInto IsSentBy new.rules (unused_side new.rules) other sends.leg sends.opens.datagrams
call_out_events old new name sends sound other =
    let own = unused_side new.rules in
    let goes = sound.kept.ruled name.number (record { name = name; leg = sends.leg }) sends.opens.there in
    sent_into new.rules sends.leg own other sends.opens.datagrams goes
    (sends_to new.rules sends.leg own other sends.tied.0 goes refl refl sends.tied.1) sends.opens.sendings

-- ---- a tick

ticked_events : (rules : PeerRules) (own other : Side) (before : Option NamedLeg) (named after : NamedLeg)
    → SendsAt before (Some after) → before ≡ Some named → IsLegOf rules after.leg
    → IsSideOf rules named.leg own → SendsTo rules own other after.leg
ticked_events rules own other None named after sends was goes is = cc
ticked_events rules own other (Some before) named after sends was goes is =
    let same : before ≡ named = cc in
    let there : after ≡ record { name = before.name; leg = sends.0 } = let e = sends.2 in cc in
    let tied : SendsAtMostOne named.leg after.leg =
    rw there (subst (λ (n : NamedLeg). SendsAtMostOne n.leg sends.0) same sends.1) in
    sends_events rules named.leg after.leg own other tied goes is

pub tick_events : (old new : PeerView) → EachSends old new → IsSoundPeer new → (number : ℕ) (named after : NamedLeg)
    → leg_at old.legs number ≡ Some named
    → leg_at new.legs number ≡ Some after → (datagrams : List (List ℕ)) → All (IsSending after.leg) datagrams
    → (own other : Side) → IsSideOf new.rules named.leg own
    → SendsInto IsSentBy new.rules own other after.leg datagrams
tick_events old new sends sound number named after was is datagrams sendings own other side =
    let goes = sound.kept.ruled number after is in
    sent_into new.rules after.leg own other datagrams goes
    (ticked_events new.rules own other (leg_at old.legs number) named after (subst (SendsAt (leg_at old.legs number)) is
    (sends.each number))
    was goes side) sendings
