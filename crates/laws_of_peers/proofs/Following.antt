-- Two sides of a network can follow two ends by fresh events.
use Rattle.std.proofs.Common.{◌≡◌, ℕ, zero, suc, ◌+◌, ◌≤◌, true, All, inl, inr, List, [], ◌∷◌, ◌++◌, map, pos, Some, None, OnSome}
use Rattle.std.proofs.Common.{slice_get, refl, ap, sym, subst, ◌∙◌, arith}
use Rattle.std.proofs.lemmas.List.Elements.{All-head, All-tail}
use Rattle.call_book.specs.declared.leg_name.LegName.{LegName}
use Rattle.call_signals.specs.Message.{message_of}
use Rattle.call_signals.specs.declared.rules.PeerRules.{PeerRules}
use Rattle.iax_frames.specs.FullFrame.{FullFrame}
use Rattle.leg_machine.specs.Leg.{LegState}
use Rattle.leg_machine.specs.Tie.{IsSending}
use Rattle.peer_lock.specs.Delivery.{is_new}
use Rattle.peer_lock.specs.Legs.{NamedLeg, IsLegOf, leg_at}
use Rattle.peer_lock.specs.Peer.{PeerView}
use Rattle.laws_of_peers.specs.Sides.{TakesTurnAtLeg, SendsAtLeg, EachSends, TakesNew, SendsNew, Bears, HasDatagram, IsSideOf}
use Rattle.laws_of_peers.specs.Sides.{IsSentBy, IsSentByOrMini, IsSentFrom, SendsAll, TurnsInto, SendsInto, unused_side}
use Rattle.peer_lock.specs.SoundPeer.{IsSoundPeer}
use Rattle.seq_window.specs.Entry.{Entry}
use Rattle.seq_window.specs.History.{IsLegal, acked_count, sent as sent_frames, sent_count, taken as taken_frames, taken_count}
use Rattle.seq_window.specs.Network.{Action, Datagram, Event, AtFirst, AtSecond, Network, Side, Size}
use Rattle.seq_window.specs.Network.{EachWay, InEveryFreshRun, IsFresh, IsFreshAcknowledgement, IsFreshNumber, IsPrefixOf}
use Rattle.seq_window.specs.Network.{TakesInOrder, AcksTaken, HasLegalRecord, BytesSayNumbers}
use Rattle.seq_window.specs.Network.{actions_in_turn, after_all, reply_actions, run, start}
use Rattle.seq_window.specs.Sequence.{acknowledgement_judged, byte_of, number_judged}
use Rattle.seq_window.specs.Window.{judged_acknowledgement, judged_number}
use Rattle.laws_of_peers.specs.Ends.{End, Comes, GoesOn, Steps, TakesFrame, ObeysOrder, Ticks, OpensIn, OpensOut}
use Rattle.laws_of_peers.specs.Ends.{Ends, OneSteps, AreSteps, AfterAllSteps, before_all, last, record_of, side_of, unopened}
use Rattle.laws_of_peers.proofs.SidesEvents.{leg_after}
use Rattle.laws_of_peers.proofs.SidesSent.{after_both, all_still_sent}
use Rattle.laws_of_peers.proofs.Freshness.{AreFresh, all_fresh, fresh_both, fresh_reply, fresh_turn}
use Rattle.laws_of_peers.proofs.Freshness.{run_both, events_both, first_runs, second_runs, first_fresh, second_fresh}

-- ---- a side that represents an end

-- it has the end's record and its sizes, and has sent at least what the end has
pub record StandsFor (end : End) (side : Side) : Type 0 where
  pub width : side.width ≡ end.rules.window
  pub limit : side.limit ≡ end.rules.record_limit
  pub history : side.history ≡ record_of end.leg
  pub sent : (which : ℕ) (datagram : Datagram) → slice_get end.sent which ≡ Some datagram → HasDatagram side datagram
  pub unused : end.leg ≡ None → side ≡ unused_side end.rules

-- fresh actions, by which a side comes to represent the end after its step
record Follows (new : End) (side other : Side) : Type 0 where
  pub actions : List Action
  pub fresh : AreFresh actions side other
  pub stands : StandsFor new (after_all actions side other)

-- a member of two joined lists is one of the first or one of the second
either_has : (P : Datagram → Type 0) (more old : List Datagram) → All P more
    → ((which : ℕ) (datagram : Datagram) → slice_get old which ≡ Some datagram → P datagram)
    → (which : ℕ) (datagram : Datagram) → slice_get (more ++ old) which ≡ Some datagram → P datagram
either_has P [] old all has which datagram at = has which datagram at
either_has P (one ∷ more) old all has zero datagram at =
    let same : one ≡ datagram = cc in subst P same (All-head P one more all)
either_has P (one ∷ more) old all has (suc which) datagram at =
    either_has P more old (All-tail P one more all) has which datagram at

-- the side of an end with this leg
is_leg : (rules : PeerRules) (own : End) (side : Side) (leg : LegState) → rules ≡ own.rules → StandsFor own side
    → own.leg ≡ Some leg → IsSideOf rules leg side
is_leg rules own side leg same stands is = record {
  width = stands.width ∙ ap (λ (r : PeerRules). r.window) (sym same);
  limit = stands.limit ∙ ap (λ (r : PeerRules). r.record_limit) (sym same);
  history = stands.history ∙ ap record_of is;
}

-- the side of an end that isn't opened yet
is_unused : (rules : PeerRules) (own : End) (side : Side) → rules ≡ own.rules → StandsFor own side → own.leg ≡ None
    → unused_side rules ≡ side
is_unused rules own side same stands is = ap unused_side same ∙ sym (stands.unused is)

-- a frame that comes to the end is fresh to its side
module _ (own other : End) (side : Side) (stands : StandsFor own side) (frame : FullFrame) (comes : Comes own other frame) where
  acknowledgement_fresh : IsFreshAcknowledgement side comes.datagram
  acknowledgement_fresh =
      subst (λ (h : List Entry). acked_count h ≤ comes.datagram.acknowledgement + 128) (sym stands.history) comes.acknowledgement

  number_fresh : IsFreshNumber side comes.datagram
  number_fresh =
      subst (λ (h : List Entry). OnSome comes.datagram.frame (taken_count h ≤ comes.datagram.number + 128)) (sym stands.history)
      comes.number

-- ---- a run that leads to the ends

abbrev size_of : PeerRules → Size
size_of rules = record { width = rules.window; limit = rules.record_limit }

-- a fresh run, to a network whose sides represent the ends
pub record IsReached (one two : PeerRules) (ends : Ends) : Type 0 where
  pub events : List Event
  pub fresh : IsFresh events (start (size_of one) (size_of two))
  pub first : StandsFor ends.first (run events (start (size_of one) (size_of two))).first
  pub second : StandsFor ends.second (run events (start (size_of one) (size_of two))).second

-- with more events
goes_further : (one two : PeerRules) (next : Ends) (events more : List Event) (network : Network)
    → IsFresh events (start (size_of one) (size_of two)) → IsFresh more (run events (start (size_of one) (size_of two)))
    → run more (run events (start (size_of one) (size_of two))) ≡ network → StandsFor next.first network.first
    → StandsFor next.second network.second → IsReached one two next
goes_further one two next events more network fresh further becomes first second =
    let at = start (size_of one) (size_of two) in
    let is : network ≡ run (events ++ more) at = sym (run_both events more at ∙ becomes) in
    record {
      events = events ++ more;
      fresh = events_both events more at fresh further;
      first = subst (λ (n : Network). StandsFor next.first n.first) is first;
      second = subst (λ (n : Network). StandsFor next.second n.second) is second;
    }

unopened_stands : (rules : PeerRules) → StandsFor (unopened rules) (unused_side rules)
unopened_stands rules =
    record { width = refl; limit = refl; history = refl; sent = λ which datagram at. cc; unused = λ none. refl }

-- ---- a step

module _ (sendings : (rules : PeerRules) (leg : LegState) → IsLegOf rules leg → (own other : Side) → IsSideOf rules leg own
    → (datagrams : List Datagram) → All (IsSentFrom leg) datagrams
    → SendsAll Datagram HasDatagram rules leg own other datagrams) where
  -- a side with the record after a step can send the frames of the leg
  goes_on : (own new : End) (peer : PeerView) (leg : LegState) (side other : Side) (actions : List Action) → StandsFor own side
      → GoesOn own new peer leg → IsLegOf peer.rules leg → AreFresh actions side other
      → IsSideOf peer.rules leg (after_all actions side other)
      → Follows new side other
  goes_on own new peer leg side other actions stands on goes fresh grows =
      let mid = after_all actions side other in
      let out = sendings peer.rules leg goes mid other grows on.more on.from in
      let end = after_all out.actions mid other in
      let both : end ≡ after_all (actions ++ out.actions) side other = sym (after_both actions out.actions side other) in
      record {
        actions = actions ++ out.actions;
        fresh = fresh_both actions out.actions side other fresh (all_fresh out.actions mid other out.nothing_new);
        stands = subst (StandsFor new) both (record {
          width = out.stays.width ∙ ap (λ (r : PeerRules). r.window) (on.peers ∙ sym on.rules);
          limit = out.stays.limit ∙ ap (λ (r : PeerRules). r.record_limit) (on.peers ∙ sym on.rules);
          history = out.stays.history ∙ ap record_of (sym on.leg_is);
          sent = λ which datagram at.
              either_has (HasDatagram end) on.more own.sent out.sent
              (λ which datagram at.
              all_still_sent out.actions mid other datagram
              (all_still_sent actions side other datagram (stands.sent which datagram at)))
              which datagram (ap (λ (ds : List Datagram). slice_get ds which) (sym on.sent) ∙ at);
          unused = λ none. let no : None ≡ Some leg = sym none ∙ on.leg_is in cc;
        });
      }

  module _ (frames : (old new : PeerView) (frame : FullFrame) (turn : TakesTurnAtLeg old frame new) → IsSoundPeer new
      → (own other : Side) → IsSideOf new.rules turn.named.leg own → (which : ℕ) (datagram : Datagram)
      → slice_get other.datagrams which ≡ Some datagram
      → Bears frame datagram → TurnsInto new.rules own other which turn.leg turn.datagrams)
      (orders : (old new : PeerView) (name : LegName) (sends : SendsAtLeg old name new) → IsSoundPeer new → (own other : Side)
      → IsSideOf new.rules sends.named.leg own → SendsInto IsSentByOrMini new.rules own other sends.leg sends.datagrams)
      (ticks : (old new : PeerView) → EachSends old new → IsSoundPeer new → (number : ℕ) (named after : NamedLeg)
      → leg_at old.legs number ≡ Some named → leg_at new.legs number ≡ Some after → (datagrams : List (List ℕ))
      → All (IsSending after.leg) datagrams → (own other : Side) → IsSideOf new.rules named.leg own
      → SendsInto IsSentBy new.rules own other after.leg datagrams)
      (calls_in : (old new : PeerView) (name : LegName) (frame : FullFrame) (takes : TakesNew old name frame new)
      → IsSoundPeer new → is_new (message_of frame.head) ≡ true → (other : Side) (which : ℕ) (datagram : Datagram)
      → slice_get other.datagrams which ≡ Some datagram → Bears frame datagram
      → TurnsInto new.rules (unused_side new.rules) other which takes.leg takes.opens.datagrams)
      (calls_out : (old new : PeerView) (name : LegName) (sends : SendsNew old name new) → IsSoundPeer new → (other : Side)
      → SendsInto IsSentBy new.rules (unused_side new.rules) other sends.leg sends.opens.datagrams) where
    follows : (own other new : End) (side beyond : Side) → StandsFor own side → StandsFor other beyond → Steps own other new
        → Follows new side beyond
    follows own other new side beyond stands there (TakesFrame old peer frame turn was comes on) =
        let has = there.sent comes.which comes.datagram comes.at in
        let into = frames old peer frame turn on.sound side beyond (is_leg peer.rules own side turn.named.leg on.peers stands was)
        has.0 comes.datagram has.1 comes.bears in
        let goes = on.sound.kept.ruled turn.named.name.number (record { name = turn.named.name; leg = turn.leg })
        (leg_after old peer turn.named turn.leg turn.datagrams turn.steps) in
        let fresh = fresh_turn side beyond has.0 comes.datagram has.1 (acknowledgement_fresh own other side stands frame comes)
        (number_fresh own other side stands frame comes) into.0 in
        goes_on own new peer turn.leg side beyond (actions_in_turn has.0 into.0) stands on goes fresh into.1.grows
    follows own other new side beyond stands there (ObeysOrder old peer name sends was on) =
        let into = orders old peer name sends on.sound side beyond
        (is_leg peer.rules own side sends.named.leg on.peers stands was) in
        let goes = on.sound.kept.ruled sends.named.name.number (record { name = sends.named.name; leg = sends.leg })
        (leg_after old peer sends.named sends.leg sends.datagrams sends.steps) in
        goes_on own new peer sends.leg side beyond (reply_actions into.0) stands on goes (fresh_reply into.0 side beyond)
        into.1.grows
    follows own other new side beyond stands there (Ticks old peer sends number named after was is leg on) =
        let into = ticks old peer sends on.sound number named after was is [] (λ k d within. absurd (omega arith)) side beyond
        (is_leg peer.rules own side named.leg on.peers stands leg) in
        goes_on own new peer after.leg side beyond (reply_actions into.0) stands on (on.sound.kept.ruled number after is)
        (fresh_reply into.0 side beyond) into.1.grows
    follows own other new side beyond stands there (OpensIn old peer name frame takes was is_one comes on) =
        let has = there.sent comes.which comes.datagram comes.at in
        let into = calls_in old peer name frame takes on.sound is_one beyond has.0 comes.datagram has.1 comes.bears in
        let goes = on.sound.kept.ruled name.number (record { name = name; leg = takes.leg }) takes.opens.there in
        let fresh = fresh_turn side beyond has.0 comes.datagram has.1 (acknowledgement_fresh own other side stands frame comes)
        (number_fresh own other side stands frame comes) into.0 in
        let grows = subst (λ (s : Side). IsSideOf peer.rules takes.leg (after_all (actions_in_turn has.0 into.0) s beyond))
        (is_unused peer.rules own side on.peers stands was) into.1.grows in
        goes_on own new peer takes.leg side beyond (actions_in_turn has.0 into.0) stands on goes fresh grows
    follows own other new side beyond stands there (OpensOut old peer name sends was on) =
        let into = calls_out old peer name sends on.sound beyond in
        let goes = on.sound.kept.ruled name.number (record { name = name; leg = sends.leg }) sends.opens.there in
        let grows = subst (λ (s : Side). IsSideOf peer.rules sends.leg (after_all (reply_actions into.0) s beyond))
        (is_unused peer.rules own side on.peers stands was) into.1.grows in
        goes_on own new peer sends.leg side beyond (reply_actions into.0) stands on goes (fresh_reply into.0 side beyond) grows

    -- ---- all steps

    reached_next : (one two : PeerRules) (ends next : Ends) → IsReached one two ends → OneSteps ends next → IsReached one two next
    reached_next one two ends next reached (inl step) =
        let now = run reached.events (start (size_of one) (size_of two)) in
        let acts = follows ends.first ends.second next.first now.first now.second reached.first reached.second step.0 in
        goes_further one two next reached.events (map AtFirst acts.actions)
        (record { first = after_all acts.actions now.first now.second; second = now.second }) reached.fresh
        (first_fresh acts.actions now.first now.second acts.fresh) (first_runs acts.actions now.first now.second) acts.stands
        (subst (λ (end : End). StandsFor end now.second) (sym step.1) reached.second)
    reached_next one two ends next reached (inr step) =
        let now = run reached.events (start (size_of one) (size_of two)) in
        let acts = follows ends.second ends.first next.second now.second now.first reached.second reached.first step.0 in
        goes_further one two next reached.events (map AtSecond acts.actions)
        (record { first = now.first; second = after_all acts.actions now.second now.first }) reached.fresh
        (second_fresh acts.actions now.first now.second acts.fresh) (second_runs acts.actions now.first now.second)
        (subst (λ (end : End). StandsFor end now.first) (sym step.1) reached.first) acts.stands

    reached_all : (one two : PeerRules) (ends : Ends) (steps : List Ends) → IsReached one two ends → AreSteps ends steps
        → IsReached one two (last ends steps)
    reached_all one two ends [] reached are = reached
    reached_all one two ends (next ∷ later) reached are =
        reached_all one two next later (reached_next one two ends next reached are.0) are.1

    pub reached : (one two : PeerRules) (steps : List Ends) → AreSteps (before_all one two) steps
        → IsReached one two (last (before_all one two) steps)
    reached one two steps are =
        reached_all one two (before_all one two) steps
        (record { events = []; fresh = tt; first = unopened_stands one; second = unopened_stands two }) are

-- ---- a property of the sides is one of the ends

module _ (end other : End) (side beyond : Side) (stands : StandsFor end side) (there : StandsFor other beyond) where
  pub taken_as : TakesInOrder side beyond → TakesInOrder (side_of end) (side_of other)
  taken_as is =
      subst (λ (h : List Entry). IsPrefixOf (taken_frames h) (sent_frames (record_of end.leg))) there.history
      (subst (λ (h : List Entry). IsPrefixOf (taken_frames beyond.history) (sent_frames h)) stands.history is)

  pub acked_as : AcksTaken side beyond → AcksTaken (side_of end) (side_of other)
  acked_as is =
      subst (λ (h : List Entry). acked_count (record_of end.leg) ≤ taken_count h) there.history
      (subst (λ (h : List Entry). acked_count h ≤ taken_count beyond.history) stands.history is)

  pub legal_as : HasLegalRecord side beyond → HasLegalRecord (side_of end) (side_of other)
  legal_as is =
      subst (λ (h : List Entry). IsLegal end.rules.window end.rules.record_limit h) stands.history
      (subst (λ (limit : ℕ). IsLegal end.rules.window limit side.history) stands.limit
      (subst (λ (width : ℕ). IsLegal width side.limit side.history) stands.width is))

  pub bytes_as : BytesSayNumbers side beyond → BytesSayNumbers (side_of end) (side_of other)
  bytes_as is = record {
    acknowledgement = λ which datagram at fresh.
        let has = there.sent which datagram at in
        subst (λ (h : List Entry).
        judged_acknowledgement h (byte_of datagram.acknowledgement)
        ≡ acknowledgement_judged (acked_count h) (sent_count h) datagram.acknowledgement) stands.history
        (is.acknowledgement has.0 datagram has.1
        (subst (λ (h : List Entry). acked_count h ≤ datagram.acknowledgement + 128) (sym stands.history) fresh));
    number = λ which datagram frame at frame_is fresh.
        let has = there.sent which datagram at in
        subst (λ (h : List Entry).
        judged_number h (byte_of datagram.number) ≡ number_judged (taken_count h) (pos datagram.number)) stands.history
        (is.number has.0 datagram frame has.1 frame_is
        (subst (λ (h : List Entry). OnSome datagram.frame (taken_count h ≤ datagram.number + 128)) (sym stands.history) fresh));
  }

-- for any steps, a fresh run leads to sides that represent the ends
abbrev pub AreFollowed : Type 0
AreFollowed =
    (one two : PeerRules) (steps : List Ends) → AreSteps (before_all one two) steps
    → IsReached one two (last (before_all one two) steps)

pub each_way : (Holds : Side → Side → Type 0)
    → ((end other : End) (side beyond : Side) → StandsFor end side → StandsFor other beyond → Holds side beyond
    → Holds (side_of end) (side_of other)) → InEveryFreshRun (EachWay Holds) → AreFollowed → AfterAllSteps (EachWay Holds)
each_way Holds carries law followed one two narrow small steps are =
    let ends = last (before_all one two) steps in
    let reached = followed one two steps are in
    let both = law (size_of one) (size_of two) narrow small reached.events reached.fresh in
    let network = run reached.events (start (size_of one) (size_of two)) in (
      carries ends.first ends.second network.first network.second reached.first reached.second both.0,
      carries ends.second ends.first network.second network.first reached.second reached.first both.1,
    )
