-- The visible effect of a step in which a datagram comes.
use Rattle.std.specs.Prelude.{◌&&◌, option_map, map}
use Rattle.std.proofs.Common.{◌≡◌, ℕ, ◌+◌, ◌==◌, nat_le, Bool, true, false, cond, inl, inr, List, [], ◌∷◌, ◌++◌, Option, Some}
use Rattle.std.proofs.Common.{None}
use Rattle.std.proofs.Common.{refl, sym, ap, ◌∙◌}
use Rattle.std.proofs.lemmas.Bool.{cases_Bool}
use Rattle.std.proofs.lemmas.List.{append_assoc}
use Rattle.call_book.specs.declared.leg_name.LegName.{LegName}
use Rattle.iax_frames.specs.FullFrame.{FullFrame}
use Rattle.iax_frames.specs.declared.datagram.Datagram.{Datagram}
use Rattle.iax_frames.specs.declared.datagram.Datagram.TheVariants.{Full, Mini, Video, Trunk}
use Rattle.iax_frames.specs.TrunkFrame.{entry_item, is_timed}
use Rattle.leg_machine.specs.Leg.{LegState}
use Rattle.leg_machine.specs.Media.{accepts_media, took_voice}
use Rattle.leg_machine.specs.Seen.{SeenLeg, SeenFrame, Plain, ProvesItself, FailsToProve, AcceptsCall, RejectsCall, BreaksOff}
use Rattle.leg_machine.specs.Seen.{Indicates, AnswersCall, Dials, Speaks, HangsUp, AcknowledgesAll, seen, moved, frame_effect}
use Rattle.leg_machine.specs.Seen.{IsSeenFrame}
use Rattle.leg_machine.specs.LegTable.{is_media}
use Rattle.leg_machine.specs.Signal.{span_len}
use Rattle.leg_machine.specs.Stage.{is_talking}
use Rattle.leg_machine.specs.Steps.{full_step}
use Rattle.call_signals.specs.declared.signal.MediaSpan.{MediaSpan}
use Rattle.call_signals.specs.declared.signal.Signal.{Signal}
use Rattle.call_signals.specs.declared.signal.Signal.TheVariants as signals
use Rattle.call_signals.specs.declared.stage.Stage.{Stage}
use Rattle.call_signals.specs.declared.stage.Stage.TheVariants as stages
use Rattle.peer_lock.specs.Arrivals.{delivered_step, reached_step, datagram_step, media_at, mini_span, entries_media, entry_span}
use Rattle.peer_legs.specs.Finding.{found, if_reached, is_reached}
use Rattle.peer_lock.specs.Delivery.{Delivery, NeedsNumber, NoToken, Gets, Pongs, NoCall, closed_to_calls, delivered, inval_for}
use Rattle.peer_lock.specs.Delivery.{legless, pong_for, regrej_for, reject_for, token_for}
use Rattle.peer_legs.specs.Legs.{NamedLeg, PeerLegs, AreLegs, leg_at, leg_of_remote}
use Rattle.peer_accounts.specs.Grants.{granted}
use Rattle.peer_lock.specs.Peer.{PeerView, PeerStep, handed_up}
use Rattle.peer_lock.specs.Seen.{seen_named, seen_at, Brings, IsSeenDatagram, media_up, all_media}
use Rattle.peer_lock.specs.Delivery.{UnknownAnswer}
use Rattle.peer_lock.specs.TrunkEntries.{has_its_share, taken_by, taker}
use Rattle.laws_of_peers.proofs.UnknownCalls.{of_each}
use Rattle.laws_of_peers.proofs.SeenChanges.{leg_turns, remote_named}
use Rattle.peer_legs.proofs.PlaceLaws.{own_number}

-- the law of a leg's full frames
abbrev pub FramesAreSeen : Type 0
FramesAreSeen = (leg : LegState) (frame : FullFrame) (now : ℕ) → IsSeenFrame (seen leg) (seen (full_step leg frame now).leg)
    (full_step leg frame now).signal

-- ---- credit

-- a frame that hands media up leaves the stage as it is
media_keeps : (frame : SeenFrame) (stage : Stage) (span : MediaSpan) → (frame_effect frame stage).signal
    ≡ Some (signals.Media span)
    → (frame_effect frame stage).stage ≡ stage
media_keeps Plain stage span e = refl
media_keeps ProvesItself stages.Challenged span e = cc
media_keeps ProvesItself stage span e = refl
media_keeps FailsToProve stages.Challenged span e = cc
media_keeps FailsToProve stage span e = refl
media_keeps AcceptsCall stages.Waiting span e = cc
media_keeps AcceptsCall stage span e = refl
media_keeps RejectsCall stages.Waiting span e = cc
media_keeps RejectsCall stage span e = refl
media_keeps BreaksOff stages.Waiting span e = cc
media_keeps BreaksOff stages.Linked span e = cc
media_keeps BreaksOff stages.Up span e = cc
media_keeps BreaksOff stage span e = refl
media_keeps (Indicates indication) stages.Linked span e = refl
media_keeps (Indicates indication) stage span e = refl
media_keeps AnswersCall stages.Linked span e = cc
media_keeps AnswersCall stage span e = refl
media_keeps (Dials digit) stages.Linked span e = refl
media_keeps (Dials digit) stages.Up span e = refl
media_keeps (Dials digit) stage span e = refl
media_keeps (Speaks other) stages.Linked span e = refl
media_keeps (Speaks other) stages.Up span e = refl
media_keeps (Speaks other) stage span e = refl
media_keeps HangsUp stages.Closing span e = cc
media_keeps HangsUp stages.Ended span e = refl
media_keeps HangsUp stage span e = cc
media_keeps AcknowledgesAll stages.Closing span e = cc
media_keeps AcknowledgesAll stage span e = refl

-- if the credit doesn't suffice, the frame is seen as a plain one
granted_seen : (old new : SeenLeg) (first accepted : ℕ) (signal : Option Signal) → IsSeenFrame old new signal
    → IsSeenFrame old new (granted first accepted signal).signal
granted_seen old new first accepted None s = s
granted_seen old new first accepted (Some signals.Offered) s = s
granted_seen old new first accepted (Some (signals.Indicated indication)) s = s
granted_seen old new first accepted (Some signals.Answered) s = s
granted_seen old new first accepted (Some (signals.Dtmf digit)) s = s
granted_seen old new first accepted (Some signals.Hangup) s = s
granted_seen old new first accepted (Some (signals.Media span)) s = elim (cases_Bool (nat_le (accepted + span_len span) first)) [
  | inl e ↦ rw e s
  | inr e ↦ rw e (Plain, s.1 ∙ ap (moved old) (media_keeps s.0 old.stage span (sym s.2)), refl)
]

-- ---- full frames

reached_is : (legs : PeerLegs) (source : ℕ) (o : Option NamedLeg) (named : NamedLeg) → if_reached legs source o ≡ Some named
    → o ≡ Some named
reached_is legs source None named is = cc
reached_is legs source (Some one) named is = elim (cases_Bool (is_reached legs source one)) [
  | inl e ↦ rw e at is
  | inr e ↦ let never : None ≡ Some named = rw e at is in cc
]

-- the leg that is found for a frame is under its own number
pub found_named : (legs : PeerLegs) (frame : FullFrame) (named : NamedLeg) → AreLegs legs → found legs frame ≡ Some named
    → leg_at legs named.name.number ≡ Some named
found_named legs frame named are is = elim (cases_Bool (frame.head.destination == 0)) [
  | inl e ↦ remote_named legs frame.head.source named are (rw e at is)
  | inr e ↦
      let at = reached_is legs frame.head.source (leg_at legs frame.head.destination) named (rw e at is) in
      ap (leg_at legs) (own_number legs frame.head.destination named are at) ∙ at
]

reached_seen : (law : FramesAreSeen) (first : ℕ) (peer : PeerView) (named : NamedLeg) (frame : FullFrame) (now : ℕ)
    → leg_at peer.legs named.name.number ≡ Some named → Brings peer.legs (reached_step first peer named frame now)
reached_seen law first peer named frame now at =
    let s = full_step named.leg frame now in
    let is = granted_seen (seen named.leg) (seen s.leg) first peer.accounts.accepted s.signal (law named.leg frame now) in
    let turns = leg_turns peer.legs named s.leg at in
    record {
      named = seen_named named;
      at = ap (option_map seen_named) at;
      frame = is.0;
      turns = record {
        peer = turns.peer;
        there = turns.there ∙ λ i. Some (record { name = named.name; seen = is.1 i });
        rest = turns.rest;
      };
      signals = ap (handed_up named.name) is.2;
      touched = refl;
    }

nothing_seen : (old : PeerLegs) (step : PeerStep) → step.peer.legs ≡ old → step.signals ≡ [] → step.step.touched ≡ None
    → IsSeenDatagram old step
nothing_seen old step same none untouched = inr (record { same = same; media = []; signals = none; touched = untouched })

unknown_seen : (first : ℕ) (peer : PeerView) (frame : FullFrame) (now : ℕ)
    → IsSeenDatagram peer.legs (delivered_step first peer (legless (closed_to_calls peer) peer.rules peer.pokes frame now)
    frame now)
unknown_seen first peer frame now =
    let P : Delivery → Type 0 = λ d. IsSeenDatagram peer.legs (delivered_step first peer d frame now) in
    let needs : P NeedsNumber = nothing_seen peer.legs _ refl refl refl in
    let gets : (answer : UnknownAnswer) → P (Gets answer) = λ answer. nothing_seen peer.legs _ refl refl refl in
    let no_token : P NoToken = nothing_seen peer.legs _ refl refl refl in
    let no_call : P NoCall = nothing_seen peer.legs _ refl refl refl in
    let pongs : P Pongs = nothing_seen peer.legs _ refl refl refl in
    of_each P (closed_to_calls peer) peer.rules peer.pokes frame now needs no_token no_call pongs (gets (inval_for frame.head))
    (gets (pong_for frame.head)) (gets (regrej_for frame.head))
    (λ why. gets (reject_for why frame.head))
    (λ tokens. gets (token_for tokens frame.head now))

full_seen : (law : FramesAreSeen) (first : ℕ) (peer : PeerView) (frame : FullFrame) (now : ℕ) (o : Option NamedLeg)
    → AreLegs peer.legs → found peer.legs frame ≡ o
    → IsSeenDatagram peer.legs (delivered_step first peer (delivered (closed_to_calls peer) peer.rules peer.pokes o frame now)
    frame now)
full_seen law first peer frame now (Some named) are is =
    inl (reached_seen law first peer named frame now (found_named peer.legs frame named are is))
full_seen law first peer frame now None are is = unknown_seen first peer frame now

-- ---- media

talking_speaks : (stage : Stage) (span : MediaSpan) → is_talking stage ≡ true → (frame_effect (Speaks span) stage).signal
    ≡ Some (signals.Media span)
talking_speaks stages.Linked span e = refl
talking_speaks stages.Up span e = refl
talking_speaks stages.Challenged span e = cc
talking_speaks stages.Waiting span e = cc
talking_speaks stages.Offered span e = cc
talking_speaks stages.Closing span e = cc
talking_speaks stages.Ended span e = cc

-- the signals handed up are media of legs that talk
abbrev IsMedia : PeerLegs → List (LegName × Signal) → Type 0
IsMedia legs up = (media : List (ℕ × MediaSpan)) × (up ≡ all_media legs media)

and_first : (a b : Bool) → (a && b) ≡ true → a ≡ true
and_first true b e = refl
and_first false b e = cc

talks : (leg : LegState) (span : MediaSpan) → accepts_media leg span ≡ true → is_talking leg.stage ≡ true
talks leg span e =
    and_first (is_talking leg.stage) (took_voice leg) (and_first (is_talking leg.stage && took_voice leg)
    (is_media (span_len span)) e)

one_media : (legs : PeerLegs) (named : NamedLeg) (span : MediaSpan) → leg_at legs named.name.number ≡ Some named
    → is_talking named.leg.stage ≡ true
    → IsMedia legs ((named.name, signals.Media span) ∷ [])
one_media legs named span at talks =
    let there : seen_at legs named.name.number ≡ Some (seen_named named) = ap (option_map seen_named) at in
    let speaks = talking_speaks named.leg.stage span talks in
    let up : media_up (seen_at legs named.name.number) span ≡ (named.name, signals.Media span) ∷ [] =
    rw there (ap (handed_up named.name) speaks) in
    ((named.name.number, span) ∷ [], sym (ap (λ (xs : List (LegName × Signal)). xs ++ []) up))

media_at_seen : (legs : PeerLegs) (first accepted : ℕ) (o : Option NamedLeg) (span : MediaSpan)
    → ((named : NamedLeg) → o ≡ Some named → leg_at legs named.name.number ≡ Some named)
    → IsMedia legs (media_at first accepted o span).signals
media_at_seen legs first accepted None span there = ([], refl)
media_at_seen legs first accepted (Some named) span there = elim (cases_Bool (accepts_media named.leg span)) [
  | inr e ↦ rw e ([], refl)
  | inl e ↦ elim (cases_Bool (nat_le (accepted + span_len span) first)) [
    | inr f ↦ rw (e, f) ([], refl)
    | inl f ↦ rw (e, f) (one_media legs named span (there named refl) (talks named.leg span e))
  ]
]

media_append : (legs : PeerLegs) (a b : List (ℕ × MediaSpan)) → all_media legs (a ++ b) ≡ all_media legs a ++ all_media legs b
media_append legs [] b = refl
media_append legs (one ∷ a) b =
    ap (λ (rest : List (LegName × Signal)). media_up (seen_at legs one.0) one.1 ++ rest) (media_append legs a b)
    ∙ sym (append_assoc (media_up (seen_at legs one.0) one.1) (all_media legs a) (all_media legs b))

both_media : (legs : PeerLegs) (one other : List (LegName × Signal)) → IsMedia legs one → IsMedia legs other
    → IsMedia legs (one ++ other)
both_media legs one other a b = (a.0 ++ b.0, (λ i. a.1 i ++ b.1 i) ∙ sym (media_append legs a.0 b.0))

remote_media : (legs : PeerLegs) (first accepted source : ℕ) (span : MediaSpan) → AreLegs legs
    → IsMedia legs (media_at first accepted (leg_of_remote legs source) span).signals
remote_media legs first accepted source span are =
    media_at_seen legs first accepted (leg_of_remote legs source) span (λ named is. remote_named legs source named are is)

-- the leg that takes an entry is that of its number
taker_is : (share : Bool) (o : Option NamedLeg) (named : NamedLeg) → cond share None o ≡ Some named → o ≡ Some named
taker_is true o named is = cc
taker_is false o named is = is

entries_seen : (legs : PeerLegs) (first : ℕ) (limited : Bool) (taken : List ℕ) (timed : Bool) (at accepted : ℕ)
    (entries : List (ℕ × Option ℕ × List ℕ)) → AreLegs legs
    → IsMedia legs (entries_media first legs limited taken timed at accepted entries).signals
entries_seen legs first limited taken timed at accepted [] are = ([], refl)
entries_seen legs first limited taken timed at accepted (entry ∷ entries) are =
    let span = entry_span timed at entry in
    let its = leg_of_remote legs entry.0 in
    let leg = taker limited taken its in
    both_media legs _ _ (media_at_seen legs first accepted leg span
    (λ named is. remote_named legs entry.0 named are (taker_is (has_its_share limited taken its) its named is)))
    (entries_seen legs first limited (taken_by taken leg) timed span.end
    (accepted + (media_at first accepted leg span).octets) entries are)

media_seen : (old : PeerLegs) (step : PeerStep) → step.peer.legs ≡ old → IsMedia old step.signals → step.step.touched ≡ None
    → IsSeenDatagram old step
media_seen old step same media untouched = inr (record { same = same; media = media.0; signals = media.1; touched = untouched })

-- ---- the datagram

pub datagram_seen : (law : FramesAreSeen) (first : ℕ) (peer : PeerView) (d : Datagram) (now : ℕ) → AreLegs peer.legs
    → IsSeenDatagram peer.legs (datagram_step first peer d now)
datagram_seen law first peer (Full frame) now are = full_seen law first peer frame now (found peer.legs frame) are refl
datagram_seen law first peer (Mini mini) now are =
    media_seen peer.legs _ refl (remote_media peer.legs first peer.accounts.accepted mini.source (mini_span mini) are) refl
datagram_seen law first peer (Video video) now are = nothing_seen peer.legs _ refl refl refl
datagram_seen law first peer (Trunk trunk) now are =
    media_seen peer.legs _ refl
    (entries_seen peer.legs first peer.rules.is_hardened [] (is_timed trunk.command_data) 8 peer.accounts.accepted
    (map entry_item trunk.entries) are) refl
