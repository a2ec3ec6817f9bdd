-- Media that a datagram's step hands up has the order of the datagram.
use Rattle.std.specs.Prelude.{◌&&◌, map, nat_le, length}
use Rattle.std.specs.List.{AllByRecursion}
use Rattle.std.proofs.Common.{ℕ, ◌≡◌, ◌+◌, ◌≤◌, Bool, true, List, [], ◌∷◌, ◌++◌, Option, Some, None, ap}
use Rattle.std.proofs.Common.{arith}
use Rattle.call_book.specs.declared.leg_name.LegName.{LegName}
use Rattle.call_signals.specs.declared.openings.Opening.{Opening}
use Rattle.call_signals.specs.declared.openings.Opening.TheVariants.{Challenges, Offers, Refused}
use Rattle.call_signals.specs.declared.message.Message.TheVariants.{New}
use Rattle.call_signals.specs.declared.signal.MediaSpan.{MediaSpan}
use Rattle.call_signals.specs.declared.signal.Signal.{Signal}
use Rattle.call_signals.specs.declared.signal.Signal.TheVariants as signals
use Rattle.iax_frames.specs.FullFrame.{FullFrame}
use Rattle.iax_frames.specs.TrunkFrame.{entry_item, is_timed}
use Rattle.iax_frames.specs.declared.datagram.Datagram.{Datagram}
use Rattle.iax_frames.specs.declared.datagram.Datagram.TheVariants.{Full, Mini, Video, Trunk}
use Rattle.leg_machine.specs.Effects.{is_reply}
use Rattle.leg_machine.specs.Leg.{LegState}
use Rattle.leg_machine.specs.Media.{IsMediaOf, accepts_media}
use Rattle.leg_machine.specs.Openings.{leg_for_new, opening_effect, opening_of}
use Rattle.leg_machine.specs.Signal.{span_len}
use Rattle.leg_machine.specs.Steps.{Step, answered, full_step, no_room, taken}
use Rattle.peer_accounts.specs.Grants.{Granted, granted}
use Rattle.peer_legs.specs.Legs.{NamedLeg, PeerLegs, leg_of_remote}
use Rattle.peer_lock.specs.Arrivals.{MediaTaken, datagram_step, delivered_step, entries_media, entry_span, granted_at, media_at}
use Rattle.peer_lock.specs.Arrivals.{mini_span, no_media}
use Rattle.laws_of_peers.specs.Ascending.{Ascends, HasNoSpan}
use Rattle.peer_lock.specs.Delivery.{Delivery, Gets, NeedsNumber, NoCall, NoToken, Pongs, Reaches, delivery}
use Rattle.peer_lock.specs.Openings.{opens_in}
use Rattle.peer_lock.specs.Peer.{PeerView, handed_up}
use Rattle.peer_lock.specs.TrunkEntries.{taken_by, taker}
use Rattle.peer_lock.proofs.Choices.{either}
use Rattle.seq_window.specs.Window.{is_full}

abbrev Signals : Type 0
Signals = List (LegName × Signal)

-- ---- pieces

lower : (at other : ℕ) (up : Signals) → at ≤ other → Ascends other up → Ascends at up
lower at other [] le ascends = tt
lower at other ((name, signals.Media span) ∷ up) le ascends =
    let start : at ≤ span.start = omega (arith, le, ascends.0) in (start, ascends.1, ascends.2)
lower at other ((name, signals.Offered) ∷ up) le ascends = lower at other up le ascends
lower at other ((name, signals.Indicated indication) ∷ up) le ascends = lower at other up le ascends
lower at other ((name, signals.Answered) ∷ up) le ascends = lower at other up le ascends
lower at other ((name, signals.Dtmf digit) ∷ up) le ascends = lower at other up le ascends
lower at other ((name, signals.Hangup) ∷ up) le ascends = lower at other up le ascends

-- a piece that is granted, or isn't, and others behind it
piece_then : (first accepted at : ℕ) (name : LegName) (span : MediaSpan) (others : Signals) → at ≤ span.start
    → span.start ≤ span.end
    → Ascends span.end others → Ascends at (handed_up name (granted first accepted (Some (signals.Media span))).signal ++ others)
piece_then first accepted at name span others start ordered ascends =
    either (λ (g : Granted). Ascends at (handed_up name g.signal ++ others)) (nat_le (accepted + span_len span) first)
    (record { signal = Some (signals.Media span); octets = span_len span }) (record { signal = None; octets = 0 })
    (start, ordered, ascends)
    (let le : at ≤ span.end = omega (arith, start, ordered) in lower at span.end others le ascends)

-- .. for the leg of a remote number
media_then : (first accepted at : ℕ) (o : Option NamedLeg) (span : MediaSpan) (others : Signals) → at ≤ span.start
    → span.start ≤ span.end → Ascends span.end others → Ascends at ((media_at first accepted o span).signals ++ others)
media_then first accepted at None span others start ordered ascends =
    let le : at ≤ span.end = omega (arith, start, ordered) in lower at span.end others le ascends
media_then first accepted at (Some named) span others start ordered ascends =
    let le : at ≤ span.end = omega (arith, start, ordered) in
    either (λ (taken : MediaTaken). Ascends at (taken.signals ++ others)) (accepts_media named.leg span)
    (granted_at first accepted named.name true span) no_media
    (piece_then first accepted at named.name span others start ordered ascends) (lower at span.end others le ascends)

-- ---- datagrams

frame_ascends : (first accepted : ℕ) (name : LegName) (frame : FullFrame) (signal : Option Signal) → IsMediaOf frame signal
    → Ascends 0 (handed_up name (granted first accepted signal).signal)
frame_ascends first accepted name frame None is = tt
frame_ascends first accepted name frame (Some signals.Offered) is = tt
frame_ascends first accepted name frame (Some (signals.Indicated indication)) is = tt
frame_ascends first accepted name frame (Some signals.Answered) is = tt
frame_ascends first accepted name frame (Some (signals.Dtmf digit)) is = tt
frame_ascends first accepted name frame (Some signals.Hangup) is = tt
frame_ascends first accepted name frame (Some (signals.Media span)) is =
    let start : span.start ≡ 12 = ap (λ (s : MediaSpan). s.start) is.0 in
    let end : span.end ≡ 12 + length frame.payload = ap (λ (s : MediaSpan). s.end) is.0 in
    let ordered : span.start ≤ span.end = omega (arith, start, end) in
    either (λ (g : Granted). Ascends 0 (handed_up name g.signal)) (nat_le (accepted + span_len span) first)
    (record { signal = Some (signals.Media span); octets = span_len span }) (record { signal = None; octets = 0 })
    (omega arith, ordered, tt) tt

delivered_ascends : (law : (leg : LegState) (frame : FullFrame) (now : ℕ) → IsMediaOf frame (full_step leg frame now).signal)
    (first : ℕ) (peer : PeerView) (frame : FullFrame) (now : ℕ) (to : Delivery)
    → Ascends 0 (delivered_step first peer to frame now).signals
delivered_ascends law first peer frame now (Reaches named) =
    frame_ascends first peer.accounts.accepted named.name frame (full_step named.leg frame now).signal (law named.leg frame now)
delivered_ascends law first peer frame now NeedsNumber = tt
delivered_ascends law first peer frame now NoToken = tt
delivered_ascends law first peer frame now (Gets answer) = tt
delivered_ascends law first peer frame now Pongs = tt
delivered_ascends law first peer frame now NoCall = tt

entries_ascend : (first : ℕ) (legs : PeerLegs) (limited : Bool) (taken : List ℕ) (timed : Bool) (at accepted : ℕ)
    (entries : List (ℕ × Option ℕ × List ℕ)) → Ascends at (entries_media first legs limited taken timed at accepted
    entries).signals
entries_ascend first legs limited taken timed at accepted [] = tt
entries_ascend first legs limited taken timed at accepted (entry ∷ entries) =
    let span = entry_span timed at entry in
    let leg = taker limited taken (leg_of_remote legs entry.0) in
    let now = media_at first accepted leg span in
    media_then first accepted at leg span
    (entries_media first legs limited (taken_by taken leg) timed span.end (accepted + now.octets) entries).signals (omega arith)
    (omega arith) (entries_ascend first legs limited (taken_by taken leg) timed span.end (accepted + now.octets) entries)

mini_ascends : (first accepted : ℕ) (o : Option NamedLeg) (span : MediaSpan) → span.start ≤ span.end
    → Ascends 0 (media_at first accepted o span).signals
mini_ascends first accepted None span ordered = tt
mini_ascends first accepted (Some named) span ordered =
    either (λ (taken : MediaTaken). Ascends 0 taken.signals) (accepts_media named.leg span)
    (granted_at first accepted named.name true span) no_media
    (either (λ (g : Granted). Ascends 0 (handed_up named.name g.signal)) (nat_le (accepted + span_len span) first)
    (record { signal = Some (signals.Media span); octets = span_len span }) (record { signal = None; octets = 0 })
    (omega arith, ordered, tt) tt) tt

pub datagram_ascends : (law : (leg : LegState) (frame : FullFrame) (now : ℕ) → IsMediaOf frame (full_step leg frame now).signal)
    (first : ℕ) (peer : PeerView) (datagram : Datagram) (now : ℕ) → Ascends 0 (datagram_step first peer datagram now).signals
datagram_ascends law first peer (Full frame) now = delivered_ascends law first peer frame now (delivery peer frame now)
datagram_ascends law first peer (Mini mini) now =
    mini_ascends first peer.accounts.accepted (leg_of_remote peer.legs mini.source) (mini_span mini) (omega arith)
datagram_ascends law first peer (Video video) now = tt
datagram_ascends law first peer (Trunk trunk) now =
    lower 0 8 (entries_media first peer.legs peer.rules.is_hardened [] (is_timed trunk.command_data) 8 peer.accounts.accepted
    (map entry_item trunk.entries)).signals
    (omega arith) (entries_ascend first peer.legs peer.rules.is_hardened [] (is_timed trunk.command_data) 8
    peer.accounts.accepted (map entry_item trunk.entries))

-- ---- openings

offer_none : (name : LegName) (opening : Opening) → AllByRecursion HasNoSpan (handed_up name (opening_effect opening).signal)
offer_none name Refused = tt
offer_none name Challenges = tt
offer_none name Offers = (tt, tt)

pub call_in_none : (peer : PeerView) (name : LegName) (frame : FullFrame) (now : ℕ) (challenge : List ℕ)
    → AllByRecursion HasNoSpan (opens_in peer name frame now challenge).signals
call_in_none peer name frame now challenge =
    let effect = opening_effect (opening_of peer.rules frame) in
    let leg : LegState = leg_for_new peer.rules name.number frame now challenge in
    either (λ (s : Step). AllByRecursion HasNoSpan (handed_up name s.signal)) (is_reply effect.answer && is_full leg.window)
    (no_room leg)
    (answered effect.answer (taken effect leg frame New now) frame now effect.signal) tt
    (offer_none name (opening_of peer.rules frame))
