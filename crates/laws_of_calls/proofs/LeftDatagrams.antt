-- The datagrams that a call has left to send, and those that a datagram brings.
use Rattle.call_signals.specs.declared.order.Command.TheVariants as commands
use Rattle.call_control.specs.declared.place.Place.TheVariants as places
use Rattle.call_control.specs.declared.reply.Reply.TheVariants as replies
use Rattle.call_signals.specs.declared.signal.Signal.TheVariants as signals
use Rattle.peer_lock.specs.Seen as peer
use Rattle.std.proofs.lemmas.List.{length-map}
use Rattle.std.specs.Prelude.{is_some}
use Rattle.call_signals.specs.Message.{is_vnak, message_of}
use Rattle.call_signals.specs.declared.message.Message.{Message}
use Rattle.iax_frames.specs.FullFrame.{FullFrame}
use Rattle.iax_frames.specs.MiniFrame.{MiniFrame}
use Rattle.iax_frames.specs.TrunkFrame.{TrunkFrame, entry_item, is_timed}
use Rattle.iax_frames.specs.declared.datagram.Datagram.TheVariants.{Full, Mini, Trunk}
use Rattle.leg_machine.specs.Leg.{LegState}
use Rattle.leg_machine.specs.Openings.{open_in_step}
use Rattle.leg_machine.specs.Steps.{Step, full_step, message_step, nothing_sent, numbered_step}
use Rattle.leg_machine.specs.Working.{is_unaddressed, refusal}
use Rattle.peer_lock.specs.Delivery.{Delivery, Reaches, delivery}
use Rattle.peer_lock.specs.Grants.{granted}
use Rattle.peer_lock.specs.Peer.{handed_up}
use Rattle.peer_lock.specs.TrunkEntries.{taken_by, taker}
use Rattle.std.proofs.Common.{◌≡◌, Some, None, Bool, true, false, refl, ℕ, ◌+◌, ◌≤◌, List, [], ◌∷◌, ◌++◌, arith, inl, ◌⊎◌}
use Rattle.std.proofs.Common.{Option, cond, length, map}
use Rattle.std.specs.Prelude.{Err}
use Rattle.call_book.specs.Book.{is_same}
use Rattle.call_book.specs.declared.leg_name.LegName.{LegName}
use Rattle.laws_of_calls.specs.DatagramsLeft.{signals_put, step_puts, OpensFew, brought_by, datagrams_left, need_puts}
use Rattle.laws_of_calls.specs.DatagramsLeft.{is_first, place_puts, rest_puts, touched_puts}
use Rattle.call_control.specs.Work.{Rest, next_at, advance, after_status, told_at}
use Rattle.call_control.specs.Work.{advance_from}
use Rattle.call_control.specs.declared.place.Place.{Place}
use Rattle.call_control.specs.declared.reply.Reply.{Reply}
use Rattle.call_signals.specs.declared.cause.Cause.{Cause}
use Rattle.call_signals.specs.declared.signal.MediaSpan.{MediaSpan}
use Rattle.call_signals.specs.declared.signal.Signal.{Signal}
use Rattle.peer_lock.specs.Arrivals.{MediaTaken, datagram_step, delivered_step, entries_media, entry_span, mini_span}
use Rattle.peer_lock.specs.Arrivals.{media_at as taken_at}
use Rattle.peer_lock.specs.Legs.{NamedLeg, PeerLegs, leg_of_remote}
use Rattle.peer_lock.specs.Openings.{opens_in}
use Rattle.peer_lock.specs.Peer.{PeerView}

-- ---- a call sends no more datagrams than were left and than a datagram brings, less those that its steps sent

-- a signal that is passed on doesn't start the call over
pub onward_later : (onward : List (LegName × Signal)) (touched : Option LegName) (looks : List (ℕ × ℕ))
    → is_first (advance_from onward touched looks).place ≡ false
onward_later [] (Some name) looks = refl
onward_later [] None [] = refl
onward_later [] None (look ∷ looks) = refl
onward_later (up ∷ onward) touched looks = grind (arith, onward_later onward touched looks)

onward_puts : (onward : List (LegName × Signal)) (touched : Option LegName) (looks : List (ℕ × ℕ))
    → datagrams_left (advance_from onward touched looks) ≤ signals_put onward + touched_puts touched + length looks
onward_puts [] touched looks = grind arith
onward_puts (up ∷ onward) touched looks = grind (arith, onward_puts onward touched looks)

looked_puts : (same owes : Bool) (name : LegName) (cause : Cause) (rest : Rest)
    → datagrams_left (cond same (after_status name owes cause rest) (advance rest)) ≤ 1 + rest_puts rest
looked_puts true true name cause rest = omega arith
looked_puts true false name cause rest = omega arith
looked_puts false owes name cause rest = omega (arith, onward_puts rest.onward rest.touched rest.looks)

pub told_puts : (place : Place) (reply : Reply) (rest : Rest) → OpensFew reply
    → datagrams_left (told_at place reply rest) + need_puts (next_at place) ≤ place_puts place + rest_puts rest
    + brought_by reply
told_puts place (replies.Datagram result) rest few = grind (arith, onward_puts)
told_puts (places.Looking name) (replies.Look (Some status)) rest few = omega (
  arith,
  looked_puts (is_same status.name name) status.owes status.name status.cause rest,
)
told_puts (places.Passing partner command) (replies.Order (Err error)) rest few = grind (arith, onward_puts)
told_puts place reply rest few = grind (arith, onward_puts)

-- ---- the datagrams that follow from the signals of a datagram and from the leg that it touches

handed_few : (name : LegName) (signal : Option Signal) → signals_put (handed_up name signal) ≤ 2
handed_few name signal = grind arith

-- ---- full frames

pub full_brings : (first : ℕ) (peer : PeerView) (frame : FullFrame) (now : ℕ)
    → step_puts (datagram_step first peer (Full frame) now) ≤ 3
full_brings first peer frame now = go (delivery peer frame now)
  where
    go : (to : Delivery) → step_puts (delivered_step first peer to frame now) ≤ 3
    go (Reaches named) = omega (
      arith,
      handed_few named.name (granted first peer.accounts.accepted (full_step named.leg frame now).signal).signal,
    )
    go to = omega arith

-- these hand up nothing, or the end of a call
abbrev IsQuiet : Option Signal → Type 0
IsQuiet signal = (signal ≡ None) ⊎ (signal ≡ Some signals.Hangup)

-- so does a VNAK,
vnak_signal : (message : Message) (leg : LegState) (frame : FullFrame) (now : ℕ) → is_vnak message ≡ true
    → IsQuiet (message_step message leg frame now).signal
vnak_signal message leg frame now is = grind arith

-- also one of destination 0
bare_signal : (message : Message) (leg : LegState) (frame : FullFrame) (now : ℕ) → is_vnak message ≡ true
    → IsQuiet (numbered_step leg frame message now).signal
bare_signal message leg frame now is = grind arith

-- .. and one that is refused
by_tests : (refused alone : Bool) (none bare heard : Step) → IsQuiet none.signal → IsQuiet bare.signal → IsQuiet heard.signal
    → IsQuiet (cond refused none (cond alone bare heard)).signal
by_tests true alone none bare heard none_is bare_is heard_is = none_is
by_tests false true none bare heard none_is bare_is heard_is = bare_is
by_tests false false none bare heard none_is bare_is heard_is = heard_is

full_signal : (leg : LegState) (frame : FullFrame) (now : ℕ) → is_vnak (message_of frame.head) ≡ true
    → IsQuiet (full_step leg frame now).signal
full_signal leg frame now is =
    let message = message_of frame.head in
    by_tests (is_some (refusal leg frame)) (is_unaddressed leg frame) (nothing_sent leg) (numbered_step leg frame message now)
    (message_step message leg frame now) (inl refl) (bare_signal message leg frame now is)
    (vnak_signal message leg frame now is)

quiet : (first accepted : ℕ) (name : LegName) (signal : Option Signal) → IsQuiet signal
    → signals_put (handed_up name (granted first accepted signal).signal) ≤ 0
quiet first accepted name signal is = grind arith

pub vnak_brings : (first : ℕ) (peer : PeerView) (frame : FullFrame) (now : ℕ) → is_vnak (message_of frame.head) ≡ true
    → step_puts (datagram_step first peer (Full frame) now) ≤ 1
vnak_brings first peer frame now is = go (delivery peer frame now)
  where
    go : (to : Delivery) → step_puts (delivered_step first peer to frame now) ≤ 1
    go (Reaches named) = omega (
      arith,
      quiet first peer.accounts.accepted named.name (full_step named.leg frame now).signal
          (full_signal named.leg frame now is),
    )
    go to = omega arith

-- ---- openings

pub call_in_brings : (peer : PeerView) (name : LegName) (frame : FullFrame) (now : ℕ) (challenge : List ℕ)
    → step_puts (opens_in peer name frame now challenge) ≤ 3
call_in_brings peer name frame now challenge =
    omega (arith, handed_few name (open_in_step peer.rules name.number frame now challenge).signal)

-- ---- media

media_brings : (first accepted : ℕ) (named : Option NamedLeg) (span : MediaSpan)
    → signals_put (taken_at first accepted named span).signals ≤ 1
media_brings first accepted named span = grind arith

pub mini_brings : (first : ℕ) (peer : PeerView) (frame : MiniFrame) (now : ℕ)
    → step_puts (datagram_step first peer (Mini frame) now) ≤ 1
mini_brings first peer frame now = omega (
  arith,
  media_brings first peer.accounts.accepted (leg_of_remote peer.legs frame.source) (mini_span frame),
)

put_together : (one other : List (LegName × Signal)) → signals_put (one ++ other) ≡ signals_put one + signals_put other
put_together [] other = omega arith
put_together (up ∷ one) other = omega (arith, put_together one other)

entries_bring : (first : ℕ) (legs : PeerLegs) (limited : Bool) (taken : List ℕ) (timed : Bool) (at accepted : ℕ)
    (entries : List (ℕ × Option ℕ × List ℕ))
    → signals_put (entries_media first legs limited taken timed at accepted entries).signals ≤ length entries
entries_bring first legs limited taken timed at accepted [] = omega arith
entries_bring first legs limited taken timed at accepted (entry ∷ entries) =
    let span = entry_span timed at entry in
    let leg = taker limited taken (leg_of_remote legs entry.0) in
    let now : MediaTaken = taken_at first accepted leg span in
    let later : MediaTaken = entries_media first legs limited (taken_by taken leg) timed span.end (accepted + now.octets)
    entries in
    omega (
      arith,
      put_together now.signals later.signals,
      media_brings first accepted leg span,
      entries_bring first legs limited (taken_by taken leg) timed span.end (accepted + now.octets) entries,
    )

pub trunk_brings : (first : ℕ) (peer : PeerView) (frame : TrunkFrame) (now : ℕ)
    → step_puts (datagram_step first peer (Trunk frame) now) ≤ length frame.entries
trunk_brings first peer frame now =
    omega (
      arith,
      entries_bring first peer.legs peer.rules.is_hardened [] (is_timed frame.command_data) 8 peer.accounts.accepted
          (map entry_item frame.entries),
      length-map frame.entries entry_item,
    )
