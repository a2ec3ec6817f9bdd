-- A datagram's step hands up media of the datagram alone, and takes credit for all of it.
use Rattle.std.specs.Prelude.{◌&&◌, map, length, nat_le, ◌-◌}
use Rattle.std.proofs.Common.{◌≡◌, ℕ, suc, ◌+◌, ◌≤◌, Bool, true, false, inl, inr, List, [], ◌∷◌, ◌++◌, Option, Some, None, refl}
use Rattle.std.proofs.Common.{ap, ◌∙◌, arith}
use Rattle.std.proofs.lemmas.Bool.{cases_Bool}
use Rattle.std.specs.List.{AllByRecursion}
use Rattle.call_book.specs.declared.leg_name.LegName.{LegName}
use Rattle.iax_frames.specs.Datagram.{Spells}
use Rattle.iax_frames.specs.FullFrame.{FullFrame, SpellsFull}
use Rattle.iax_frames.specs.TrunkFrame.{entry_item, head_len, is_timed}
use Rattle.iax_frames.specs.declared.datagram.Datagram.{Datagram}
use Rattle.iax_frames.specs.declared.datagram.Datagram.TheVariants.{Full, Mini, Video, Trunk}
use Rattle.leg_machine.specs.LegTable.{is_media}
use Rattle.leg_machine.specs.Leg.{LegState}
use Rattle.leg_machine.specs.Media.{accepts_media, took_voice, IsMediaOf}
use Rattle.leg_machine.specs.Signal.{span_len}
use Rattle.leg_machine.specs.Stage.{is_talking}
use Rattle.leg_machine.specs.Steps.{full_step}
use Rattle.call_signals.specs.declared.signal.MediaSpan.{MediaSpan}
use Rattle.call_signals.specs.declared.signal.Signal.{Signal}
use Rattle.call_signals.specs.declared.signal.Signal.TheVariants as signals
use Rattle.peer_lock.specs.Arrivals.{delivered_step, datagram_step, media_at, mini_span, entries_media, entry_span, entries_len}
use Rattle.peer_lock.specs.CarriedMedia.{LiesWithin, signal_octets, handed_octets, CarriesItsOwn}
use Rattle.peer_lock.specs.Delivery.{Delivery, Reaches, NeedsNumber, NoToken, Gets, Pongs, NoCall, delivery}
use Rattle.peer_legs.specs.Legs.{NamedLeg, PeerLegs, leg_of_remote}
use Rattle.peer_accounts.specs.Grants.{granted}
use Rattle.peer_lock.specs.Peer.{PeerView, PeerStep, handed_up}
use Rattle.peer_lock.specs.TrunkEntries.{taken_by, taker}
use Rattle.peer_lock.proofs.Shortness.{trunk_len}

-- signals that hand up this many octets of media, all within a datagram of len octets
record Carries (len : ℕ) (up : List (LegName × Signal)) (octets : ℕ) : Type 0 where
  pub within : AllByRecursion (LiesWithin len) up
  pub taken : handed_octets up ≡ octets

none : (len : ℕ) → Carries len [] 0
none len = record { within = tt; taken = refl }

-- a piece of media that is granted, or isn't
piece : (len first accepted : ℕ) (name : LegName) (span : MediaSpan) → span.start ≤ span.end → span.end ≤ len
    → is_media (span_len span) ≡ true
    → Carries len (handed_up name (granted first accepted (Some (signals.Media span))).signal)
    (granted first accepted (Some (signals.Media span))).octets
piece len first accepted name span ordered inside counts = elim (cases_Bool (nat_le (accepted + span_len span) first)) [
  | inl e ↦ rw e (record { within = ((ordered, inside, counts), tt); taken = one (span_len span) })
  | inr e ↦ rw e (none len)
]
  where
    one : (n : ℕ) → n + 0 ≡ n
    one n = omega arith

-- ---- full frames

frame_carries : (len first accepted : ℕ) (name : LegName) (frame : FullFrame) (signal : Option Signal)
    → 12 + length frame.payload ≤ len → IsMediaOf frame signal
    → Carries len (handed_up name (granted first accepted signal).signal) (granted first accepted signal).octets
frame_carries len first accepted name frame None fits is = none len
frame_carries len first accepted name frame (Some signals.Offered) fits is = record { within = (tt, tt); taken = refl }
frame_carries len first accepted name frame (Some (signals.Indicated indication)) fits is =
    record { within = (tt, tt); taken = refl }
frame_carries len first accepted name frame (Some signals.Answered) fits is = record { within = (tt, tt); taken = refl }
frame_carries len first accepted name frame (Some (signals.Dtmf digit)) fits is = record { within = (tt, tt); taken = refl }
frame_carries len first accepted name frame (Some signals.Hangup) fits is = record { within = (tt, tt); taken = refl }
frame_carries len first accepted name frame (Some (signals.Media span)) fits is =
    let start : span.start ≡ 12 = ap (λ (s : MediaSpan). s.start) is.0 in
    let end : span.end ≡ 12 + length frame.payload = ap (λ (s : MediaSpan). s.end) is.0 in
    let all : span_len span ≡ length frame.payload = less span.start span.end (length frame.payload) start end in
    piece len first accepted name span (above span.start span.end (length frame.payload) start end)
    (fit span.end (length frame.payload) len end fits)
    (ap is_media all ∙ is.1)
  where
    less : (start end n : ℕ) → start ≡ 12 → end ≡ 12 + n → end - start ≡ n
    less start end n s e = omega (arith, s, e)

    above : (start end n : ℕ) → start ≡ 12 → end ≡ 12 + n → start ≤ end
    above start end n s e = omega (arith, s, e)

    fit : (end n len : ℕ) → end ≡ 12 + n → 12 + n ≤ len → end ≤ len
    fit end n len e fits = omega (arith, e, fits)

carries_own : (len : ℕ) (step : PeerStep) → Carries len step.signals step.octets → CarriesItsOwn len step
carries_own len step c = record { within = c.within; octets = c.taken }

delivered_carries : (law : (leg : LegState) (frame : FullFrame) (now : ℕ) → IsMediaOf frame (full_step leg frame now).signal)
    (len first : ℕ) (peer : PeerView) (frame : FullFrame) (now : ℕ)
    → 12 + length frame.payload ≤ len → (d : Delivery) → CarriesItsOwn len (delivered_step first peer d frame now)
delivered_carries law len first peer frame now fits (Reaches named) =
    carries_own len _ (frame_carries len first peer.accounts.accepted named.name frame (full_step named.leg frame now).signal fits
    (law named.leg frame now))
delivered_carries law len first peer frame now fits NeedsNumber = carries_own len _ (none len)
delivered_carries law len first peer frame now fits NoToken = carries_own len _ (none len)
delivered_carries law len first peer frame now fits (Gets answer) = carries_own len _ (none len)
delivered_carries law len first peer frame now fits Pongs = carries_own len _ (none len)
delivered_carries law len first peer frame now fits NoCall = carries_own len _ (none len)

-- ---- media

last_of : (a b : Bool) → (a && b) ≡ true → b ≡ true
last_of true b e = e
last_of false b e = cc

media_carries : (len first accepted : ℕ) (o : Option NamedLeg) (span : MediaSpan) → span.start ≤ span.end → span.end ≤ len
    → Carries len (media_at first accepted o span).signals (media_at first accepted o span).octets
media_carries len first accepted None span ordered inside = none len
media_carries len first accepted (Some named) span ordered inside = elim (cases_Bool (accepts_media named.leg span)) [
  | inr e ↦ rw e (none len)
  | inl e ↦ rw e (piece len first accepted named.name span ordered inside
      (last_of (is_talking named.leg.stage && took_voice named.leg) (is_media (span_len span)) e))
]

nothing : (all m n : ℕ) → 0 ≡ m → all ≡ n → all ≡ m + n
nothing all m n e f = omega (arith, e, f)

both : (len : ℕ) (a b : List (LegName × Signal)) (m n : ℕ) → Carries len a m → Carries len b n → Carries len (a ++ b) (m + n)
both len [] b m n one other = record { within = other.within; taken = nothing (handed_octets b) m n one.taken other.taken }
both len (up ∷ a) b m n one other =
    let rest = both len a b (handed_octets a) n (record { within = one.within.1; taken = refl }) other in
    record {
      within = (one.within.0, rest.within);
      taken = sum (signal_octets up.1) (handed_octets (a ++ b)) (handed_octets a) n m rest.taken one.taken;
    }
  where
    sum : (u all a n m : ℕ) → all ≡ a + n → u + a ≡ m → u + all ≡ m + n
    sum u all a n m e f = omega (arith, e, f)

entries_carry : (len first : ℕ) (legs : PeerLegs) (limited : Bool) (taken : List ℕ) (timed : Bool) (at accepted : ℕ)
    (entries : List (ℕ × Option ℕ × List ℕ)) → at + entries_len timed entries ≤ len
    → Carries len (entries_media first legs limited taken timed at accepted entries).signals (entries_media first legs limited
    taken timed at accepted entries).octets
entries_carry len first legs limited taken timed at accepted [] fits = none len
entries_carry len first legs limited taken timed at accepted (entry ∷ entries) fits =
    let span = entry_span timed at entry in
    let leg = taker limited taken (leg_of_remote legs entry.0) in
    both len _ _ _ _ (media_carries len first accepted leg span
    (ordered (at + head_len timed) (length entry.2)) (inside at (head_len timed) (length entry.2) (entries_len timed entries)
    len fits))
    (entries_carry len first legs limited (taken_by taken leg) timed span.end
    (accepted + (media_at first accepted leg span).octets) entries
    (onward at (head_len timed) (length entry.2) (entries_len timed entries) len fits))
  where
    ordered : (start n : ℕ) → start ≤ start + n
    ordered start n = omega arith

    inside : (at head n rest len : ℕ) → at + (head + n + rest) ≤ len → at + head + n ≤ len
    inside at head n rest len fits = omega (arith, fits)

    onward : (at head n rest len : ℕ) → at + (head + n + rest) ≤ len → at + head + n + rest ≤ len
    onward at head n rest len fits = omega (arith, fits)

-- ---- the datagram

full_len : (octets : List ℕ) (frame : FullFrame) → SpellsFull octets frame → 12 + length frame.payload ≤ length octets
full_len octets frame s = let all = ap length s.whole in twelve (length octets) (length frame.payload) all
  where
    twelve : (n m : ℕ) → n ≡ suc (suc (suc (suc (suc (suc (suc (suc (suc (suc (suc (suc m))))))))))) → 12 + m ≤ n
    twelve n m e = omega (arith, e)

pub datagram_carries : (law : (leg : LegState) (frame : FullFrame) (now : ℕ) → IsMediaOf frame (full_step leg frame now).signal)
    (first : ℕ) (peer : PeerView) (octets : List ℕ)
    (d : Datagram) (now : ℕ) → Spells octets d → CarriesItsOwn (length octets) (datagram_step first peer d now)
datagram_carries law first peer octets (Full frame) now s =
    delivered_carries law (length octets) first peer frame now (full_len octets frame s) (delivery peer frame now)
datagram_carries law first peer octets (Mini mini) now s =
    carries_own (length octets) _ (media_carries (length octets) first peer.accounts.accepted
    (leg_of_remote peer.legs mini.source) (mini_span mini)
    (four (length mini.media)) (least (length octets) (length mini.media) (ap length s.whole)))
  where
    four : (n : ℕ) → 4 ≤ 4 + n
    four n = omega arith

    least : (n m : ℕ) → n ≡ suc (suc (suc (suc m))) → 4 + m ≤ n
    least n m e = omega (arith, e)
datagram_carries law first peer octets (Video video) now s = carries_own (length octets) _ (none (length octets))
datagram_carries law first peer octets (Trunk trunk) now s =
    carries_own (length octets) _ (entries_carry (length octets) first peer.legs peer.rules.is_hardened [] (is_timed
    trunk.command_data) 8
    peer.accounts.accepted (map entry_item trunk.entries)
    (same (8 + entries_len (is_timed trunk.command_data) (map entry_item trunk.entries)) (length octets)
    (trunk_len octets trunk s)))
  where
    same : (n m : ℕ) → m ≡ n → n ≤ m
    same n m e = omega (arith, e)
