-- A trunk frame hands up few pieces of media of one call.
use Rattle.std.specs.Prelude.{if◌then◌else◌}
use Rattle.std.proofs.Common.{◌≡◌, ◌≤◌, ◌<◌, ℕ, ◌+◌, ◌==◌, ◌||◌, nat_le, Bool, true, false, inl, inr, List, [], ◌∷◌, ◌++◌}
use Rattle.std.proofs.Common.{Option, Some}
use Rattle.std.proofs.Common.{None, refl, sym, ap, ◌∙◌, subst, arith}
use Rattle.std.proofs.lemmas.Bool.{cases_Bool, eqb-true, leb-false}
use Rattle.call_book.specs.declared.leg_name.LegName.{LegName}
use Rattle.call_signals.specs.declared.signal.MediaSpan.{MediaSpan}
use Rattle.call_signals.specs.declared.signal.Signal.{Signal}
use Rattle.leg_machine.specs.Media.{accepts_media}
use Rattle.leg_machine.specs.Signal.{span_len}
use Rattle.peer_legs.specs.Legs.{NamedLeg, PeerLegs, leg_of_remote}
use Rattle.peer_lock.specs.Arrivals.{entries_media, entry_span, media_at}
use Rattle.peer_lock.specs.TrunkEntries.{count_of, drops_entries, handed_by, has_its_share, taken_by, taker}

both_by : (number : ℕ) (one other : List (LegName × Signal))
    → handed_by number (one ++ other) ≡ handed_by number one + handed_by number other
both_by number [] other = omega arith
both_by number (up ∷ one) other = omega (arith, both_by number one other)

-- an entry hands up one piece at most, by the leg that takes it
one_by : (number first accepted : ℕ) (named : NamedLeg) (span : MediaSpan)
    → handed_by number (media_at first accepted (Some named) span).signals ≤ (if named.name.number == number then 1 else 0)
one_by number first accepted named span = elim (cases_Bool (accepts_media named.leg span)) [
  | inr e ↦ rw e (omega arith)
  | inl e ↦ elim (cases_Bool (nat_le (accepted + span_len span) first)) [
    | inr f ↦ rw (e, f) (omega arith)
    | inl f ↦ rw (e, f) (omega arith)
  ]
]

-- a leg that takes an entry has taken fewer than 16
below_share : (taken : List ℕ) (o : Option NamedLeg) (named : NamedLeg) → taker true taken o ≡ Some named
    → nat_le 16 (count_of named.name.number taken) ≡ false
below_share taken None named is = cc
below_share taken (Some one) named is = elim (cases_Bool (nat_le 16 (count_of one.name.number taken))) [
  | inl e ↦ let never : None ≡ Some named = rw e at is in cc
  | inr e ↦ let same : Some one ≡ Some named = rw e at is in sym (ap full same) ∙ e
]
  where
    full : Option NamedLeg → Bool
    full None = false
    full (Some leg) = nat_le 16 (count_of leg.name.number taken)

-- an entry, and the later ones
one_few : (number first accepted : ℕ) (taken : List ℕ) (span : MediaSpan) (leg : Option NamedLeg)
    (later : List (LegName × Signal)) → count_of number taken ≤ 16
    → ((named : NamedLeg) → leg ≡ Some named → nat_le 16 (count_of named.name.number taken) ≡ false)
    → (count_of number (taken_by taken leg) ≤ 16
    → handed_by number later + count_of number (taken_by taken leg) ≤ 16)
    → handed_by number ((media_at first accepted leg span).signals ++ later) + count_of number taken ≤ 16
one_few number first accepted taken span None later few fits rest = rest few
one_few number first accepted taken span (Some named) later few fits rest =
    elim (cases_Bool (named.name.number == number)) [
      | inl e ↦
          let fewer : count_of number taken < 16 = subst (λ (n : ℕ). count_of n taken < 16)
          (eqb-true named.name.number number e)
          (leb-false 16 (count_of named.name.number taken) (fits named refl)) in
          let more : count_of number (named.name.number ∷ taken) ≡ 1 + count_of number taken =
          ap (λ (b : Bool). (if b then 1 else 0) + count_of number taken) e in
          let now : handed_by number signals ≤ 1 =
          subst (λ (b : Bool). handed_by number signals ≤ (if b then 1 else 0)) e (one_by number first accepted named span) in
          omega (arith, both_by number signals later, now, more, fewer, rest (omega (arith, more, fewer)))
      | inr e ↦
          let same : count_of number (named.name.number ∷ taken) ≡ 0 + count_of number taken =
          ap (λ (b : Bool). (if b then 1 else 0) + count_of number taken) e in
          let now : handed_by number signals ≤ 0 =
          subst (λ (b : Bool). handed_by number signals ≤ (if b then 1 else 0)) e (one_by number first accepted named span) in
          omega (arith, both_by number signals later, now, same, few, rest (omega (arith, same, few)))
    ]
  where
    signals : List (LegName × Signal)
    signals = (media_at first accepted (Some named) span).signals

few_by : (number first : ℕ) (legs : PeerLegs) (taken : List ℕ) (timed : Bool) (at accepted : ℕ)
    (entries : List (ℕ × Option ℕ × List ℕ)) → count_of number taken ≤ 16
    → handed_by number (entries_media first legs true taken timed at accepted entries).signals + count_of number taken ≤ 16
few_by number first legs taken timed at accepted [] few = omega (arith, few)
few_by number first legs taken timed at accepted (entry ∷ entries) few =
    let span = entry_span timed at entry in
    let leg = taker true taken (leg_of_remote legs entry.0) in
    one_few number first accepted taken span leg _ few (λ named is. below_share taken (leg_of_remote legs entry.0) named is)
    (few_by number first legs (taken_by taken leg) timed span.end (accepted + (media_at first accepted leg span).octets) entries)

-- in a frame with a limit
pub few_entries_by : (number first : ℕ) (legs : PeerLegs) (limited timed : Bool) (at accepted : ℕ)
    (entries : List (ℕ × Option ℕ × List ℕ)) → limited ≡ true
    → handed_by number (entries_media first legs limited [] timed at accepted entries).signals ≤ 16
few_entries_by number first legs limited timed at accepted entries must =
    subst (λ (b : Bool). handed_by number (entries_media first legs b [] timed at accepted entries).signals ≤ 16) (sym must)
    (omega (arith, few_by number first legs [] timed at accepted entries (omega arith)))

-- without a limit none is dropped
pub none_dropped : (legs : PeerLegs) (taken : List ℕ) (entries : List (ℕ × Option ℕ × List ℕ))
    → drops_entries legs false taken entries ≡ false
none_dropped legs taken [] = refl
none_dropped legs taken (entry ∷ entries) =
    by_leg (leg_of_remote legs entry.0) (λ others. none_dropped legs others entries)
  where
    by_leg : (o : Option NamedLeg) → ((others : List ℕ) → drops_entries legs false others entries ≡ false)
        → (has_its_share false taken o || drops_entries legs false (taken_by taken (taker false taken o)) entries) ≡ false
    by_leg None rest = rest taken
    by_leg (Some named) rest = rest (named.name.number ∷ taken)
