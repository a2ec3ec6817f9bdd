-- The leg with the next number.
use Rattle.std.proofs.Common.{◌≡◌, ℕ, zero, suc, ◌+◌, ◌-◌, ◌<◌, ◌≤◌, nat_le, inl, inr, List, [], ◌∷◌, drop, Option, Some, None}
use Rattle.std.proofs.Common.{IsNone, IfSome, option_copied, Bor, slice_get, refl, sym, ap, ◌∙◌, arith}
use Rattle.std.proofs.lemmas.Bool.{cases_Bool, leb-true}
use Rattle.peer_legs.specs.Finding.{first_leg, next_leg, AreFreeFrom, AreFreeBetween}
use Rattle.peer_legs.specs.Legs.{NamedLeg, PeerLegs, AreLegs, filled, leg_at}
use Rattle.peer_legs.proofs.PlaceLaws.{leg_at_place}

-- the place of the first leg from a place on
record IsFirst (places : List (Option NamedLeg)) (from place : ℕ) (named : NamedLeg) : Type 0 where
  at : slice_get places place ≡ Some (Some named)
  later : from ≤ place
  none : (other : ℕ) → from ≤ other → other < place → filled (slice_get places other) ≡ None

first_is : (places : List (Option NamedLeg)) (from : ℕ) (named : NamedLeg) → first_leg (drop from places) ≡ Some named
    → (place : ℕ) × IsFirst places from place named
first_is [] zero named is = cc
first_is [] (suc from) named is = cc
first_is (Some first ∷ places) zero named is =
    (zero, record { at = ap Some is; later = omega arith; none = λ other later before. absurd (omega (arith, before)) })
first_is (None ∷ places) zero named is =
    let rest = first_is places zero named is in
    (suc rest.0, record { at = rest.1.at; later = omega arith; none = none_before rest.0 rest.1 })
  where
    none_before : (place : ℕ) → IsFirst places zero place named → (other : ℕ) → zero ≤ other → other < suc place
        → filled (slice_get (None ∷ places) other) ≡ None
    none_before place first zero later before = refl
    none_before place first (suc other) later before = first.none other (omega arith) (omega (arith, before))
first_is (o ∷ places) (suc from) named is =
    let rest = first_is places from named is in
    (suc rest.0, record { at = rest.1.at; later = omega (arith, rest.1.later); none = none_before rest.0 rest.1 })
  where
    none_before : (place : ℕ) → IsFirst places from place named → (other : ℕ) → suc from ≤ other → other < suc place
        → filled (slice_get (o ∷ places) other) ≡ None
    none_before place first zero later before = absurd (omega (arith, later))
    none_before place first (suc other) later before = first.none other (omega (arith, later)) (omega (arith, before))

none_is : (places : List (Option NamedLeg)) (from : ℕ) → first_leg (drop from places) ≡ None → (other : ℕ) → from ≤ other
    → filled (slice_get places other) ≡ None
none_is [] from none other later = refl
none_is (Some first ∷ places) zero none other later = cc
none_is (None ∷ places) zero none zero later = refl
none_is (None ∷ places) zero none (suc other) later = none_is places zero none other (omega arith)
none_is (o ∷ places) (suc from) none zero later = absurd (omega (arith, later))
none_is (o ∷ places) (suc from) none (suc other) later = none_is places from none other (omega (arith, later))

-- a number without a leg at its place has none
free_at : (legs : PeerLegs) (number : ℕ) → (legs.first ≤ number → filled (slice_get legs.places (number - legs.first)) ≡ None)
    → leg_at legs number ≡ None
free_at legs number none = elim (cases_Bool (nat_le legs.first number)) [
  | inl e ↦ rw e (none (leb-true legs.first number e))
  | inr e ↦ rw e refl
]

-- what the leg with the next number is
pub record IsNext (legs : PeerLegs) (number : ℕ) (named : NamedLeg) : Type 0 where
  pub there : leg_at legs named.name.number ≡ Some named
  pub from : number ≤ named.name.number
  pub least : AreFreeBetween legs number named.name.number

pub next_is : (legs : PeerLegs) (number : ℕ) (named : NamedLeg) → AreLegs legs → next_leg legs number ≡ Some named
    → IsNext legs number named
next_is legs number named sound is =
    let found = first_is legs.places (number - legs.first) named is in
    let first = found.1 in
    let stands : named.name.number ≡ legs.first + found.0 = (sound.named found.0 named first.at).1 in
    record {
      there = leg_at_place legs named.name.number found.0 (Some named) stands first.at;
      from = omega (arith, stands, first.later);
      least = λ other later before. free_at legs other (λ within.
          first.none (other - legs.first) (omega (arith, later, within)) (omega (arith, before, within, stands)));
    }

pub none_next : (legs : PeerLegs) (number : ℕ) → next_leg legs number ≡ None → AreFreeFrom legs number
none_next legs number none other later = free_at legs other (λ within. none_is legs.places (number - legs.first) none
    (other - legs.first) (omega (arith, later, within)))

-- ---- what is found by reference

module _ (legs : PeerLegs) (number : ℕ) (sound : AreLegs legs) where
  pub next_there : (result : Option (Bor NamedLeg)) → option_copied result ≡ next_leg legs number
      → IfSome result (λ named. leg_at legs named.now.name.number ≡ Some named.now)
  next_there None is = tt
  next_there (Some named) is = (next_is legs number named.now sound (sym is)).there

  pub next_later : (result : Option (Bor NamedLeg)) → option_copied result ≡ next_leg legs number
      → IfSome result (λ named. number ≤ named.now.name.number)
  next_later None is = tt
  next_later (Some named) is = (next_is legs number named.now sound (sym is)).from

  pub next_least : (result : Option (Bor NamedLeg)) → option_copied result ≡ next_leg legs number
      → IfSome result (λ named. AreFreeBetween legs number named.now.name.number)
  next_least None is = tt
  next_least (Some named) is = (next_is legs number named.now sound (sym is)).least

  pub next_none : (result : Option (Bor NamedLeg)) → option_copied result ≡ next_leg legs number
      → (IsNone result → AreFreeFrom legs number) × (AreFreeFrom legs number → IsNone result)
  next_none None is = (λ none. none_next legs number (sym is), λ free. refl)
  next_none (Some named) is =
      let next = next_is legs number named.now sound (sym is) in
      (λ none. cc, λ free. let both : None ≡ Some named.now = sym (free named.now.name.number next.from) ∙ next.there in cc)
