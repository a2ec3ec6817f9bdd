-- The laws of legs by their local numbers: the leg in the list of places is found under its number, also after a write.
use Rattle.std.proofs.Common.{◌≡◌, ◌≢◌, ℕ, zero, suc, ◌+◌, ◌-◌, ◌<◌, ◌≤◌, nat_le, inl, inr, true, List, [], ◌∷◌, length, Option}
use Rattle.std.proofs.Common.{Some, None, slice_get, slice_set, refl, sym, ap, ◌∙◌, arith}
use Rattle.std.proofs.lemmas.Bool.{cases_Bool, leb-true, le-leb}
use Rattle.peer_legs.specs.Legs.{AreLegs, NamedLeg, PeerLegs, filled, leg_at, with_place}

-- ---- an element of a list after a write

pub slice_get-set_same : {A : Type 0} (xs : List A) (i : ℕ) (x : A) → i < length xs → slice_get (slice_set xs i x) i ≡ Some x
slice_get-set_same [] i x lt = absurd (omega arith)
slice_get-set_same (y ∷ ys) zero x lt = refl
slice_get-set_same (y ∷ ys) (suc i) x lt = slice_get-set_same ys i x (omega arith)

pub slice_get-set_other : {A : Type 0} (xs : List A) (i j : ℕ) (x : A) → j ≢ i → slice_get (slice_set xs i x) j ≡ slice_get xs j
slice_get-set_other [] i j x ne = refl
slice_get-set_other (y ∷ ys) zero zero x ne = absurd (ne refl)
slice_get-set_other (y ∷ ys) zero (suc j) x ne = refl
slice_get-set_other (y ∷ ys) (suc i) zero x ne = refl
slice_get-set_other (y ∷ ys) (suc i) (suc j) x ne = slice_get-set_other ys i j x (λ e. ne (ap suc e))

-- a write of the element that is there already
pub slice_set_same : {A : Type 0} (xs : List A) (i : ℕ) (x : A) → slice_get xs i ≡ Some x → slice_set xs i x ≡ xs
slice_set_same [] i x there = cc
slice_set_same (y ∷ ys) zero x there = let is : x ≡ y = cc in ap (λ first. first ∷ ys) is
slice_set_same (y ∷ ys) (suc i) x there = ap (λ rest. y ∷ rest) (slice_set_same ys i x there)

-- ---- the leg of a number

pub filled_at : (o : Option (Option NamedLeg)) (named : NamedLeg) → filled o ≡ Some named → o ≡ Some (Some named)
filled_at None named is = cc
filled_at (Some place) named is = ap Some is

-- the place of a leg
pub record StandsAt (legs : PeerLegs) (number : ℕ) (named : NamedLeg) : Type 0 where
  pub first : legs.first ≤ number
  pub place : slice_get legs.places (number - legs.first) ≡ Some (Some named)

pub stands_at : (legs : PeerLegs) (number : ℕ) (named : NamedLeg) → leg_at legs number ≡ Some named → StandsAt legs number named
stands_at legs number named is = elim (cases_Bool (nat_le legs.first number)) [
  | inl e ↦ record {
    first = leb-true legs.first number e;
    place = filled_at (slice_get legs.places (number - legs.first)) named (rw e at is);
  }
  | inr e ↦ let none : None ≡ Some named = rw e at is in cc
]

pub leg_at_place : (legs : PeerLegs) (number place : ℕ) (o : Option NamedLeg) → number ≡ legs.first + place
    → slice_get legs.places place ≡ Some o → leg_at legs number ≡ o
leg_at_place legs number place o is at =
    let there : number - legs.first ≡ place = omega arith in
    let within : nat_le legs.first number ≡ true = le-leb legs.first number (omega arith) in
    rw (within, there, at) refl

pub back : (first number : ℕ) → first ≤ number → number ≡ first + (number - first)
back first number le = omega arith

in_place : (first number count : ℕ) → first ≤ number → number < first + count → number - first < count
in_place first number count le lt = omega arith

-- the leg put under a number is found there
pub placed_there : (legs : PeerLegs) (number : ℕ) (place : Option NamedLeg) → legs.first ≤ number
    → number < legs.first + length legs.places
    → leg_at (with_place legs number place) number ≡ place
placed_there legs number place first within =
    leg_at_place (with_place legs number place) number (number - legs.first) place (back legs.first number first)
    (slice_get-set_same legs.places (number - legs.first) place (in_place legs.first number (length legs.places) first within))

-- a leg is under its own number
pub own_number : (legs : PeerLegs) (number : ℕ) (named : NamedLeg) → AreLegs legs → leg_at legs number ≡ Some named
    → named.name.number ≡ number
own_number legs number named are at =
    let here = stands_at legs number named at in
    (are.named (number - legs.first) named here.place).1 ∙ sym (back legs.first number here.first)
