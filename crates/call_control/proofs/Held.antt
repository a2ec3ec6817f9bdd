-- After each step the names in the book are those of the legs and of the callers' leases.
use Rattle.call_control.proofs.Prelude.{◌≡◌, Some, Bool, true, refl, ℕ, ◌+◌, ◌≤◌, List, [], ◌∷◌, ap, arith, inl, inr, Option}
use Rattle.call_control.proofs.Prelude.{cond, ◌&&◌, subst, ◌==◌, cases_Bool, nat_tests, is_same, Book, has_name, IsBook, LegName}
use Rattle.call_control.proofs.Prelude.{times, names_of, Leg, Scene, leg_at, leg_named, replaced, without, all_lapsed, is_leased}
use Rattle.call_control.proofs.Prelude.{dropped, if_named, Lapse, is_same_itself, same_name, bit}

abbrev pub scene : Book → List Leg → List LegName → Scene
scene book legs leases = record { book = book; legs = legs; leases = leases }

-- of the acting caller; the others hold this number of leases for each name
pub record IsHeld (others : LegName → ℕ) (s : Scene) : Type 0 where
  pub sound : IsBook s.book
  pub once : (x : LegName) → (times x (names_of s.legs) + times x s.leases) + others x ≡ bit (has_name s.book x)

pub some_bit : (b : Bool) → 1 ≤ bit b → b ≡ true
some_bit b some = grind arith

pub bit_most : (b : Bool) → bit b ≤ 1
bit_most b = grind arith

-- legs keep their names
pub names_replaced : (legs : List Leg) (new : Leg) → names_of (replaced legs new) ≡ names_of legs
names_replaced [] new = refl
names_replaced (leg ∷ legs) new = grind (arith, names_replaced legs new, same_name leg.name new.name)

pub names_lapsed : (peer : ℕ) (lapses : List (ℕ × Lapse)) (legs : List Leg) → names_of (all_lapsed peer lapses legs) ≡ names_of
    legs
names_lapsed peer [] legs = refl
names_lapsed peer (lapse ∷ lapses) legs = grind (arith, names_lapsed peer lapses, names_replaced)

-- a leg that is found is there
pub found_at : (legs : List Leg) (peer number : ℕ) (leg : Leg) → leg_at legs peer number ≡ Some leg
    → (leg.name.peer ≡ peer) × (leg.name.number ≡ number) × (1 ≤ times leg.name (names_of legs))
found_at [] peer number leg is = absurd (cc)
found_at (first ∷ legs) peer number leg is =
    elim (cases_Bool (first.name.peer == peer && first.name.number == number)) [
      | inl here ↦
          let same : first ≡ leg = let e = rw here at is in cc in
          let p : first.name.peer ≡ peer = grind (arith, nat_tests) in
          let q : first.name.number ≡ number = grind (arith, nat_tests) in
          let once : bit (is_same first.name first.name) ≡ 1 = ap bit (is_same_itself first.name) in
          subst (λ l. (l.name.peer ≡ peer) × (l.name.number ≡ number) × (1 ≤ times l.name (names_of (first ∷ legs)))) same
          (p, q, omega arith)
      | inr other ↦
          let there = found_at legs peer number leg (rw other at is) in
          (there.0, there.1, omega (arith, there.2))
    ]

pub found_if : (name : LegName) (o : Option Leg) (leg : Leg) → if_named name o ≡ Some leg → (o ≡ Some leg) × (leg.name ≡ name)
found_if name o leg is = (grind arith, grind (arith, same_name))

pub found_named : (legs : List Leg) (name : LegName) (leg : Leg) → leg_named legs name ≡ Some leg → (leg.name ≡ name) ×
    (1 ≤ times name (names_of legs))
found_named legs name leg is =
    let f = found_if name (leg_at legs name.peer name.number) leg is in
    let there = found_at legs name.peer name.number leg f.0 in
    (f.1, subst (λ n. 1 ≤ times n (names_of legs)) f.1 there.2)

-- a lease that a caller holds is found
pub leased_own : (name : LegName) → is_leased (name ∷ []) name ≡ true
leased_own name = rw (is_same_itself name) refl

pub dropped_own : (name : LegName) → dropped (name ∷ []) name ≡ []
dropped_own name = rw (is_same_itself name) refl

-- legs without those of a name
pub without_times : (legs : List Leg) (name x : LegName) → times x (names_of (without legs name)) + cond (is_same name x)
    (times x (names_of legs)) 0 ≡ times x (names_of legs)
without_times [] name x = grind arith
without_times (leg ∷ legs) name x = grind (arith, without_times legs name x, same_name leg.name name, same_name name x)
