-- The visible legs of a peer after one was added, changed or removed.
use Rattle.std.proofs.Common.{◌≡◌, ◌≢◌, ℕ, zero, suc, ◌+◌, ◌-◌, ◌<◌, ◌≤◌, nat_le, true, inl, inr, List, [], ◌∷◌, length, Option}
use Rattle.std.proofs.Common.{Some, None, slice_get, refl, ap, ◌∙◌, arith}
use Rattle.std.specs.Prelude.{option_map}
use Rattle.std.proofs.lemmas.Bool.{cases_Bool}
use Rattle.std.proofs.lemmas.Bool.Decides.{nat_tests}
use Rattle.std.proofs.lemmas.Option.{slice_get_within}
use Rattle.call_book.specs.Book.{is_same}
use Rattle.call_book.specs.declared.leg_name.LegName.{LegName}
use Rattle.leg_machine.specs.Leg.{LegState}
use Rattle.leg_machine.specs.Seen.{seen}
use Rattle.peer_legs.specs.Legs.{NamedLeg, PeerLegs, AreLegs, filled, leg_at, leg_named, if_named, first_remote, leg_of_remote}
use Rattle.peer_legs.specs.Legs.{is_remote, with_leg, with_place}
use Rattle.peer_legs.proofs.PlaceLaws.{slice_get-set_other, stands_at, leg_at_place, placed_there}
use Rattle.peer_lock.specs.Seen.{seen_named, seen_at, TurnsAt}
use Rattle.call_book.proofs.NameLaws.{is_same_itself, same_name}

-- ---- names

-- the leg of a name is under its number
pub record IsNamed (legs : PeerLegs) (name : LegName) (named : NamedLeg) : Type 0 where
  pub at : leg_at legs name.number ≡ Some named
  pub is : named.name ≡ name

named_is : (o : Option NamedLeg) (name : LegName) (named : NamedLeg) → if_named name o ≡ Some named → (o ≡ Some named) ×
    (named.name ≡ name)
named_is None name named is = cc
named_is (Some other) name named is = elim (cases_Bool (is_same other.name name)) [
  | inl e ↦ let here : Some other ≡ Some named = rw e at is in let both : other ≡ named = cc in
      (here, rw (← both) (same_name other.name name e))
  | inr e ↦ let never : None ≡ Some named = rw e at is in cc
]

pub named_at : (legs : PeerLegs) (name : LegName) (named : NamedLeg) → leg_named legs name ≡ Some named → IsNamed legs name named
named_at legs name named is = let found = named_is (leg_at legs name.number) name named is in
    record { at = found.0; is = found.1 }

-- a name for which no leg was found has none
pub none_named : (o : Option NamedLeg) (name : LegName) (named : NamedLeg) → if_named name o ≡ None → o ≡ Some named
    → named.name ≢ name
none_named None name named none at = cc
none_named (Some other) name named none at = λ is.
    let both : other ≡ named = cc in
    let same : other.name ≡ name = ap (λ (n : NamedLeg). n.name) both ∙ is in
    let test : is_same other.name name ≡ true = rw same (is_same_itself name) in
    let never : Some other ≡ None = rw test at none in
    cc

-- the leg of a name, as it is seen
pub seen_of_name : (legs : PeerLegs) (name : LegName) (named : NamedLeg) → IsNamed legs name named
    → seen_at legs name.number ≡ Some (record { name = name; seen = seen named.leg })
seen_of_name legs name named is = ap (option_map seen_named) is.at ∙ λ i. Some (record { name = is.is i; seen = seen named.leg })

-- ---- numbers

remote_at : (places : List (Option NamedLeg)) (remote : ℕ) (named : NamedLeg) → first_remote places remote ≡ Some named
    → (place : ℕ) × (slice_get places place ≡ Some (Some named))
remote_at [] remote named is = cc
remote_at (None ∷ places) remote named is = let later = remote_at places remote named is in (suc later.0, later.1)
remote_at (Some first ∷ places) remote named is = elim (cases_Bool (is_remote first.leg.remote remote)) [
  | inl e ↦ let here : Some first ≡ Some named = rw e at is in (zero, ap Some here)
  | inr e ↦ let later = remote_at places remote named (rw e at is) in (suc later.0, later.1)
]

-- the leg that has a remote number is under its own number
pub remote_named : (legs : PeerLegs) (remote : ℕ) (named : NamedLeg) → AreLegs legs → leg_of_remote legs remote ≡ Some named
    → leg_at legs named.name.number ≡ Some named
remote_named legs remote named are is =
    let found = remote_at legs.places remote named is in
    leg_at_place legs named.name.number found.0 (Some named) (are.named found.0 named found.1).1 found.1

-- ---- a change under one number

apart : (first number other : ℕ) → first ≤ number → first ≤ other → other ≢ number → other - first ≢ number - first
apart first number other le le' ne = λ e. ne (omega (arith, e, le, le'))

pub placed_apart : (legs : PeerLegs) (number other : ℕ) (place : Option NamedLeg) → legs.first ≤ number → other ≢ number
    → leg_at (with_place legs number place) other ≡ leg_at legs other
placed_apart legs number other place first ne = elim (cases_Bool (nat_le legs.first other)) [
  | inl e ↦
      let le : legs.first ≤ other = grind (arith, nat_tests) in
      rw e (ap filled (slice_get-set_other legs.places (number - legs.first) (other - legs.first) place
      (apart legs.first number other first le ne)))
  | inr e ↦ rw e refl
]

pub placed_turns : (legs : PeerLegs) (number : ℕ) (place : Option NamedLeg) → legs.first ≤ number
    → number < legs.first + length legs.places
    → TurnsAt legs (with_place legs number place) number (option_map seen_named place)
placed_turns legs number place first within = record {
  peer = refl;
  there = ap (option_map seen_named) (placed_there legs number place first within);
  rest = λ other ne. ap (option_map seen_named) (placed_apart legs number other place first ne);
}

within : (first number count : ℕ) → first ≤ number → number - first < count → number < first + count
within first number count le lt = omega (arith, le, lt)

-- a leg under a number is taken out, or another takes its place
pub put_turns : (legs : PeerLegs) (number : ℕ) (named : NamedLeg) (place : Option NamedLeg) → leg_at legs number ≡ Some named
    → TurnsAt legs (with_place legs number place) number (option_map seen_named place)
put_turns legs number named place at =
    let here = stands_at legs number named at in
    placed_turns legs number place here.first
    (within legs.first number (length legs.places) here.first (slice_get_within legs.places (number - legs.first) (Some named)
    here.place))

-- a leg changes
pub leg_turns : (legs : PeerLegs) (named : NamedLeg) (leg : LegState) → leg_at legs named.name.number ≡ Some named
    → TurnsAt legs (with_leg legs named.name leg) named.name.number (Some (record { name = named.name; seen = seen leg }))
leg_turns legs named leg at = put_turns legs named.name.number named (Some (record { name = named.name; leg = leg })) at
