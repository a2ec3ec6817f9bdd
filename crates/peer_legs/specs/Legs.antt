-- The legs of a peer, by their local numbers.
pub use Rattle.leg_machine.specs.Tie.{IsLegOf}
use Rattle.std.specs.Prelude.{◌≡◌, ℕ, ◌+◌, ◌-◌, ◌^◌, ◌≤◌, nat_le, nat_lt, ◌==◌, ◌&&◌, not, is_some, Bool, false, List, [], ◌∷◌}
use Rattle.std.specs.Prelude.{Option, None, Some, slice_get, slice_set, length, is_none, if◌then◌else◌}
use Rattle.call_book.specs.Book.{is_same}
use Rattle.call_book.specs.declared.leg_name.LegName.{LegName}
use Rattle.call_signals.specs.declared.rules.PeerRules.{PeerRules}
use Rattle.leg_machine.specs.Leg.{LegState}

-- a leg, and the name under which it is known
pub record NamedLeg : Type 0 where
  pub name : LegName
  pub leg : LegState

-- the legs of a peer: its place in the plan, the first of its local numbers, and the leg that each of its numbers has
pub record PeerLegs : Type 0 where
  pub peer : ℕ
  pub first : ℕ
  pub places : List (Option NamedLeg)

-- the leg at a place, if there is one
abbrev pub filled : Option (Option NamedLeg) → Option NamedLeg
filled None = None
filled (Some place) = place

-- the leg of a local number
abbrev pub leg_at : PeerLegs → ℕ → Option NamedLeg
leg_at legs number = if nat_le legs.first number then filled (slice_get legs.places (number - legs.first)) else None

abbrev pub if_named : LegName → Option NamedLeg → Option NamedLeg
if_named name None = None
if_named name (Some named) = if is_same named.name name then Some named else None

-- the leg of a name
abbrev pub leg_named : PeerLegs → LegName → Option NamedLeg
leg_named legs name = if_named name (leg_at legs name.number)

-- the leg has this remote number
abbrev pub is_remote : Option ℕ → ℕ → Bool
is_remote None number = false
is_remote (Some remote) number = remote == number

abbrev pub has_remote : Option NamedLeg → ℕ → Bool
has_remote None number = false
has_remote (Some named) number = is_remote named.leg.remote number

-- the leg among these that has a remote number
abbrev pub first_remote : List (Option NamedLeg) → ℕ → Option NamedLeg
first_remote [] number = None
first_remote (place ∷ places) number = if has_remote place number then place else first_remote places number

abbrev pub leg_of_remote : PeerLegs → ℕ → Option NamedLeg
leg_of_remote legs number = first_remote legs.places number

-- A full frame from this source is of a leg with this remote number: it is the source, or is unknown while no leg has it.
abbrev pub is_from : PeerLegs → Option ℕ → ℕ → Bool
is_from legs None source = is_none (leg_of_remote legs source)
is_from legs (Some remote) source = remote == source

-- the name is one of this peer's, and no leg has its number
abbrev pub is_free_name : PeerLegs → LegName → Bool
is_free_name legs name =
    (name.peer == legs.peer) && (nat_le legs.first name.number && nat_lt name.number (legs.first + length legs.places))
    && not (is_some (leg_at legs name.number))

-- the legs with another leg, or none, under a local number
abbrev pub with_place : PeerLegs → ℕ → Option NamedLeg → PeerLegs
with_place legs number place = record legs { places = slice_set legs.places (number - legs.first) place }

-- the legs with another state of the leg of this name
abbrev pub with_leg : PeerLegs → LegName → LegState → PeerLegs
with_leg legs name leg = with_place legs name.number (Some (record { name = name; leg = leg }))

-- the numbers are the peer's, and no two legs have one remote number
pub record AreLegs (legs : PeerLegs) : Type 0 where
  pub named : (place : ℕ) (named : NamedLeg) → slice_get legs.places place ≡ Some (Some named)
      → (named.name.peer ≡ legs.peer) × (named.name.number ≡ legs.first + place) × (named.leg.number ≡ legs.first + place)
  pub apart : (a b : ℕ) (one other : NamedLeg) (remote : ℕ) → slice_get legs.places a ≡ Some (Some one) →
      slice_get legs.places b ≡ Some (Some other)
      → one.leg.remote ≡ Some remote → other.leg.remote ≡ Some remote → a ≡ b
  pub some : 1 ≤ legs.first
  pub within : legs.first + length legs.places ≤ 2 ^ 15

-- each leg is one of a peer with these rules
abbrev pub AreLegsOf : PeerRules → PeerLegs → Type 0
AreLegsOf rules legs = (number : ℕ) (named : NamedLeg) → leg_at legs number ≡ Some named → IsLegOf rules named.leg
