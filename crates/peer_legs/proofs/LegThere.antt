-- A leg that changed, or was added, is found under its number.
use Rattle.std.proofs.Common.{◌≡◌, ◌+◌, ◌-◌, ◌≤◌, ℕ, Option, Some, None, Result, Ok, Err, IfOk, OnOk, slice_get, slice_set, ap}
use Rattle.std.proofs.Common.{true, ◌∙◌, arith}
use Rattle.std.proofs.lemmas.Option.{slice_get_within}
use Rattle.std.proofs.lemmas.Result.{on_ok_weaker}
use Rattle.leg_machine.specs.Leg.{LegState}
use Rattle.peer_legs.specs.Finding.{can_reach}
use Rattle.peer_legs.specs.Legs.{NamedLeg, PeerLegs, AreLegs, is_from, leg_at, with_leg}
use Rattle.peer_legs.proofs.PlaceLaws.{slice_get-set_same, stands_at, leg_at_place, back}

same_place : (first number other : ℕ) → first ≤ number → other ≡ first + (number - first) → other - first ≡ number - first
same_place first number other le is = omega arith

-- a leg that changed is still found under its number
pub kept_there : (legs : PeerLegs) (number : ℕ) (named : NamedLeg) (leg : LegState) → AreLegs legs
    → leg_at legs number ≡ Some named
    → leg_at (with_leg legs named.name leg) number ≡ Some (record { name = named.name; leg = leg })
kept_there legs number named leg are at =
    let here = stands_at legs number named at in
    let is = same_place legs.first number named.name.number here.first (are.named (number - legs.first) named here.place).1 in
    leg_at_place (with_leg legs named.name leg) number (number - legs.first) (Some (record { name = named.name; leg = leg }))
    (back legs.first number here.first)
    (ap (λ p. slice_get (slice_set legs.places p (Some (record { name = named.name; leg = leg }))) (number - legs.first)) is
    ∙ slice_get-set_same legs.places (number - legs.first) (Some (record { name = named.name; leg = leg }))
    (slice_get_within legs.places (number - legs.first) (Some named) here.place))

-- .. also if a step was made
pub made_there : {T E : Type 0} (result : Result T E) (legs after : PeerLegs) (number : ℕ) (named : NamedLeg) (step : LegState
    → LegState) → AreLegs legs
    → leg_at legs number ≡ Some named → OnOk result (after ≡ with_leg legs named.name (step named.leg))
    → OnOk result (leg_at after number ≡ Some (record { name = named.name; leg = step named.leg }))
made_there result legs after number named step are at made =
    on_ok_weaker result (λ is. ap (λ (all : PeerLegs). leg_at all number) is ∙ kept_there legs number named (step named.leg) are
    at) made

-- a frame that can reach a leg is from its other side
pub from_reached : (legs : PeerLegs) (source : ℕ) (place : Option NamedLeg) (named : NamedLeg)
    → can_reach legs source place ≡ true
    → place ≡ Some named → is_from legs named.leg.remote source ≡ true
from_reached legs source None named reached is = absurd (cc)
from_reached legs source (Some other) named reached is = let same : other ≡ named = cc in rw (← same) reached

-- a property of each leg for which a step was made
pub each_ok : {T E : Type 0} (result : Result T E) (place : Option NamedLeg) (P : NamedLeg → Type 0)
    → ((named : NamedLeg) → place ≡ Some named → OnOk result (P named)) → OnOk result ((named : NamedLeg) → place ≡ Some named
    → P named)
each_ok (Ok answer) place P each = each
each_ok (Err refusal) place P each = tt

pub each_if_ok : {T E : Type 0} (result : Result T E) (place : Option NamedLeg) (P : T → NamedLeg → Type 0)
    → ((named : NamedLeg) → place ≡ Some named → IfOk result (λ answer. P answer named))
    → IfOk result (λ answer. (named : NamedLeg) → place ≡ Some named → P answer named)
each_if_ok (Ok answer) place P each = each
each_if_ok (Err refusal) place P each = tt
