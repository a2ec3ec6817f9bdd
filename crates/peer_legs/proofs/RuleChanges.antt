-- The legs of a peer still follow its rules after one is added, changes or is taken out.
use Rattle.std.proofs.Common.{◌≡◌, ℕ, ◌+◌, ◌-◌, ◌^◌, ◌<◌, inl, inr, replicate, length, length-set, Option, Some, None, slice_get}
use Rattle.std.proofs.Common.{slice_set, refl, sym, ap, subst, ◌∙◌, arith}
use Rattle.std.proofs.lemmas.Bool.{cases_eq}
use Rattle.std.proofs.lemmas.Option.{slice_get_within}
use Rattle.call_signals.specs.declared.rules.PeerRules.{PeerRules}
use Rattle.leg_machine.specs.Leg.{LegState}
use Rattle.peer_legs.specs.Legs.{NamedLeg, PeerLegs, AreLegs, IsLegOf, AreLegsOf, leg_at}
use Rattle.peer_legs.specs.LegsInside.{IsRecorded}
use Rattle.peer_legs.proofs.LegChanges.{none_placed}
use Rattle.peer_legs.proofs.LegIndex.{placed}
use Rattle.peer_legs.proofs.PlaceLaws.{StandsAt, stands_at, leg_at_place, back, slice_get-set_same, slice_get-set_other}
use Rattle.peer_legs.proofs.SameCall.{KeepsRules}

-- another leg, or none, at a place
pub placed_legs_of : (legs value : PeerLegs) (place : ℕ) (new : Option NamedLeg) (rules : PeerRules) → legs ≡ value
    → AreLegsOf rules value
    → ((named : NamedLeg) → new ≡ Some named → IsLegOf rules named.leg) → AreLegsOf rules (placed legs place new)
placed_legs_of legs value place new rules view all here number named at =
    let stands : StandsAt (placed legs place new) number named = stands_at (placed legs place new) number named at in
    elim (cases_eq (number - legs.first) place) [
      | inl e ↦
          let there : slice_get (slice_set legs.places place new) place ≡ Some (Some named) =
          ap (slice_get (slice_set legs.places place new)) (sym e) ∙ stands.place in
          let within : place < length (slice_set legs.places place new) = slice_get_within (slice_set legs.places place new) place
          (Some named) there in
          let same : Some new ≡ Some (Some named) = sym (slice_get-set_same legs.places place new (simp length-set at within))
          ∙ there in
          here named (cc)
      | inr ne ↦
          let there : slice_get legs.places (number - legs.first) ≡ Some (Some named) =
          sym (slice_get-set_other legs.places place (number - legs.first) new ne) ∙ stands.place in
          all number named (ap (λ (v : PeerLegs). leg_at v number) (sym view) ∙ leg_at_place legs number (number - legs.first)
          (Some named) (back legs.first number stands.first) there)
    ]

-- ---- a leg changes

-- the step preserves the facts about each of a peer's legs
pub record IsLegStep (old new : LegState) : Type 0 where
  pub ruled : KeepsRules old new
  pub recorded : IsRecorded new

pub stepped_legs_of : (legs value : PeerLegs) (place : ℕ) (named : NamedLeg) (leg : LegState) (rules : PeerRules) → legs ≡ value
    → slice_get legs.places place ≡ Some (Some named) → IsLegStep named.leg leg → AreLegsOf rules value
    → AreLegsOf rules (placed legs place (Some (record { name = named.name; leg = leg })))
stepped_legs_of legs value place named leg rules view at keeps all =
    let there : leg_at value (legs.first + place) ≡ Some named =
    ap (λ (v : PeerLegs). leg_at v (legs.first + place)) (sym view) ∙ leg_at_place legs (legs.first + place) place (Some named)
    refl at in
    let was : IsLegOf rules named.leg = all (legs.first + place) named there in
    placed_legs_of legs value place (Some (record { name = named.name; leg = leg })) rules view all
    (λ other e. let is : record { name = named.name; leg = leg } ≡ other = cc in
    subst (λ (n : NamedLeg). IsLegOf rules n.leg) is (record {
      rules_are = keeps.ruled.rules ∙ was.rules_are;
      width = keeps.ruled.width ∙ was.width;
      limit = keeps.ruled.limit ∙ was.limit;
      legal = keeps.recorded.legal;
      numbered = keeps.recorded.numbered;
      held = keeps.recorded.held;
    }))

-- the number of a leg is a call number
pub number_fits : (legs : PeerLegs) (place : ℕ) (named : NamedLeg) → AreLegs legs
    → slice_get legs.places place ≡ Some (Some named)
    → (0 < named.leg.number) × (named.leg.number < 2 ^ 15)
number_fits legs place named are at =
    let is : named.leg.number ≡ legs.first + place = (are.named place named at).2 in
    let within : place < length legs.places = slice_get_within legs.places place (Some named) at in
    (omega (arith, are.some), omega (arith, are.within))

-- no leg yet
pub fresh_legs_of : (peer first count : ℕ) (rules : PeerRules)
    → AreLegsOf rules (record { peer = peer; first = first; places = replicate count None })
fresh_legs_of peer first count rules number named at =
    let stands = stands_at (record { peer = peer; first = first; places = replicate count None }) number named at in
    absurd (none_placed count (number - first) named stands.place)
