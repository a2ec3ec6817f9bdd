-- The leg that has a number.
use Rattle.std.proofs.Common.{◌≡◌, ◌≢◌, ℕ, zero, suc, ◌+◌, ◌-◌, ◌≤◌, inl, inr, true, List, [], ◌∷◌, Option, Some, None, IfSome}
use Rattle.std.proofs.Common.{IsNone, slice_get, length, get_or, ◌<◌, refl, sym, ap, ◌∙◌, arith}
use Rattle.std.proofs.lemmas.Bool.{cases_Bool, eqb-true, eq-eqb}
use Rattle.std.proofs.lemmas.Option.{slice_get_read}
use Rattle.std.proofs.lemmas.List.{get_or_past}
use Rattle.peer_legs.specs.Legs.{NamedLeg, PeerLegs, filled, leg_at, is_remote, has_remote, first_remote, leg_of_remote}
use Rattle.peer_legs.specs.LegsInside.{HasRemote, IsIndex}
use Rattle.peer_legs.proofs.LegIndex.{apart-index}
use Rattle.peer_legs.proofs.PlaceLaws.{stands_at, leg_at_place}

-- ---- remote numbers

is_remote_from : (o : Option ℕ) (remote : ℕ) → o ≡ Some remote → is_remote o remote ≡ true
is_remote_from None remote is = cc
is_remote_from (Some number) remote is = eq-eqb number remote (cc)

has_from : (o : Option NamedLeg) (named : NamedLeg) (remote : ℕ) → o ≡ Some named → named.leg.remote ≡ Some remote
    → has_remote o remote ≡ true
has_from None named remote at is = cc
has_from (Some other) named remote at is = let same : other ≡ named = cc in is_remote_from other.leg.remote remote (rw same is)

remote_from_test : (o : Option ℕ) (remote : ℕ) → is_remote o remote ≡ true → o ≡ Some remote
remote_from_test None remote test = cc
remote_from_test (Some number) remote test = ap Some (eqb-true number remote test)

-- the leg among these that has a remote number which no other has
first_found : (places : List (Option NamedLeg)) (place remote : ℕ) (named : NamedLeg) → slice_get places place ≡ Some (Some named)
    → named.leg.remote ≡ Some remote
    → ((other : ℕ) (leg : NamedLeg) → slice_get places other ≡ Some (Some leg) → leg.leg.remote ≡ Some remote → other ≡ place)
    → first_remote places remote ≡ Some named
first_found [] place remote named at is only = cc
first_found (o ∷ places) zero remote named at is only =
    let here : o ≡ Some named = cc in rw (has_from o named remote here is) here
first_found (None ∷ places) (suc place) remote named at is only =
    first_found places place remote named at is (λ other leg at_other is_other. let e : suc other ≡ suc place = only (suc other)
    leg at_other is_other in omega arith)
first_found (Some first ∷ places) (suc place) remote named at is only =
    elim (cases_Bool (is_remote first.leg.remote remote)) [
      | inl e ↦ let never : zero ≡ suc place = only zero first refl (remote_from_test first.leg.remote remote e) in
          absurd (omega arith)
      | inr e ↦ rw e (first_found places place remote named at is (λ other leg at_other is_other. let same : suc other
          ≡ suc place = only (suc other) leg at_other is_other in omega arith))
    ]

-- none of these has the remote number
first_none : (places : List (Option NamedLeg)) (remote : ℕ)
    → ((place : ℕ) (named : NamedLeg) → slice_get places place ≡ Some (Some named) → named.leg.remote ≢ Some remote)
    → first_remote places remote ≡ None
first_none [] remote none = refl
first_none (None ∷ places) remote none = first_none places remote (λ place. none (suc place))
first_none (Some first ∷ places) remote none =
    elim (cases_Bool (is_remote first.leg.remote remote)) [
      | inl e ↦ absurd (none zero first refl (remote_from_test first.leg.remote remote e))
      | inr e ↦ rw e (first_none places remote (λ place. none (suc place)))
    ]

-- if none is found, none of these has the remote number
pub none_first : (places : List (Option NamedLeg)) (place remote : ℕ) (named : NamedLeg) → first_remote places remote ≡ None
    → slice_get places place ≡ Some (Some named) → named.leg.remote ≢ Some remote
none_first [] place remote named none at = cc
none_first (o ∷ places) zero remote named none at = λ is.
    let here : o ≡ Some named = cc in
    let found : first_remote (o ∷ places) remote ≡ Some named = rw (has_from o named remote here is) here in
    cc
none_first (None ∷ places) (suc place) remote named none at = none_first places place remote named none at
none_first (Some first ∷ places) (suc place) remote named none at =
    elim (cases_Bool (is_remote first.leg.remote remote)) [
      | inl e ↦ let found : Some first ≡ None = rw e at none in cc
      | inr e ↦ none_first places place remote named (rw e at none) at
    ]

-- ---- the content of the array of remote numbers

module _ (legs : PeerLegs) (index : List (Option ℕ)) (is : IsIndex legs index) (remote : ℕ) where
  remote_found : (place : ℕ) (has : HasRemote legs place remote) → leg_of_remote legs remote ≡ Some has.named
  remote_found place has = first_found legs.places place remote has.named has.at has.is
      (λ other leg at_other is_other. apart-index legs index is other place remote
      (record { named = leg; at = at_other; is = is_other }) has)

  found_in_index : (number : ℕ) → slice_get index remote ≡ Some (Some number) → leg_at legs number ≡ leg_of_remote legs remote
  found_in_index number found =
      let listed = is.right remote number found in
      leg_at_place legs number listed.0 (Some listed.2.named) listed.1 listed.2.at ∙ sym (remote_found listed.0 listed.2)

  none_in_index : slice_get index remote ≡ Some None → leg_of_remote legs remote ≡ None
  none_in_index none = first_none legs.places remote (λ place named at is_remote.
      let listed : slice_get index remote ≡ Some (Some (legs.first + place)) =
      is.listed place remote (record { named = named; at = at; is = is_remote }) in
      cc)

  -- the answer of the array
  pub found_or_none : (result : Option ℕ) → slice_get index remote ≡ Some result
      → IfSome result (λ number. leg_at legs number ≡ leg_of_remote legs remote)
  found_or_none None at = tt
  found_or_none (Some number) at = found_in_index number at

  pub none_or_found : (result : Option ℕ) → slice_get index remote ≡ Some result
      → (IsNone result → leg_of_remote legs remote ≡ None) × (leg_of_remote legs remote ≡ None → IsNone result)
  none_or_found None at = (λ _. none_in_index at, λ _. refl)
  none_or_found (Some number) at =
      let listed = is.right remote number at in
      (λ none. cc, λ none. let never : None ≡ Some listed.2.named = sym none ∙ remote_found listed.0 listed.2 in cc)

-- ---- the result of reading a place

pub leg_read : (legs value : PeerLegs) (place : ℕ) (o : Option NamedLeg) (named : NamedLeg) → legs ≡ value
    → place < length value.places → o ≡ get_or legs.places place o → o ≡ Some named
    → slice_get legs.places place ≡ Some (Some named)
leg_read legs value place o named view within read is =
    slice_get_read legs.places (length value.places) place o (ap (λ v. length v.places) (sym view)) within read ∙ ap Some is

-- the leg of a number, as it was found at a place
pub record IsFound (legs value : PeerLegs) (place number : ℕ) (named : NamedLeg) : Type 0 where
  pub at : slice_get legs.places place ≡ Some (Some named)
  pub number_is : number ≡ legs.first + place
  pub leg_is : leg_at value number ≡ Some named
  pub only : (other : NamedLeg) → leg_at value number ≡ Some other → other ≡ named

pub found : {legs value : PeerLegs} {place : ℕ} (number : ℕ) {o : Option NamedLeg} {there named : NamedLeg} → legs ≡ value
    → place ≡ number - value.first → place < length value.places
    → filled (slice_get value.places place) ≡ leg_at value number → o ≡ get_or legs.places place o → o ≡ Some there
    → named ≡ there → IsFound legs value place number named
found {legs} {value} {place} number {o} {there} {named} view is_place within is_leg read is same =
    let at : slice_get legs.places place ≡ Some (Some named) = leg_read legs value place o named view within read
    (is ∙ ap Some (sym same)) in
    let at_value : slice_get value.places place ≡ Some (Some named) = ap (λ v. slice_get v.places place) (sym view) ∙ at in
    let leg : leg_at value number ≡ Some named = sym is_leg ∙ ap filled at_value in
    let first : legs.first ≡ value.first = ap (λ v. v.first) view in
    record {
      at = at;
      number_is = omega (arith, (stands_at value number named leg).first);
      leg_is = leg;
      only = λ other e. let both : Some other ≡ Some named = sym e ∙ leg in cc;
    }

-- the leg of a place
pub record IsFoundAt (legs value : PeerLegs) (place : ℕ) (named : NamedLeg) : Type 0 where
  pub at : slice_get legs.places place ≡ Some (Some named)
  pub leg_is : filled (slice_get value.places place) ≡ Some named
  pub only : (other : NamedLeg) → filled (slice_get value.places place) ≡ Some other → other ≡ named

pub found_at : (legs value : PeerLegs) (place : ℕ) (o : Option NamedLeg) (there named : NamedLeg) → legs ≡ value
    → place < length legs.places → o ≡ get_or legs.places place o → o ≡ Some there
    → named ≡ there → IsFoundAt legs value place named
found_at legs value place o there named view within read is same =
    let at : slice_get legs.places place ≡ Some (Some named) = leg_read legs legs place o named refl within read
    (is ∙ ap Some (sym same)) in
    let leg : filled (slice_get value.places place) ≡ Some named = ap (λ v. filled (slice_get v.places place)) (sym view)
    ∙ ap filled at in
    record { at = at; leg_is = leg; only = λ other e. let both : Some other ≡ Some named = sym e ∙ leg in cc }

filled-get_or : (places : List (Option NamedLeg)) (place : ℕ) → filled (slice_get places place) ≡ get_or places place None
filled-get_or [] place = refl
filled-get_or (o ∷ places) zero = refl
filled-get_or (o ∷ places) (suc place) = filled-get_or places place

none_from_get_or : (places : List (Option NamedLeg)) (place : ℕ) → get_or places place None ≡ None → (named : NamedLeg)
    → filled (slice_get places place) ≡ Some named → ⊥
none_from_get_or places place none named e = let both : None ≡ Some named = sym none ∙ sym (filled-get_or places place) ∙ e in cc

-- there is no leg at a place past the end
pub none_past : (legs value : PeerLegs) (place : ℕ) → legs ≡ value → length legs.places ≤ place → (named : NamedLeg)
    → filled (slice_get value.places place) ≡ Some named → ⊥
none_past legs value place view past =
    none_from_get_or value.places place (ap (λ v. get_or v.places place None) (sym view) ∙ get_or_past legs.places place None
    past)

-- there is no leg at a place that was read as empty
pub none_read : (legs value : PeerLegs) (place : ℕ) (o : Option NamedLeg) → legs ≡ value → o ≡ get_or legs.places place o
    → o ≡ None
    → (named : NamedLeg) → filled (slice_get value.places place) ≡ Some named → ⊥
none_read legs value place o view read is =
    none_from_get_or value.places place
    (ap (λ v. get_or v.places place None) (sym view) ∙ ap (get_or legs.places place) (sym is) ∙ sym read ∙ is)
