-- The legs of a peer stay sound when one is added, changed or removed.
use Rattle.std.proofs.Common.{◌≡◌, ◌≢◌, ℕ, ◌+◌, ◌-◌, ◌<◌, ◌≤◌, ◌^◌, ◌∙◌, ◌⊎◌, zero, suc, replicate, nat_le, true, get_or}
use Rattle.std.proofs.Common.{List, length, Option, Some, None, is_none, unwrap_or, inl, inr, slice_get, length-set, refl, sym}
use Rattle.std.proofs.Common.{ap, subst, arith}
use Rattle.std.specs.Option.{ForSome}
use Rattle.std.proofs.lemmas.Bool.{le-leb}
use Rattle.std.proofs.lemmas.List.{length-replicate}
use Rattle.std.proofs.lemmas.Option.{slice_get-get_or}
use Rattle.call_book.specs.declared.leg_name.LegName.{LegName}
use Rattle.leg_machine.specs.Leg.{LegState}
use Rattle.peer_legs.specs.Legs.{NamedLeg, PeerLegs, AreLegs, filled, leg_at, leg_of_remote, is_from, with_leg}
use Rattle.peer_legs.specs.LegsInside.{HasRemote, IsIndex}
use Rattle.peer_legs.specs.RemoteNumbers.{AreNone, noted}
use Rattle.peer_legs.proofs.LegIndex.{apart-index, remote_of, placed, IsFree, IsPlaced, IsWritten, kept_index, entered_index}
use Rattle.peer_legs.proofs.LegIndex.{cleared_index, index_after, legs_after}
use Rattle.peer_legs.proofs.LegSearch.{none_first}
use Rattle.peer_legs.proofs.PlaceLaws.{slice_set_same}
use Rattle.peer_legs.proofs.SameCall.{IsSameCall, MayLearn}

-- the invariant of the legs and of the array of their remote numbers
pub record AreIndexed (legs : PeerLegs) (index : List (Option ℕ)) : Type 0 where
  pub legs_are : AreLegs legs
  pub index_is : IsIndex legs index
  pub most : length legs.places ≤ 512

changed : (legs : PeerLegs) (place : ℕ) (old new : Option NamedLeg) (index index' : List (Option ℕ))
    → slice_get legs.places place ≡ Some old → AreIndexed legs index
    → ((named : NamedLeg) → new ≡ Some named → IsPlaced legs place named) → IsFree legs place new
    → IsWritten legs place old new index index' → AreIndexed (placed legs place new) index'
changed legs place old new index index' at are numbered free written =
    let is = index_after legs place old new at index index' are.index_is free written in
    record {
      legs_are = legs_after legs place old new index' at are.legs_are numbered is;
      index_is = is;
      most = rw length-set are.most;
    }

-- ---- no leg yet

pub none_placed : (count place : ℕ) (named : NamedLeg) → slice_get (replicate count None) place ≢ Some (Some named)
none_placed zero place named = λ e. cc
none_placed (suc count) zero named = λ e. cc
none_placed (suc count) (suc place) named = none_placed count place named

pub fresh : (peer first count : ℕ) (index : List (Option ℕ)) → 1 ≤ first → first + count ≤ 2 ^ 15 → count ≤ 512 → AreNone index
    → AreIndexed (record { peer = peer; first = first; places = replicate count None }) index
fresh peer first count index some within most none = record {
  legs_are = record {
    named = λ place named at. absurd (none_placed count place named at);
    apart = λ a b one other remote at_a at_b is_a is_b. absurd (none_placed count a one at_a);
    some = some;
    within = rw (length-replicate {A = Option NamedLeg} count None) within;
  };
  index_is = record {
    listed = λ place remote has. absurd (none_placed count place has.named has.at);
    right = λ remote number at. absurd (none remote number at);
  };
  most = rw (length-replicate {A = Option NamedLeg} count None) most;
}

-- ---- the noted remote number

-- if an old leg's remote number is kept, the note is right
noted_index : (legs : PeerLegs) (place : ℕ) (old new : Option NamedLeg) (index : List (Option ℕ)) (remote : Option ℕ)
    → slice_get legs.places place ≡ Some old → IsIndex legs index
    → remote_of new ≡ remote → ((other : ℕ) → remote_of old ≡ Some other → remote ≡ Some other)
    → ForSome remote (λ r. r < length index)
    → IsWritten legs place old new index (noted index remote (Some (legs.first + place)))
noted_index legs place old new index None at is e kept within = kept_index legs place old new index at is
    (e ∙ sym (unknown (remote_of old) kept))
  where
    unknown : (o : Option ℕ) → ((other : ℕ) → o ≡ Some other → None ≡ Some other) → o ≡ None
    unknown None h = refl
    unknown (Some other) h = sym (h other refl)
noted_index legs place old new index (Some remote) at is e kept within =
    entered_index legs place old new index remote (within remote refl) e (λ other was. let same : Some remote ≡ Some other = kept
    other was in cc)

-- ---- a leg is added

empty_place : (o : Option NamedLeg) (places : List (Option NamedLeg)) (place : ℕ) → slice_get places place ≡ Some o
    → filled (slice_get places place) ≡ None → slice_get places place ≡ Some None
empty_place o places place is empty = is ∙ ap Some (sym (ap filled is) ∙ empty)

empty_at : (legs : PeerLegs) (number place : ℕ) → place ≡ number - legs.first → legs.first ≤ number
    → number < legs.first + length legs.places → leg_at legs number ≡ None
    → slice_get legs.places place ≡ Some None
empty_at legs number place is first within empty =
    let from : nat_le legs.first number ≡ true = le-leb legs.first number first in
    empty_place (get_or legs.places place None) legs.places place (slice_get-get_or legs.places place None (omega arith))
    (rw is (rw from at empty))

-- the requirements of a leg that is added under a name
pub record IsNew (legs : PeerLegs) (name : LegName) (leg : LegState) : Type 0 where
  pub peer : name.peer ≡ legs.peer
  pub first : legs.first ≤ name.number
  pub within : name.number < legs.first + length legs.places
  pub number : leg.number ≡ name.number
  pub empty : leg_at legs name.number ≡ None
  pub remote : ForSome leg.remote (λ remote. leg_of_remote legs remote ≡ None)

pub inserted : (legs value : PeerLegs) (place : ℕ) (name : LegName) (leg : LegState) (index index' : List (Option ℕ))
    (remote : Option ℕ) (number : ℕ)
    → legs ≡ value → AreIndexed legs index → IsNew value name leg → place ≡ number - legs.first → number ≡ name.number
    → remote ≡ leg.remote
    → index' ≡ noted index remote (Some number) → ForSome remote (λ r. r < length index)
    → AreIndexed (placed legs place (Some (record { name = name; leg = leg }))) index'
inserted legs value place name leg index index' remote number view are is_new at_place is_number is_remote written within =
    let new : IsNew legs name leg = subst (λ v. IsNew v name leg) (sym view) is_new in
    let named : NamedLeg = record { name = name; leg = leg } in
    let there : number ≡ legs.first + place = omega (arith, new.first) in
    let at = empty_at legs name.number place (omega arith) new.first new.within new.empty in
    changed legs place None (Some named) index index' at are
    (λ other e. let same : named ≡ other = cc in rw (← same)
    (record { peer = new.peer; name = omega arith; leg = omega (arith, new.number) }))
    (λ other r e has. absurd (none_first legs.places other r has.named (new.remote r e) has.at has.is))
    (subst (IsWritten legs place None (Some named) index) (sym (written ∙ ap (λ n. noted index remote (Some n)) there))
    (noted_index legs place None (Some named) index remote at are.index_is (sym is_remote) (λ other never. cc) within))

-- ---- a leg is removed

noted_none : (legs : PeerLegs) (place : ℕ) (old : Option NamedLeg) (index : List (Option ℕ)) (remote : Option ℕ)
    → slice_get legs.places place ≡ Some old → IsIndex legs index
    → remote_of old ≡ remote → ForSome remote (λ r. r < length index)
    → IsWritten legs place old None index (noted index remote None)
noted_none legs place old index None at is e within = kept_index legs place old None index at is (sym e)
noted_none legs place old index (Some remote) at is e within = cleared_index legs place old index remote (within remote refl) e

pub removed : (legs : PeerLegs) (place : ℕ) (named : NamedLeg) (index index' : List (Option ℕ)) (remote : Option ℕ)
    → slice_get legs.places place ≡ Some (Some named) → AreIndexed legs index
    → remote ≡ named.leg.remote → index' ≡ noted index remote None → ForSome remote (λ r. r < length index)
    → AreIndexed (placed legs place None) index'
removed legs place named index index' remote at are is_remote written within =
    changed legs place (Some named) None index index' at are (λ other never. cc) (λ other r never has. cc)
    (subst (IsWritten legs place (Some named) None index) (sym written) (noted_none legs place (Some named) index remote at
    are.index_is (sym is_remote) within))

-- ---- a leg changes

pub placed_is_with_leg : (legs value : PeerLegs) (place : ℕ) (named : NamedLeg) (leg leg' : LegState) → legs ≡ value
    → AreLegs legs → slice_get legs.places place ≡ Some (Some named)
    → leg ≡ leg' → placed legs place (Some (record { name = named.name; leg = leg })) ≡ with_leg value named.name leg'
placed_is_with_leg legs value place named leg leg' view are at is =
    let there : place ≡ named.name.number - legs.first = omega (arith, (are.named place named at).1) in
    ap (λ p. placed legs p (Some (record { name = named.name; leg = leg }))) there
    ∙ ap (λ (l : LegState). with_leg legs named.name l) is ∙ ap (λ (v : PeerLegs). with_leg v named.name leg') view

still_placed : (legs : PeerLegs) (place : ℕ) (named : NamedLeg) (leg : LegState) → AreLegs legs
    → slice_get legs.places place ≡ Some (Some named) → leg.number ≡ named.leg.number
    → (other : NamedLeg) → ◌≡◌ {A = Option NamedLeg} (Some (record { name = named.name; leg = leg })) (Some other)
    → IsPlaced legs place other
still_placed legs place named leg are at same other e =
    let numbers = are.named place named at in
    let is : record { name = named.name; leg = leg } ≡ other = cc in
    rw (← is) (record { peer = numbers.0; name = numbers.1; leg = same ∙ numbers.2 })

-- both of its numbers stay
pub stepped : (legs : PeerLegs) (place : ℕ) (named : NamedLeg) (leg : LegState) (index : List (Option ℕ)) → AreIndexed legs index
    → slice_get legs.places place ≡ Some (Some named)
    → IsSameCall named.leg leg → AreIndexed (placed legs place (Some (record { name = named.name; leg = leg }))) index
stepped legs place named leg index are at same =
    changed legs place (Some named) (Some (record { name = named.name; leg = leg })) index index at are
    (still_placed legs place named leg are.legs_are at same.number)
    (λ other r e has. apart-index legs index are.index_is other place r has
    (record { named = named; at = at; is = sym same.remote ∙ e }))
    (kept_index legs place (Some named) (Some (record { name = named.name; leg = leg })) index at are.index_is same.remote)

none_from_test : (o : Option NamedLeg) → is_none o ≡ true → o ≡ None
none_from_test None test = refl
none_from_test (Some named) test = cc

kept_remote : (old new : Option ℕ) (source : ℕ) → (new ≡ old) ⊎ (new ≡ Some (unwrap_or old source)) → (other : ℕ)
    → old ≡ Some other → new ≡ Some other
kept_remote None new source h other was = cc
kept_remote (Some number) new source (inl e) other was = e ∙ was
kept_remote (Some number) new source (inr e) other was = e ∙ was

-- a frame's source that a leg may learn is no other leg's remote number
learns_free : (legs : PeerLegs) (place : ℕ) (named : NamedLeg) (index : List (Option ℕ)) (old new : Option ℕ) (source : ℕ)
    → IsIndex legs index → slice_get legs.places place ≡ Some (Some named)
    → named.leg.remote ≡ old → (new ≡ old) ⊎ (new ≡ Some (unwrap_or old source)) → is_from legs old source ≡ true
    → (other remote : ℕ) → new ≡ Some remote → HasRemote legs other remote → other ≡ place
learns_free legs place named index None new source is at was (inl e) from other remote now has = cc
learns_free legs place named index None new source is at was (inr e) from other remote now has =
    let learnt : source ≡ remote = cc in
    let none : leg_of_remote legs remote ≡ None = rw (← learnt) (none_from_test (leg_of_remote legs source) from) in
    absurd (none_first legs.places other remote has.named none has.at has.is)
learns_free legs place named index (Some number) new source is at was (inl e) from other remote now has =
    apart-index legs index is other place remote has (record { named = named; at = at; is = was ∙ sym e ∙ now })
learns_free legs place named index (Some number) new source is at was (inr e) from other remote now has =
    apart-index legs index is other place remote has (record { named = named; at = at; is = was ∙ sym e ∙ now })

-- the other side's number may be learnt
pub learned : (legs : PeerLegs) (place : ℕ) (named : NamedLeg) (leg : LegState) (index index' : List (Option ℕ))
    (source number : ℕ) (remote : Option ℕ)
    → AreIndexed legs index → slice_get legs.places place ≡ Some (Some named) → MayLearn source named.leg leg
    → is_from legs named.leg.remote source ≡ true
    → number ≡ legs.first + place → remote ≡ leg.remote → index' ≡ noted index remote (Some number)
    → ForSome remote (λ r. r < length index)
    → AreIndexed (placed legs place (Some (record { name = named.name; leg = leg }))) index'
learned legs place named leg index index' source number remote are at may from there is_remote written within =
    let new : Option NamedLeg = Some (record { name = named.name; leg = leg }) in
    changed legs place (Some named) new index index' at are (still_placed legs place named leg are.legs_are at may.number)
    (learns_free legs place named index named.leg.remote leg.remote source are.index_is at refl may.remote from)
    (subst (IsWritten legs place (Some named) new index) (sym (written ∙ ap (λ n. noted index remote (Some n)) there))
    (noted_index legs place (Some named) new index remote at are.index_is (sym is_remote)
    (λ other was. is_remote ∙ kept_remote named.leg.remote leg.remote source may.remote other was) within))

-- a refused step leaves the legs
pub still_there : (legs value : PeerLegs) (place : ℕ) (named : NamedLeg) (leg : LegState)
    → legs ≡ value → slice_get legs.places place ≡ Some (Some named) → leg ≡ named.leg
    → placed legs place (Some (record { name = named.name; leg = leg })) ≡ value
still_there legs value place named leg view at is =
    ap (λ (l : LegState). placed legs place (Some (record { name = named.name; leg = l }))) is
    ∙ ap (λ (places : List (Option NamedLeg)). record legs { places = places }) (slice_set_same legs.places place (Some named) at)
    ∙ view
