-- The legs of a peer and the array of their remote numbers, after a change at one place.
use Rattle.std.proofs.Common.{◌≡◌, ◌≢◌, ℕ, ◌+◌, ◌<◌, ◌⊎◌, inl, inr, List, length, Option, Some, None, slice_get, slice_set}
use Rattle.std.proofs.Common.{length-set, refl, sym, ap, ◌∙◌, arith}
use Rattle.std.proofs.lemmas.Bool.{cases_eq}
use Rattle.std.proofs.lemmas.Option.{slice_get_within}
use Rattle.peer_legs.specs.Legs.{NamedLeg, PeerLegs, AreLegs}
use Rattle.peer_legs.specs.LegsInside.{HasRemote, IsIndex}
use Rattle.peer_legs.proofs.PlaceLaws.{slice_get-set_same, slice_get-set_other}

-- the remote number of the leg at a place
abbrev pub remote_of : Option NamedLeg → Option ℕ
remote_of None = None
remote_of (Some named) = named.leg.remote

cases_remote : (o : Option ℕ) (remote : ℕ) → (o ≡ Some remote) ⊎ (o ≢ Some remote)
cases_remote None remote = inr (λ e. cc)
cases_remote (Some number) remote = elim (cases_eq number remote) [ inl e ↦ inl (ap Some e) | inr ne ↦ inr (λ e. ne (cc)) ]

-- the legs with another leg, or none, at a place
abbrev pub placed : PeerLegs → ℕ → Option NamedLeg → PeerLegs
placed legs place o = record legs { places = slice_set legs.places place o }

has_remote_at : (legs : PeerLegs) (place remote : ℕ) (o : Option NamedLeg) → slice_get legs.places place ≡ Some o
    → remote_of o ≡ Some remote → HasRemote legs place remote
has_remote_at legs place remote None at is = cc
has_remote_at legs place remote (Some named) at is = record { named = named; at = at; is = is }

remote_is : (legs : PeerLegs) (place remote : ℕ) (o : Option NamedLeg) → slice_get legs.places place ≡ Some o
    → HasRemote legs place remote → remote_of o ≡ Some remote
remote_is legs place remote o at has = let same : o ≡ Some has.named = cc (at, has.at) in rw same has.is

-- no two legs of an index have one remote number
pub apart-index : (legs : PeerLegs) (index : List (Option ℕ)) → IsIndex legs index
    → (a b remote : ℕ) → HasRemote legs a remote → HasRemote legs b remote → a ≡ b
apart-index legs index is a b remote one other =
    let both : Some (Some (legs.first + a)) ≡ Some (Some (legs.first + b)) = sym (is.listed a remote one) ∙ is.listed b remote
    other in
    let numbers : legs.first + a ≡ legs.first + b = cc in
    omega arith

-- the array before and after, if the leg at a place changes
pub record IsWritten (legs : PeerLegs) (place : ℕ) (old new : Option NamedLeg) (before after : List (Option ℕ)) : Type 0 where
  pub there : (remote : ℕ) → remote_of new ≡ Some remote → slice_get after remote ≡ Some (Some (legs.first + place))
  pub gone : (remote number : ℕ) → remote_of old ≡ Some remote → remote_of new ≢ Some remote
      → slice_get after remote ≢ Some (Some number)
  pub others : (remote : ℕ) → remote_of old ≢ Some remote → remote_of new ≢ Some remote
      → slice_get after remote ≡ slice_get before remote

-- no leg at another place has the remote number of this one
abbrev pub IsFree : PeerLegs → ℕ → Option NamedLeg → Type 0
IsFree legs place new = (other remote : ℕ) → remote_of new ≡ Some remote → HasRemote legs other remote → other ≡ place

module _ (legs : PeerLegs) (place : ℕ) (old new : Option NamedLeg) (at : slice_get legs.places place ≡ Some old) where
  here : slice_get (slice_set legs.places place new) place ≡ Some new
  here = slice_get-set_same legs.places place new (slice_get_within legs.places place old at)

  -- the other places stay
  before_change : (other remote : ℕ) → other ≢ place → HasRemote (placed legs place new) other remote
      → HasRemote legs other remote
  before_change other remote ne has =
      record { named = has.named; at = sym (slice_get-set_other legs.places place other new ne) ∙ has.at; is = has.is }

  after_change : (other remote : ℕ) → other ≢ place → HasRemote legs other remote → HasRemote (placed legs place new) other remote
  after_change other remote ne has =
      record { named = has.named; at = slice_get-set_other legs.places place other new ne ∙ has.at; is = has.is }

  module _ (index index' : List (Option ℕ)) (is : IsIndex legs index) (free : IsFree legs place new)
      (written : IsWritten legs place old new index index') where
    listed_after : (other remote : ℕ) → HasRemote (placed legs place new) other remote
        → slice_get index' remote ≡ Some (Some (legs.first + other))
    listed_after other remote has = elim (cases_eq other place) [
      | inl e ↦
          let has_here : HasRemote (placed legs place new) place remote =
          record { named = has.named; at = ap (slice_get (slice_set legs.places place new)) (sym e) ∙ has.at; is = has.is } in
          written.there remote (remote_is (placed legs place new) place remote new here has_here)
          ∙ ap (λ p. Some (Some (legs.first + p))) (sym e)
      | inr ne ↦
          let had : HasRemote legs other remote = before_change other remote ne has in
          written.others remote
          (λ e. ne (apart-index legs index is other place remote had (has_remote_at legs place remote old at e)))
          (λ e. ne (free other remote e had)) ∙ is.listed other remote had
    ]

    right_after : (remote number : ℕ) → slice_get index' remote ≡ Some (Some number)
        → (other : ℕ) × (number ≡ legs.first + other) × HasRemote (placed legs place new) other remote
    right_after remote number found = elim (cases_remote (remote_of new) remote) [
      | inl e ↦
          let both : Some (Some number) ≡ Some (Some (legs.first + place)) = sym found ∙ written.there remote e in
          (place, cc, has_remote_at (placed legs place new) place remote new here e)
      | inr other ↦ elim (cases_remote (remote_of old) remote) [
        | inl e ↦ absurd (written.gone remote number e other found)
        | inr neither ↦
            let had = is.right remote number (sym (written.others remote neither other) ∙ found) in
            let ne : had.0 ≢ place = λ e. neither
            (remote_is legs place remote old at (record {
              named = had.2.named;
              at = ap (slice_get legs.places) (sym e)
                  ∙ had.2.at;
              is = had.2.is;
            })) in
            (had.0, had.1, after_change had.0 remote ne had.2)
      ]
    ]

    -- the array stays right
    pub index_after : IsIndex (placed legs place new) index'
    index_after = record { listed = listed_after; right = right_after }

-- ---- what is written to the array

-- the remote number stays
pub kept_index : (legs : PeerLegs) (place : ℕ) (old new : Option NamedLeg) (index : List (Option ℕ))
    → slice_get legs.places place ≡ Some old → IsIndex legs index
    → remote_of new ≡ remote_of old → IsWritten legs place old new index index
kept_index legs place old new index at is same = record {
  there = λ remote e. is.listed place remote (has_remote_at legs place remote old at (sym same ∙ e));
  gone = λ remote number e ne. absurd (ne (same ∙ e));
  others = λ remote _ _. refl;
}

-- the leg's remote number is entered, whether it was known before or not
pub entered_index : (legs : PeerLegs) (place : ℕ) (old new : Option NamedLeg) (index : List (Option ℕ)) (remote : ℕ)
    → remote < length index → remote_of new ≡ Some remote
    → ((other : ℕ) → remote_of old ≡ Some other → other ≡ remote)
    → IsWritten legs place old new index (slice_set index remote (Some (legs.first + place)))
entered_index legs place old new index remote within is first = record {
  there = λ other e. let same : remote ≡ other = cc in rw (← same) (slice_get-set_same index remote (Some (legs.first + place))
      within);
  gone = λ other number e ne. absurd (ne (is ∙ ap Some (sym (first other e))));
  others = λ other _ ne. slice_get-set_other index remote other (Some (legs.first + place)) (λ e. ne (is ∙ ap Some (sym e)));
}

-- the leg is gone, and its remote number with it
pub cleared_index : (legs : PeerLegs) (place : ℕ) (old : Option NamedLeg) (index : List (Option ℕ)) (remote : ℕ)
    → remote < length index → remote_of old ≡ Some remote
    → IsWritten legs place old None index (slice_set index remote None)
cleared_index legs place old index remote within is = record {
  there = λ other e. cc;
  gone = λ other number e _. let same : remote ≡ other = cc in rw (← same, slice_get-set_same index remote None within) (λ e. cc);
  others = λ other ne _. slice_get-set_other index remote other None (λ e. ne (is ∙ ap Some (sym e)));
}

-- ---- facts about the legs of every peer

-- the numbers are those of the place
pub record IsPlaced (legs : PeerLegs) (place : ℕ) (named : NamedLeg) : Type 0 where
  pub peer : named.name.peer ≡ legs.peer
  pub name : named.name.number ≡ legs.first + place
  pub leg : named.leg.number ≡ legs.first + place

pub legs_after : (legs : PeerLegs) (place : ℕ) (old new : Option NamedLeg) (index : List (Option ℕ))
    → slice_get legs.places place ≡ Some old → AreLegs legs
    → ((named : NamedLeg) → new ≡ Some named → IsPlaced legs place named) → IsIndex (placed legs place new) index
    → AreLegs (placed legs place new)
legs_after legs place old new index at are numbered is = record {
  named = λ other named there. elim (cases_eq other place) [
    | inl e ↦
        let same : new ≡ Some named = cc (here legs place old new at, there) in
        let numbers = numbered named same in
        rw e (numbers.peer, numbers.name, numbers.leg)
    | inr ne ↦ are.named other named (sym (slice_get-set_other legs.places place other new ne) ∙ there)
  ];
  apart = λ a b one other remote at_a at_b is_a is_b.
      apart-index (placed legs place new) index is a b remote (record { named = one; at = at_a; is = is_a })
      (record { named = other; at = at_b; is = is_b });
  some = are.some;
  within = rw length-set are.within;
}
