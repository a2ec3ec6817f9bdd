-- One peer among the others, and the legs that a world has of each.
use Rattle.std.specs.Prelude.{option_map}
use Rattle.std.proofs.Common.{◌≡◌, ◌≢◌, ℕ, zero, suc, ◌==◌, true, List, [], ◌∷◌, Some, None, slice_get, slice_set, refl, sym, ap}
use Rattle.std.proofs.Common.{subst, ◌∙◌, inl, inr, ◌⊎◌}
use Rattle.std.proofs.lemmas.Bool.{cases_Bool, eqb-true, eq-eqb}
use Rattle.call_control.specs.Scene.{Leg}
use Rattle.call_control.specs.Sees.{look_of, Sees, AreApart}
use Rattle.peer_lock.specs.Peer.{PeerView}
use Rattle.laws_of_calls.specs.Stored.{IsPeerAt, ArePeers, AreSeenIn}

pub set_there : {X : Type 0} (xs : List X) (place : ℕ) (x new : X) → slice_get xs place ≡ Some x
    → slice_get (slice_set xs place new) place ≡ Some new
set_there [] place x new at = absurd (cc)
set_there (first ∷ xs) zero x new at = refl
set_there (first ∷ xs) (suc place) x new at = set_there xs place x new at

pub set_apart : {X : Type 0} (xs : List X) (place other : ℕ) (new : X) → other ≢ place
    → slice_get (slice_set xs place new) other ≡ slice_get xs other
set_apart [] place other new ne = refl
set_apart (first ∷ xs) zero zero new ne = absurd (ne refl)
set_apart (first ∷ xs) zero (suc other) new ne = refl
set_apart (first ∷ xs) (suc place) zero new ne = refl
set_apart (first ∷ xs) (suc place) (suc other) new ne = set_apart xs place other new (λ e. ne (ap (λ n. suc n) e))

pub same_or_not : (a b : ℕ) → (a ≡ b) ⊎ (a ≢ b)
same_or_not a b = elim (cases_Bool (a == b)) [
  | inl e ↦ inl (eqb-true a b e)
  | inr e ↦ inr (λ same. let test : (a == b) ≡ true = eq-eqb a b same in cc)
]

-- the element at a place once one peer is replaced
pub at_set : {X : Type 0} (xs : List X) (place : ℕ) (x new : X) → slice_get xs place ≡ Some x → (other : ℕ) (y : X)
    → slice_get (slice_set xs place new) other ≡ Some y
    → ((other ≡ place) × (new ≡ y)) ⊎ ((other ≢ place) × (slice_get xs other ≡ Some y))
at_set xs place x new at other y is = elim (same_or_not other place) [
  | inl same ↦
      let there : Some new ≡ Some y = sym (set_there xs place x new at) ∙ ap (slice_get (slice_set xs place new)) (sym same)
      ∙ is in
      inl (same, cc)
  | inr ne ↦ inr (ne, sym (set_apart xs place other new ne) ∙ is)
]

-- a place that was empty stays empty
pub none_at_set : {X : Type 0} (xs : List X) (place : ℕ) (x new : X) → slice_get xs place ≡ Some x → (other : ℕ)
    → slice_get (slice_set xs place new) other ≡ None
    → (other ≢ place) × (slice_get xs other ≡ None)
none_at_set xs place x new at other is = elim (same_or_not other place) [
  | inl same ↦
      let there : Some new ≡ None = sym (set_there xs place x new at) ∙ ap (slice_get (slice_set xs place new)) (sym same) ∙ is in
      absurd (cc)
  | inr ne ↦ (ne, sym (set_apart xs place other new ne) ∙ is)
]

-- the peer of a place is another, and is its place's
pub peer_set : (peers : List PeerView) (place : ℕ) (before after : PeerView) → ArePeers peers
    → slice_get peers place ≡ Some before → IsPeerAt place after
    → ArePeers (slice_set peers place after)
peer_set peers place before after are at is other peer there = elim (at_set peers place before after at other peer there) [
  | inl here ↦ subst (λ (p : PeerView). IsPeerAt other p) here.1 (subst (λ (n : ℕ). IsPeerAt n after) (sym here.0) is)
  | inr old ↦ are other peer old.1
]

-- .. and the world has its legs as they are seen, and all others as before
pub seen_set : (all new : List Leg) (peers : List PeerView) (place : ℕ) (before after : PeerView) → ArePeers peers
    → AreSeenIn all peers
    → slice_get peers place ≡ Some before → Sees new after.legs → AreApart before.legs.peer all new
    → AreSeenIn new (slice_set peers place after)
seen_set all new peers place before after are seen at sees apart = record {
  sees = λ other peer there. elim (at_set peers place before after at other peer there) [
    | inl here ↦ subst (λ (p : PeerView). Sees new p.legs) here.1 sees
    | inr old ↦
        let another : peer.legs.peer ≢ before.legs.peer = λ e. old.0
        (sym (are other peer old.1).place_is ∙ e ∙ (are place before at).place_is) in
        λ number. ap (option_map look_of) (apart peer.legs.peer number another) ∙ seen.sees other peer old.1 number
  ];
  none = λ other number there.
      let old = none_at_set peers place before after at other there in
      apart other number (λ e. old.0 (e ∙ (are place before at).place_is)) ∙ seen.none other number old.1;
}
