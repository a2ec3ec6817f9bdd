-- The peer at an endpoint.
use Rattle.std.proofs.Common.{◌≡◌, ◌≢◌, ℕ, zero, suc, ◌+◌, ◌<◌, ◌≤◌, Bool, true, false, cond, List, [], ◌∷◌, length, get_or, map}
use Rattle.std.proofs.Common.{Some, None, refl, sym, ap, ◌∙◌, arith, nat_lt, not}
use Rattle.std.specs.List.{prefix_len}
use Rattle.std.specs.Prelude.{All, option_map, slice_get, position}
use Rattle.std.proofs.lemmas.Bool.{true≢false}
use Rattle.std.proofs.lemmas.Bool.Decides.{nat_tests}
use Rattle.std.proofs.lemmas.List.{length-map}
use Rattle.std.proofs.lemmas.List.Quantifiers.{position-Some}
use Rattle.peer_plan.specs.declared.endpoint.Endpoint.{Endpoint}
use Rattle.peer_plan.specs.Reading.{is_endpoint}
use Rattle.peer_plan.proofs.EndpointLaws.{same_endpoint, other_endpoint}

get_or-map_same : {A B : Type 0} (f : A → B) (xs : List A) (i : ℕ) (d : A) → get_or (map f xs) i (f d) ≡ f (get_or xs i d)
get_or-map_same f [] i d = refl
get_or-map_same f (x ∷ xs) zero d = refl
get_or-map_same f (x ∷ xs) (suc i) d = get_or-map_same f xs i d

map_at : {A B : Type 0} (f : A → B) (xs : List A) (i : ℕ) (d : B) → i < length xs
    → option_map f (slice_get xs i) ≡ Some (get_or (map f xs) i d)
map_at f [] i d lt = absurd (omega arith)
map_at f (x ∷ xs) zero d lt = refl
map_at f (x ∷ xs) (suc i) d lt = map_at f xs i d (omega arith)

-- the peer at the place that was found
pub found_at : {A : Type 0} (f : A → Endpoint) (endpoint : Endpoint) (xs : List A) (endpoints : List Endpoint) (place : ℕ)
    → endpoints ≡ map f xs → position (λ other. is_endpoint other endpoint) endpoints ≡ Some place
    → option_map f (slice_get xs place) ≡ Some endpoint
found_at f endpoint xs endpoints place is h =
    let test : Endpoint → Bool = λ other. is_endpoint other endpoint in
    let there = position-Some test (map f xs) place endpoint (ap (position test) (sym is) ∙ h) in
    let within : place < length xs = omega (arith, simp length-map at there.0) in
    map_at f xs place endpoint within ∙ ap Some (same_endpoint (get_or (map f xs) place endpoint) endpoint there.1)

all_pass : {A : Type 0} (q : A → Bool) (xs : List A) (i : ℕ) (d : A) → length xs ≤ prefix_len q xs → i < length xs
    → q (get_or xs i d) ≡ true
all_pass q [] i d le lt = absurd (omega arith)
all_pass q (x ∷ xs) i d le lt = go i (q x) refl le lt (λ j. all_pass q xs j d)
  where
    go : (i : ℕ) (b : Bool) → q x ≡ b → suc (length xs) ≤ cond b (1 + prefix_len q xs) 0 → i < suc (length xs)
        → ((j : ℕ) → length xs ≤ prefix_len q xs → j < length xs → q (get_or xs j d) ≡ true) → q (get_or (x ∷ xs) i d) ≡ true
    go zero true is le lt rest = is
    go (suc j) true is le lt rest = rest j (omega arith) (omega arith)
    go i false is le lt rest = absurd (omega arith)

not_passed : (b : Bool) → not b ≡ true → b ≡ false
not_passed true h = absurd (true≢false (sym h))
not_passed false h = refl

none_passes : {A : Type 0} (p : A → Bool) (xs : List A) (i : ℕ) (d : A) → position p xs ≡ None → i < length xs
    → p (get_or xs i d) ≡ false
none_passes p xs i d h lt =
    not_passed (p (get_or xs i d)) (all_pass (λ x. not (p x)) xs i d (go (nat_lt (prefix_len (λ x. not (p x)) xs) (length xs))
    refl h) lt)
  where
    go : (b : Bool) → nat_lt (prefix_len (λ x. not (p x)) xs) (length xs) ≡ b → cond b (Some (prefix_len (λ x. not (p x)) xs))
        None ≡ None → length xs ≤ prefix_len (λ x. not (p x)) xs
    go true less is = absurd (cc)
    go false less is = grind (arith, nat_tests)

-- no peer is there
pub none_at : {A : Type 0} (f : A → Endpoint) (endpoint : Endpoint) (xs : List A) (endpoints : List Endpoint)
    → endpoints ≡ map f xs → position (λ other. is_endpoint other endpoint) endpoints ≡ None → All (λ x. f x ≢ endpoint) xs
none_at f endpoint xs endpoints is h k d lt =
    let test : Endpoint → Bool = λ other. is_endpoint other endpoint in
    let within : k < length (map f xs) = rw length-map lt in
    let fails = none_passes test (map f xs) k (f d) (ap (position test) (sym is) ∙ h) within in
    other_endpoint (f (get_or xs k d)) endpoint (ap test (sym (get_or-map_same f xs k d)) ∙ fails)
