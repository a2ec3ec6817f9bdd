-- An element of a list by its place, after the list grew or was cut.
use Rattle.std.proofs.Common.{◌≡◌, ℕ, zero, suc, ◌+◌, List, [], ◌∷◌, ◌++◌, length, drop, Some, slice_get, refl, ap, sym, ◌∙◌}
use Rattle.std.proofs.Common.{arith, zero-add}

pub slice_get-append : {X : Type 0} (xs ys : List X) (i : ℕ) (x : X) → slice_get xs i ≡ Some x → slice_get (xs ++ ys) i ≡ Some x
slice_get-append [] ys i x at = cc
slice_get-append (y ∷ xs) ys zero x at = at
slice_get-append (y ∷ xs) ys (suc i) x at = slice_get-append xs ys i x at

pub slice_get-push : {X : Type 0} (xs : List X) (x : X) → slice_get (xs ++ x ∷ []) (length xs) ≡ Some x
slice_get-push [] x = refl
slice_get-push (y ∷ xs) x = slice_get-push xs x

pub slice_get-drop : {X : Type 0} (n : ℕ) (xs : List X) (i : ℕ) → slice_get (drop n xs) i ≡ slice_get xs (n + i)
slice_get-drop zero xs i = ap (slice_get xs) (sym (zero-add i))
slice_get-drop (suc n) [] i = refl
slice_get-drop (suc n) (x ∷ xs) i =
    let e : suc n + i ≡ suc (n + i) = omega arith in
    slice_get-drop n xs i ∙ sym (ap (slice_get (x ∷ xs)) e)

-- the element after the beginning of a list
pub next_after : {X : Type 0} (front rest : List X) (x : X) → slice_get (front ++ rest) (length front) ≡ Some x
    → (more : List X) × (rest ≡ x ∷ more)
next_after [] [] x at = cc
next_after [] (y ∷ rest) x at = let same : y ≡ x = cc in (rest, ap (λ z. z ∷ rest) same)
next_after (y ∷ front) rest x at = next_after front rest x at
