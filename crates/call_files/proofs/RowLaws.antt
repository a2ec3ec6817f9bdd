-- Rows that go from those that are kept to those that were sent.
use Rattle.std.proofs.Common.{◌≡◌, List, [], ◌∷◌, ◌++◌, Option, Some, None, slice_get, drop, refl, ap, ◌∙◌}
use Rattle.std.proofs.lemmas.List.{append_assoc}

module _ {T : Type 0} where
  -- the row that there is, or otherwise this one
  some_or : T → Option T → T
  some_or other None = other
  some_or other (Some row) = row

  some_same : (one other : T) → Some one ≡ Some other → one ≡ other
  unfolding some_or
  some_same one other is = ap (λ o. some_or one o) is

  -- the oldest goes behind what was sent
  pub front_goes_on : (sent left : List T) (row : T) → Some row ≡ slice_get left 0 → (sent ++ row ∷ []) ++ drop 1 left ≡ sent
      ++ left
  front_goes_on sent [] row is = cc
  front_goes_on sent (first ∷ left) row is = append_assoc sent (row ∷ []) left ∙ ap (λ l. sent ++ l ∷ left)
      (some_same row first is)

  -- if there is no row, none is sent
  pub nobody_goes_on : (sent left : List T) → None ≡ slice_get left 0 → sent ++ drop 1 left ≡ sent ++ left
  nobody_goes_on sent [] is = refl
  nobody_goes_on sent (first ∷ left) is = cc
