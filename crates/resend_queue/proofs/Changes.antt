-- The effect of a write at one place of a queue.
use Rattle.std.proofs.Common.{◌≡◌, ℕ, zero, suc, ◌+◌, ◌<◌, List, [], ◌∷◌, ◌++◌, length, map, take, drop, Some, slice_get}
use Rattle.std.proofs.Common.{slice_set, refl, ap, ◌∙◌, arith}
use Rattle.resend_queue.specs.declared.held_frame.Held.{Held}
use Rattle.resend_queue.specs.Queue.{Queue}
use Rattle.resend_queue.specs.Timing.{changed_at}

module _ {F : Type 0} where
  changed_set : (change : Held F → Held F) (place : ℕ) (hs : List (Held F)) (one noted : Held F) → slice_get hs place ≡ Some one
      → noted ≡ change one
      → slice_set hs place noted ≡ changed_at change place hs
  changed_set change place [] one noted at is = refl
  changed_set change zero (h ∷ hs) one noted at is = let same : one ≡ h = cc in ap (λ x. x ∷ hs) (is ∙ ap change same)
  changed_set change (suc place) (h ∷ hs) one noted at is = ap (λ xs. h ∷ xs) (changed_set change place hs one noted at is)

  -- a queue whose frame at a place is replaced by the changed one
  pub noted : (change : Held F → Held F) (place : ℕ) (hs : List (Held F)) (width : ℕ) (old : Queue F) (one new : Held F)
      → (let q : Queue F = record { held = hs; width = width } in q ≡ old) → slice_get hs place ≡ Some one → new ≡ change one
      → let q : Queue F = record { held = slice_set hs place new; width = width } in
      let r : Queue F = record { held = changed_at change place old.held; width = old.width } in q ≡ r
  noted change place hs width old one new view at is =
      rw (← view) (ap (λ xs. let q : Queue F = record { held = xs; width = width } in q) (changed_set change place hs one new at
      is))

  -- one more of the frames from the front is changed
  pub changed_front : (change : Held F → Held F) (place : ℕ) (hs : List (Held F)) → place < length hs
      → changed_at change place (map change (take place hs) ++ drop place hs) ≡ map change (take (place + 1) hs)
      ++ drop (place + 1) hs
  changed_front change place [] lt = absurd (omega arith)
  changed_front change zero (h ∷ hs) lt = refl
  changed_front change (suc place) (h ∷ hs) lt =
      let e : suc place + 1 ≡ suc (place + 1) = omega arith in
      rw e (ap (λ xs. change h ∷ xs) (changed_front change place hs (omega arith)))

  pub length_front : (change : Held F → Held F) (place : ℕ) (hs : List (Held F))
      → length (map change (take place hs) ++ drop place hs) ≡ length hs
  length_front change zero [] = refl
  length_front change (suc place) [] = refl
  length_front change zero (h ∷ hs) = refl
  length_front change (suc place) (h ∷ hs) = ap suc (length_front change place hs)
