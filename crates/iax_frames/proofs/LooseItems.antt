-- The whole items at the front of a text, whatever follows them.
use Rattle.std.proofs.Common.{◌≡◌, ℕ, zero, suc, ◌<◌, ◌≤◌, List, [], ◌∷◌, length, Option, Some, None, refl, sym, ap, ◌∙◌, subst}
use Rattle.std.proofs.Common.{arith}
use Rattle.std.proofs.lemmas.List.{nil_from_length}
use Rattle.iax_frames.specs.Items.{go_on, items_within, items_of}
use Rattle.iax_frames.proofs.OctetLaws.{IsOctets, IsOctets-back}
use Rattle.iax_frames.proofs.ItemLaws.{IsFormat, shorter}

go_same : {A : Type 0} (f g : List ℕ → List A) (found : Option (A × List ℕ)) → ((x : A) (after : List ℕ) → found ≡ Some (x, after)
    → f after ≡ g after) → go_on f found ≡ go_on g found
go_same f g None same = refl
go_same f g (Some found) same = λ i. found.0 ∷ same found.0 found.1 refl i

module _ {A : Type 0} (spelled : A → List ℕ) (Is : A → Type 0) (first : List ℕ → Option (A × List ℕ))
    (format : IsFormat spelled Is first) where
  pub after_octets : (rest after : List ℕ) (x : A) → IsOctets rest → first rest ≡ Some (x, after) → IsOctets after
  after_octets rest after x octets e = IsOctets-back (spelled x) after (subst IsOctets (format.takes rest x after octets e).1
      octets)

  -- the limit on the number of items doesn't matter if it is large enough
  within_enough : (n m : ℕ) (rest : List ℕ) → IsOctets rest → length rest ≤ n → length rest ≤ m
      → items_within first n rest ≡ items_within first m rest
  unfolding items_within
  within_enough zero zero rest octets a b = refl
  within_enough zero (suc m) rest octets a b =
      sym (ap (go_on (items_within first m)) (ap first (nil_from_length rest (omega arith)) ∙ format.none))
  within_enough (suc n) zero rest octets a b =
      ap (go_on (items_within first n)) (ap first (nil_from_length rest (omega arith)) ∙ format.none)
  within_enough (suc n) (suc m) rest octets a b =
      go_same (items_within first n) (items_within first m) (first rest)
      (λ x after e. let fewer = shorter spelled Is first format rest after x octets e in
      within_enough n m after (after_octets rest after x octets e) (omega (arith, fewer)) (omega (arith, fewer)))

  pub items_of-front : (rest after : List ℕ) (x : A) → IsOctets rest → first rest ≡ Some (x, after)
      → items_of first rest ≡ x ∷ items_of first after
  unfolding items_within
  items_of-front rest after x octets e =
      let fewer = shorter spelled Is first format rest after x octets e in
      within_enough (length rest) (suc (length rest)) rest octets (omega arith) (omega arith)
      ∙ ap (go_on (items_within first (length rest))) e
      ∙ ap (λ (l : List A). x ∷ l) (within_enough (length rest) (length after) after (after_octets rest after x octets e)
      (omega (arith, fewer)) (omega arith))

-- nothing is read if no item is in front
within_none : {A : Type 0} (first : List ℕ → Option (A × List ℕ)) (n : ℕ) (rest : List ℕ) → first rest ≡ None
    → items_within first n rest ≡ []
unfolding items_within
within_none first zero rest e = refl
within_none first (suc n) rest e = ap (go_on (items_within first n)) e

pub items_of-no_front : {A : Type 0} (first : List ℕ → Option (A × List ℕ)) (rest : List ℕ) → first rest ≡ None
    → items_of first rest ≡ []
items_of-no_front first rest e = within_none first (length rest) rest e
