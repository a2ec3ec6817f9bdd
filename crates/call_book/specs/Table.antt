-- Names by number.
use Rattle.std.specs.Prelude.{ℕ, suc, List, [], ◌∷◌, Option, Some, None, refl}
use Rattle.std.specs.Ordering.{nat_cmp}
use Rattle.std.specs.Coded.{Coded, code_by, coded×, coded_ℕ}
use Rattle.std.specs.FinMap.{FinMap, from_entries, code as map_code}
use Rattle.call_book.specs.declared.leg_name.LegName.{LegName}

abbrev pub name_code : Coded LegName
name_code = code_by (ℕ ×
    (ℕ × ℕ)) (coded× coded_ℕ (coded× coded_ℕ coded_ℕ)) (λ a. (a.peer, (a.number, a.serial))) (λ p.
    record { peer = p.0; number = p.1.0; serial = p.1.1 }) (λ _. refl)

pub record Table : Type 0 where
  pub names : FinMap nat_cmp LegName
  -- a number below this has a place
  pub places : ℕ

abbrev pub table_code : Coded Table
table_code =
    code_by (FinMap nat_cmp LegName × ℕ) (coded× (map_code coded_ℕ name_code) coded_ℕ) (λ t. (t.names, t.places))
    (λ p. record { names = p.0; places = p.1 }) (λ _. refl)

-- the values of an array with their indexes, the first of them at i
abbrev pub filled : {A : Type 0} → ℕ → List (Option A) → List (ℕ × A)
filled i [] = []
filled i (None ∷ xs) = filled (suc i) xs
filled i (Some x ∷ xs) = (i, x) ∷ filled (suc i) xs

-- an array of optional values, as the map from an index to its value
unfoldable pub table_of : {A : Type 0} → List (Option A) → FinMap nat_cmp A
table_of xs = from_entries (filled 0 xs)
