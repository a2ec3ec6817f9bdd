-- An array and the map that it represents.
use Rattle.std.proofs.Common.{◌≡◌, ◌≢◌, ℕ, zero, suc, ◌+◌, ◌<◌, ◌≤◌, List, [], ◌∷◌, length, get_or, Option, Some, None, true}
use Rattle.std.proofs.Common.{false, cond, Ordering, Less, Equal, Greater, nat_cmp, is_eq, refl, sym, ap, ◌∙◌, arith, inl, inr}
use Rattle.std.proofs.Common.{length-set}
use Rattle.std.proofs.Math.ListN.{set, replicate}
use Rattle.std.proofs.lemmas.Bool.{cases_Bool, true≢false}
use Rattle.std.proofs.lemmas.List.{get_or-set_same, get_or-set_other, get_or_default, get_or_past}
use Rattle.std.proofs.lemmas.Cmp.{nat_cmp_total}
use Rattle.std.specs.Cmp.{tied_itself}
use Rattle.std.specs.Ordering.{eq_by_cmp}
use Rattle.std.specs.FinMap.{FinMap, find, empty, get, insert, remove, from_entries, get-from_entries, get-insert, get-remove}
use Rattle.std.specs.FinMap.{same_map, nat_cmp-IsAntisymmetric}
use Rattle.call_book.specs.Table.{Table, filled, table_of}
use Rattle.call_book.specs.declared.leg_name.LegName.{LegName}

apart_by : (r : Ordering) (x y : ℕ) → r ≡ nat_cmp x y → x ≢ y → is_eq r ≡ false
apart_by Less x y e h = refl
apart_by Equal x y e h = absurd (h (nat_cmp-IsAntisymmetric x y (sym e)))
apart_by Greater x y e h = refl

pub eq_apart : (x y : ℕ) → x ≢ y → eq_by_cmp nat_cmp x y ≡ false
eq_apart x y h = apart_by (nat_cmp x y) x y refl h

pub eq_itself : (x : ℕ) → eq_by_cmp nat_cmp x x ≡ true
eq_itself x = rw (tied_itself nat_cmp_total x) refl

-- there is nothing below the first index
find_below : {A : Type 0} (xs : List (Option A)) (i q : ℕ) → q < i → find nat_cmp q (filled i xs) ≡ None
find_below [] i q h = refl
find_below (None ∷ xs) i q h = find_below xs (suc i) q (omega arith)
find_below (Some x ∷ xs) i q h = rw (eq_apart q i (omega arith)) (find_below xs (suc i) q (omega arith))

find-filled : {A : Type 0} (xs : List (Option A)) (i q k : ℕ) → q ≡ i + k → find nat_cmp q (filled i xs) ≡ get_or xs k None
find-filled [] i q k e = refl
find-filled (None ∷ xs) i q zero e = find_below xs (suc i) q (omega arith)
find-filled (None ∷ xs) i q (suc k) e = find-filled xs (suc i) q k (omega arith)
find-filled (Some x ∷ xs) i q zero e = let same : q ≡ i = omega arith in rw (same, eq_itself i) refl
find-filled (Some x ∷ xs) i q (suc k) e = rw (eq_apart q i (omega arith)) (find-filled xs (suc i) q k (omega arith))

pub get-table_of : {A : Type 0} (xs : List (Option A)) (q : ℕ) → get (table_of xs) q ≡ get_or xs q None
unfolding table_of
get-table_of xs q = get-from_entries nat_cmp_total (filled 0 xs) q ∙ find-filled xs 0 q q (omega arith)

equal_from : (r : Ordering) → is_eq r ≡ true → r ≡ Equal
equal_from Less h = cc
equal_from Equal h = refl
equal_from Greater h = cc

pub same_from_eq : (x y : ℕ) → eq_by_cmp nat_cmp x y ≡ true → x ≡ y
same_from_eq x y h = nat_cmp-IsAntisymmetric x y (equal_from (nat_cmp x y) h)

get_at : {A : Type 0} (xs : List (Option A)) (k : ℕ) (x : Option A) (q : ℕ) → k < length xs
    → get_or (set xs k x) q None ≡ cond (eq_by_cmp nat_cmp q k) x (get_or xs q None)
get_at xs k x q lt =
    elim (cases_Bool (eq_by_cmp nat_cmp q k)) [
      | inl same ↦
          let e : q ≡ k = same_from_eq q k same in
          rw same (ap (λ j. get_or (set xs k x) j None) e ∙ get_or-set_same xs k x None lt)
      | inr other ↦
          let ne : q ≢ k = λ e. true≢false (sym (eq_itself k) ∙ ap (λ j. eq_by_cmp nat_cmp j k) (sym e) ∙ other) in
          rw other (get_or-set_other xs k q x None ne)
    ]

pub table_of-set : {A : Type 0} (xs : List (Option A)) (k : ℕ) (x : A) → k < length xs
    → table_of (set xs k (Some x)) ≡ insert (table_of xs) k x
table_of-set xs k x lt = same_map nat_cmp_total nat_cmp-IsAntisymmetric _ _ (λ q.
    get-table_of (set xs k (Some x)) q ∙ get_at xs k (Some x) q lt ∙ ap (cond (eq_by_cmp nat_cmp q k) (Some x))
    (sym (get-table_of xs q)) ∙ sym (get-insert nat_cmp_total (table_of xs) k x q))

pub table_of-clear : {A : Type 0} (xs : List (Option A)) (k : ℕ) → k < length xs → table_of (set xs k None) ≡ remove (table_of xs)
    k
table_of-clear xs k lt = same_map nat_cmp_total nat_cmp-IsAntisymmetric _ _ (λ q.
    get-table_of (set xs k None) q ∙ get_at xs k None q lt ∙ ap (cond (eq_by_cmp nat_cmp q k) None) (sym (get-table_of xs q))
    ∙ sym (get-remove nat_cmp_total (table_of xs) k q))

-- the map's value, read from the array at an index
pub get_read : {A : Type 0} (xs : List (Option A)) (m : FinMap nat_cmp A) (q i : ℕ) (x : Option A) → table_of xs ≡ m → i ≡ q
    → i < length xs → x ≡ get_or xs i x → x ≡ get m q
get_read xs m q i x is at lt e = e ∙ get_or_default xs i x None lt ∙ sym (get-table_of xs i) ∙ ap (get (table_of xs)) at
    ∙ ap (λ n. get n q) is

pub get_past : {A : Type 0} (xs : List (Option A)) (m : FinMap nat_cmp A) (q i : ℕ) → table_of xs ≡ m → i ≡ q → length xs ≤ i
    → None ≡ get m q
get_past xs m q i is at le = sym (get_or_past xs i None le) ∙ sym (get-table_of xs i) ∙ ap (get (table_of xs)) at
    ∙ ap (λ n. get n q) is

-- an array and its table, after a write
pub table_put : (xs : List (Option LegName)) (t : Table) (i number : ℕ) (name : LegName)
    → record { names = table_of xs; places = length xs } ≡ t → i ≡ number → i < length xs
    → record { names = table_of (set xs i (Some name)); places = length (set xs i (Some name)) } ≡ record t
    { names = insert t.names number name }
table_put xs t i number name is at lt = rw (table_of-set xs i name lt, length-set, at, ← is) refl

pub table_clear : (xs : List (Option LegName)) (t : Table) (i number : ℕ) → record { names = table_of xs; places = length xs } ≡ t
    → i ≡ number → i < length xs
    → record { names = table_of (set xs i None); places = length (set xs i None) } ≡ record t { names = remove t.names number }
table_clear xs t i number is at lt = rw (table_of-clear xs i lt, length-set, at, ← is) refl

filled-replicate : {A : Type 0} (i n : ℕ) → filled {A = A} i (replicate n None) ≡ []
filled-replicate i zero = refl
filled-replicate i (suc n) = filled-replicate (suc i) n

-- an array of nothing
pub table_of-replicate : {A : Type 0} (n : ℕ) → table_of {A = A} (replicate n None) ≡ empty
unfolding table_of
table_of-replicate n = ap from_entries (filled-replicate 0 n)

pub only_none : {A : Type 0} (C : Option A → Type 0) → ((x : A) → C (Some x) → ⊥) → (o : Option A) → C o → o ≡ None
only_none C never None is = refl
only_none C never (Some x) is = absurd (never x is)
