-- Rows that go into a ledger.
use Rattle.std.proofs.Common.{◌≡◌, List, [], ◌∷◌, ◌++◌, Option, Some, None, length, drop, slice_get, unwrap_or}
use Rattle.std.proofs.Common.{Result, Ok, Err, OnOk, refl, sym, ap, ◌∙◌}
use Rattle.std.proofs.lemmas.List.{append_assoc, append-nil}
use Rattle.call_records.specs.declared.call_row.CallRow.{CallRow}
use Rattle.call_files.specs.Ledgers.{LedgerState, with_noted, with_all, IsNoted}

pub all_more : (ledger : LedgerState) (rows more : List CallRow)
    → with_all ledger (rows ++ more) ≡ with_all (with_all ledger rows) more
all_more ledger [] more = refl
all_more ledger (row ∷ rows) more = all_more (with_noted ledger row) rows more

pub none_noted : (received : List CallRow) (ledger : LedgerState) → IsNoted received received [] ledger ledger
none_noted received ledger = ([], sym (append-nil received), refl)

-- one more row, out of the ring
pub one_noted : (before after next : List CallRow) (row : CallRow) (old now new : LedgerState)
    → IsNoted before after [] old now → next ≡ after ++ row ∷ [] → new ≡ with_noted now row → IsNoted before next [] old new
one_noted before after next row old now new (rows, came, noted) one is = (
  rows ++ row ∷ [],
  one ∙ ap (λ l. l ++ row ∷ []) came ∙ append_assoc before rows (row ∷ []),
  is ∙ ap (λ l. with_noted l row) (noted ∙ ap (λ l. with_all old l) (append-nil rows))
      ∙ sym (all_more old rows (row ∷ [])) ∙ ap (λ l. with_all old l) (sym (append-nil (rows ++ row ∷ []))),
)

-- rows behind those of the ring
pub noted_behind : (before after behind : List CallRow) (old now new : LedgerState)
    → IsNoted before after [] old now → new ≡ with_all now behind → IsNoted before after behind old new
noted_behind before after behind old now new (rows, came, noted) is = (
  rows,
  came,
  is ∙ ap (λ l. with_all l behind) (noted ∙ ap (λ l. with_all old l) (append-nil rows))
      ∙ sym (all_more old rows behind),
)

same_row : (one other : CallRow) → Some one ≡ Some other → one ≡ other
same_row one other is = ap (λ o. unwrap_or o one) is

-- the oldest of the rows first
pub front_noted : (ledger : LedgerState) (left : List CallRow) (row : CallRow) → Some row ≡ slice_get left 0
    → with_all ledger left ≡ with_all (with_noted ledger row) (drop 1 left)
front_noted ledger [] row is = cc
front_noted ledger (first ∷ left) row is = ap (λ r. with_all (with_noted ledger r) left) (sym (same_row row first is))

pub nobody_noted : (ledger : LedgerState) (left : List CallRow) → None ≡ slice_get left 0
    → with_all ledger left ≡ with_all ledger (drop 1 left)
nobody_noted ledger [] is = refl
nobody_noted ledger (first ∷ left) is = cc

pub all_noted : (ledger : LedgerState) (rows : List CallRow) → length rows ≡ 0 → with_all ledger rows ≡ ledger
all_noted ledger [] is = refl
all_noted ledger (first ∷ rows) is = cc

-- what is so of a value follows from what is so of it
pub on_ok_gives : {A E : Type 0} {P Q : Type 0} (r : Result A E) → (P → Q) → OnOk r P → OnOk r Q
on_ok_gives (Ok value) gives is = gives is
on_ok_gives (Err error) gives is = is
