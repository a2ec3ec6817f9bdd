-- The text of rows.
use Rattle.std.proofs.Common.{◌≡◌, ℕ, List, [], ◌∷◌, ◌++◌, false, true, refl, sym, ap, ◌∙◌, append_assoc, append-nil, rules}
use Rattle.std.proofs.lemmas.Bool.Decides.{nat_tests}
use Rattle.serde_json.specs.Data.{Members, object}
use Rattle.serde_json.specs.Written.{compact_text, items_text, members_text}
use Rattle.control_requests.specs.Rows.{followed, after_first, rows_text, row_items}

after-more : (rows : List Members) (row : Members) → after_first rows ++ 44 ∷ compact_text (object row)
    ≡ after_first (rows ++ row ∷ [])
after-more [] row = ap (λ (text : List ℕ). 44 ∷ text) (sym (append-nil (compact_text (object row))))
after-more (first ∷ rows) row =
    ap (λ (text : List ℕ). 44 ∷ text) (append_assoc (compact_text (object first)) (after_first rows)
    (44 ∷ compact_text (object row))
    ∙ ap (λ (text : List ℕ). compact_text (object first) ++ text) (after-more rows row))

-- after other rows, the next row follows a comma
behind : (octet : ℕ) (rows row : List ℕ) → followed (octet ∷ rows) row ≡ (octet ∷ rows) ++ 44 ∷ row
behind octet rows row = search (rules, nat_tests)

-- one more row
pub one_more : (rows : List Members) (row : Members) → followed (rows_text rows) (compact_text (object row))
    ≡ rows_text (rows ++ row ∷ [])
one_more [] row = sym (append-nil (compact_text (object row)))
one_more (first ∷ rows) row =
    behind 123 (members_text false first ++ after_first rows) (compact_text (object row))
    ∙ append_assoc (compact_text (object first)) (after_first rows) (44 ∷ compact_text (object row))
    ∙ ap (λ (text : List ℕ). compact_text (object first) ++ text) (after-more rows row)

later_items : (rows : List Members) → items_text true (row_items rows) ≡ after_first rows ++ 93 ∷ []
later_items [] = refl
later_items (row ∷ rows) =
    ap (λ (text : List ℕ). 44 ∷ (compact_text (object row) ++ text)) (later_items rows)
    ∙ ap (λ (text : List ℕ). 44 ∷ text) (sym (append_assoc (compact_text (object row)) (after_first rows) (93 ∷ [])))

-- the items of a list are its rows and the closing bracket
pub all_items : (rows : List Members) → items_text false (row_items rows) ≡ rows_text rows ++ 93 ∷ []
all_items [] = refl
all_items (row ∷ rows) =
    ap (λ (text : List ℕ). compact_text (object row) ++ text) (later_items rows)
    ∙ sym (append_assoc (compact_text (object row)) (after_first rows) (93 ∷ []))

-- and with further octets after them
pub items_before : (rows : List Members) (rest : List ℕ) → rows_text rows ++ 93 ∷ rest
    ≡ items_text false (row_items rows) ++ rest
items_before rows rest =
    sym (append_assoc (rows_text rows) (93 ∷ []) rest) ∙ ap (λ (text : List ℕ). text ++ rest) (sym (all_items rows))
