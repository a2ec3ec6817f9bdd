-- The names of a book: when two are the same, and how an insert and a removal change them.
use Rattle.std.proofs.Common.{◌≡◌, ◌≢◌, ℕ, zero, suc, ◌+◌, ◌<◌, ◌≤◌, List, [], ◌∷◌, ◌++◌, length, get_or, Option, Some, None}
use Rattle.std.proofs.Common.{IsSome, Bool, true, false, cond, nat_cmp, refl, sym, ap, subst, ◌∙◌, arith, inl, inr, ◌⊎◌, is_some}
use Rattle.std.proofs.Common.{◌==◌, ◌^◌, ◌-◌, ◌&&◌, length-set, map}
use Rattle.std.specs.Prelude.{Result, Ok, Err, not, IfSome}
use Rattle.std.proofs.Math.ListN.{set}
use Rattle.std.proofs.lemmas.Bool.{cases_Bool, true≢false}
use Rattle.std.proofs.lemmas.Cmp.{nat_cmp_total}
use Rattle.std.proofs.lemmas.Bool.Decides.{nat_tests}
use Rattle.std.specs.List.{AllByRecursion, Contains}
use Rattle.std.proofs.lemmas.List.{get_or-set_same, get_or-set_other, map-set}
use Rattle.std.proofs.lemmas.List.Elements.{Contains-append_left, Contains-append_right}
use Rattle.call_book.proofs.RangeLaws.{peer_within, ranges_apart}
use Rattle.std.specs.Ordering.{eq_by_cmp}
use Rattle.std.specs.FinMap.{FinMap, get, insert, remove, get-remove}
use Rattle.call_book.specs.declared.leg_name.LegName.{LegName}
use Rattle.call_book.specs.declared.errors.BridgeError.{BridgeError}
use Rattle.call_book.specs.declared.errors.BridgeError.TheVariants.{Same, Stale, Bridged}
use Rattle.call_book.specs.Book.{Book, IsBook, AreFree, IsNumberOf, free_of, after_reserve, reserve_answer, next_name, bridged}
use Rattle.call_book.specs.Book.{bridge_answer, released, unbridged, is_name_in, is_same, has_name, partner_of}
use Rattle.call_book.proofs.TableLaws.{eq_apart, eq_itself, same_from_eq}
use Rattle.call_book.proofs.BookLaws.{get_or-map_read, get-insert_here, get-insert_apart, reserve_keeps, bridge_keeps, name_found}
use Rattle.call_book.proofs.BookLaws.{numbers_apart, none_from, named_apart}

-- names

pub is_same_itself : (a : LegName) → is_same a a ≡ true
is_same_itself a = grind (arith, nat_tests)

pub same_name : (a b : LegName) → is_same a b ≡ true → a ≡ b
same_name a b h = let found : Some a ≡ Some b = name_found (Some a) b h in cc

pub is_same_apart : (a b : LegName) → a.number ≢ b.number → is_same a b ≡ false
is_same_apart a b ne = grind (arith, nat_tests)

pub get-remove_here : {A : Type 0} (m : FinMap nat_cmp A) (k : ℕ) → get (remove m k) k ≡ None
get-remove_here m k = get-remove nat_cmp_total m k k ∙ rw (eq_itself k) refl

pub get-remove_apart : {A : Type 0} (m : FinMap nat_cmp A) (k q : ℕ) → q ≢ k → get (remove m k) q ≡ get m q
get-remove_apart m k q ne = get-remove nat_cmp_total m k q ∙ rw (eq_apart q k ne) refl

pub apart_from_eq : (q k : ℕ) → eq_by_cmp nat_cmp q k ≡ false → q ≢ k
apart_from_eq q k other = λ x. true≢false (sym (eq_itself k) ∙ ap (λ j. eq_by_cmp nat_cmp j k) (sym x) ∙ other)

pub remove_cases : {A : Type 0} (m : FinMap nat_cmp A) (k q : ℕ) (a : A) → get (remove m k) q ≡ Some a → (q ≢ k) ×
    (get m q ≡ Some a)
remove_cases m k q a e =
    elim (cases_Bool (eq_by_cmp nat_cmp q k)) [
      | inl same ↦
          let at : q ≡ k = same_from_eq q k same in
          let none : None ≡ Some a = sym (get-remove_here m k) ∙ ap (get (remove m k)) (sym at) ∙ e in
          absurd (cc)
      | inr other ↦
          let ne : q ≢ k = apart_from_eq q k other in
          (ne, sym (get-remove_apart m k q ne) ∙ e)
    ]

pub still_none : {A : Type 0} (m : FinMap nat_cmp A) (k q : ℕ) → get m q ≡ None → get (remove m k) q ≡ None
still_none m k q e =
    elim (cases_Bool (eq_by_cmp nat_cmp q k)) [
      | inl same ↦ let at : q ≡ k = same_from_eq q k same in ap (get (remove m k)) at ∙ get-remove_here m k
      | inr other ↦ get-remove_apart m k q (apart_from_eq q k other) ∙ e
    ]

abbrev pub bit : Bool → ℕ
bit b = cond b 1 0

-- the map's answer, taken apart
pub name_at_number : (book : Book) (name : LegName) → IsBook book → (o : Option LegName) → get book.names name.number ≡ o
    → is_name_in o name ≡ true → get book.names name.number ≡ Some name
name_at_number book name h o is found = is ∙ name_found o name found

pub has_name_is : (book : Book) (name : LegName) → has_name book name ≡ true → get book.names name.number ≡ Some name
has_name_is book name h = name_found (get book.names name.number) name h

pub has_name_from : (book : Book) (name : LegName) → get book.names name.number ≡ Some name → has_name book name ≡ true
has_name_from book name h = rw h (is_same_itself name)

-- two names of the book with one number are the same
pub one_per_number : (book : Book) (a b : LegName) → has_name book a ≡ true → has_name book b ≡ true → a.number ≡ b.number → a ≡ b
one_per_number book a b ha hb e =
    let same : Some a ≡ Some b = sym (has_name_is book a ha) ∙ ap (get book.names) e ∙ has_name_is book b hb in cc

-- an insert and a removal, as seen by the question for a name
pub has_gained : (names : FinMap nat_cmp LegName) (v : LegName) → get names v.number ≡ None → (x : LegName)
    → bit (is_name_in (get (insert names v.number v) x.number) x) ≡ bit (is_name_in (get names x.number) x) + bit (is_same v x)
has_gained names v none x =
    elim (cases_Bool (eq_by_cmp nat_cmp x.number v.number)) [
      | inl same ↦
          let at : x.number ≡ v.number = same_from_eq x.number v.number same in
          let now : get (insert names v.number v) x.number ≡ Some v = ap (get (insert names v.number v)) at ∙ get-insert_here
          names v.number v in
          let before : get names x.number ≡ None = ap (get names) at ∙ none in
          let gained : bit (is_name_in (get (insert names v.number v) x.number) x) ≡ bit (is_same v x) =
          ap (λ o. bit (is_name_in o x)) now in
          let nothing : bit (is_name_in (get names x.number) x) ≡ 0 = ap (λ o. bit (is_name_in o x)) before in
          omega arith
      | inr other ↦
          let ne : x.number ≢ v.number = apart_from_eq x.number v.number other in
          let now : bit (is_name_in (get (insert names v.number v) x.number) x) ≡ bit (is_name_in (get names x.number) x) =
          ap (λ o. bit (is_name_in o x)) (get-insert_apart names v.number v x.number ne) in
          let differs : bit (is_same v x) ≡ 0 = ap bit (is_same_apart v x (λ e. ne (sym e))) in
          omega arith
    ]

pub has_lost : (names : FinMap nat_cmp LegName) (v : LegName) → get names v.number ≡ Some v → (x : LegName)
    → bit (is_name_in (get names x.number) x) ≡ bit (is_name_in (get (remove names v.number) x.number) x) + bit (is_same v x)
has_lost names v some x =
    elim (cases_Bool (eq_by_cmp nat_cmp x.number v.number)) [
      | inl same ↦
          let at : x.number ≡ v.number = same_from_eq x.number v.number same in
          let before : bit (is_name_in (get names x.number) x) ≡ bit (is_same v x) =
          ap (λ o. bit (is_name_in o x)) (ap (get names) at ∙ some) in
          let now : bit (is_name_in (get (remove names v.number) x.number) x) ≡ 0 =
          ap (λ o. bit (is_name_in o x)) (ap (get (remove names v.number)) at ∙ get-remove_here names v.number) in
          omega arith
      | inr other ↦
          let ne : x.number ≢ v.number = apart_from_eq x.number v.number other in
          let now : bit (is_name_in (get (remove names v.number) x.number) x) ≡ bit (is_name_in (get names x.number) x) =
          ap (λ o. bit (is_name_in o x)) (get-remove_apart names v.number x.number ne) in
          let differs : bit (is_same v x) ≡ 0 = ap bit (is_same_apart v x (λ e. ne (sym e))) in
          omega arith
    ]
