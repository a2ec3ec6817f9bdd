-- The partners of a book's names after reserving, bridging and releasing.
use Rattle.std.proofs.Common.{◌≡◌, ◌≢◌, ℕ, ◌+◌, ◌<◌, ◌≤◌, List, [], ◌∷◌, ◌++◌, length, get_or, Option, Some, None}
use Rattle.std.proofs.Common.{IsSome, Bool, true, false, cond, nat_cmp, refl, sym, ap, subst, ◌∙◌, arith, inl, inr, ◌⊎◌, is_some}
use Rattle.std.proofs.Common.{◌-◌, map}
use Rattle.std.specs.Prelude.{IfSome}
use Rattle.std.proofs.Math.ListN.{set}
use Rattle.std.proofs.lemmas.Bool.{cases_Bool, true≢false}
use Rattle.std.proofs.lemmas.List.{map-set}
use Rattle.std.specs.Ordering.{eq_by_cmp}
use Rattle.std.specs.FinMap.{FinMap, get, insert, remove}
use Rattle.call_book.specs.declared.leg_name.LegName.{LegName}
use Rattle.call_book.specs.Book.{Book, IsBook, free_of, after_reserve, bridged}
use Rattle.call_book.specs.Book.{released, unbridged, has_name, partner_of}
use Rattle.call_book.proofs.TableLaws.{same_from_eq}
use Rattle.call_book.proofs.BookLaws.{get_or-map_read, get-insert_here, get-insert_apart}
use Rattle.call_book.proofs.NameLaws.{get-remove_here, get-remove_apart, apart_from_eq}
use Rattle.call_book.proofs.NameLaws.{remove_cases, has_name_is, has_name_from}
use Rattle.call_book.proofs.NameLaws.{bit}
use Rattle.call_book.proofs.Changes.{IsReserved, IsBridged}

-- ---- partners

pub partner_has : (book : Book) (x p : LegName) → partner_of book x ≡ Some p → has_name book x ≡ true
partner_has book x p is =
    elim (cases_Bool (has_name book x)) [
      | inl has ↦ has
      | inr other ↦ absurd (let e = rw other at is in cc)
    ]

pub partner_at : (book : Book) (x p : LegName) → partner_of book x ≡ Some p → get book.partners x.number ≡ Some p
partner_at book x p is = let has = partner_has book x p is in rw has at is

pub partner_from : (book : Book) (x p : LegName) → has_name book x ≡ true → get book.partners x.number ≡ Some p
    → partner_of book x ≡ Some p
partner_from book x p has is = rw has is

pub no_partner : (book : Book) (n : ℕ) → IsBook book → get book.names n ≡ None → get book.partners n ≡ None
no_partner book n sound none = go (get book.partners n) refl
  where
    go : (o : Option LegName) → get book.partners n ≡ o → o ≡ None
    go None is = refl
    go (Some b) is = let some : IsSome (get book.names n) = (sound.paired n b is).2 in
        absurd (true≢false (sym some ∙ ap is_some none))

-- the partner of a name's partner is that name
pub partner_mutual : (book : Book) (name : LegName) (o : Option LegName) → IsBook book → has_name book name ≡ true
    → o ≡ get book.partners name.number → IfSome o (λ partner. partner_of book partner ≡ Some name)
partner_mutual book name None sound has is = tt
partner_mutual book name (Some partner) sound has is =
    let pair = sound.paired name.number partner (sym is) in
    partner_from book partner name (has_name_from book partner pair.1) (pair.3 ∙ has_name_is book name has)

module _ (book : Book) (name : LegName) (sound : IsBook book) (has : get book.names name.number ≡ Some name) where
  unbridged_before : (o : Option LegName) (n : ℕ) (p : LegName) → get (unbridged book.partners name.number o) n ≡ Some p
      → get book.partners n ≡ Some p
  unbridged_before None n p is = is
  unbridged_before (Some q) n p is =
      (remove_cases book.partners name.number n p (remove_cases (remove book.partners name.number) q.number n p is).1).1

  -- a release gives nobody a partner
  pub released_before : (x p : LegName) → partner_of (released book name) x ≡ Some p → partner_of book x ≡ Some p
  released_before x p is =
      let has_after : has_name (released book name) x ≡ true = partner_has (released book name) x p is in
      let at_after : get (unbridged book.partners name.number (get book.partners name.number)) x.number ≡ Some p =
      partner_at (released book name) x p is in
      let found = remove_cases book.names name.number x.number x (has_name_is (released book name) x has_after) in
      partner_from book x p (has_name_from book x found.1) (unbridged_before (get book.partners name.number) x.number p at_after)

  unbridged_after : (o : Option LegName) → get book.partners name.number ≡ o → (x p : LegName) → has_name book x ≡ true
      → x.number ≢ name.number → get book.partners x.number ≡ Some p
      → (get (unbridged book.partners name.number o) x.number ≡ Some p) ⊎ (o ≡ Some x)
  unbridged_after None former x p known ne is = inl is
  unbridged_after (Some q) former x p known ne is =
      elim (cases_Bool (eq_by_cmp nat_cmp x.number q.number)) [
        | inl same ↦
            let at : x.number ≡ q.number = same_from_eq x.number q.number same in
            let stands : get book.names q.number ≡ Some q = (sound.paired name.number q former).1 in
            let both : Some q ≡ Some x = sym stands ∙ ap (get book.names) (sym at) ∙ has_name_is book x known in
            inr both
        | inr other ↦ inl (get-remove_apart (remove book.partners name.number) q.number x.number
            (apart_from_eq x.number q.number other) ∙ get-remove_apart book.partners name.number x.number ne ∙ is)
      ]

  -- only the former partner loses its own
  pub released_after : (x p : LegName) → x.number ≢ name.number → partner_of book x ≡ Some p
      → (partner_of (released book name) x ≡ Some p) ⊎ (partner_of book name ≡ Some x)
  released_after x p ne is =
      let known : has_name book x ≡ true = partner_has book x p is in
      let still : has_name (released book name) x ≡ true = has_name_from (released book name) x
      (get-remove_apart book.names name.number x.number ne ∙ has_name_is book x known) in
      elim (unbridged_after (get book.partners name.number) refl x p known ne (partner_at book x p is)) [
        | inl stays ↦ inl (partner_from (released book name) x p still stays)
        | inr gone ↦ inr (partner_from book name x (has_name_from book name has) gone)
      ]

module _ (book : Book) (a b : LegName) (did : IsBridged book a b) where
  at_first : get (bridged book a b).partners a.number ≡ Some b
  at_first = get-insert_apart (insert book.partners a.number b) b.number a a.number did.apart ∙ get-insert_here book.partners
      a.number b

  pub bridged_first : partner_of (bridged book a b) a ≡ Some b
  bridged_first = partner_from (bridged book a b) a b (has_name_from book a did.has_a) at_first

  pub bridged_second : partner_of (bridged book a b) b ≡ Some a
  bridged_second = partner_from (bridged book a b) b a (has_name_from book b did.has_b)
      (get-insert_here (insert book.partners a.number b) b.number a)

  elsewhere : (x : LegName) → x.number ≢ a.number → x.number ≢ b.number → get (bridged book a b).partners x.number
      ≡ get book.partners x.number
  elsewhere x not_a not_b = get-insert_apart (insert book.partners a.number b) b.number a x.number not_b ∙ get-insert_apart
      book.partners a.number b x.number not_a

  pub bridged_before : (x p : LegName) → x.number ≢ a.number → x.number ≢ b.number → partner_of (bridged book a b) x ≡ Some p
      → partner_of book x ≡ Some p
  bridged_before x p not_a not_b is =
      partner_from book x p (partner_has (bridged book a b) x p is) (sym (elsewhere x not_a not_b) ∙ partner_at (bridged book a b)
      x p is)

  -- a name that had a partner keeps it
  pub bridged_after : (x p : LegName) → partner_of book x ≡ Some p → partner_of (bridged book a b) x ≡ Some p
  bridged_after x p is =
      let at : get book.partners x.number ≡ Some p = partner_at book x p is in
      let not_a : x.number ≢ a.number = λ e. let both : Some p ≡ None = sym at ∙ ap (get book.partners) e ∙ did.free_a in
      absurd (cc) in
      let not_b : x.number ≢ b.number = λ e. let both : Some p ≡ None = sym at ∙ ap (get book.partners) e ∙ did.free_b in
      absurd (cc) in
      partner_from (bridged book a b) x p (partner_has book x p is) (elsewhere x not_a not_b ∙ at)

module _ (book : Book) (peer : ℕ) (name : LegName) (sound : IsBook book) (did : IsReserved book peer name) where
  pub reserved_none : (p : LegName) → partner_of (after_reserve book peer) name ≡ Some p → ⊥
  reserved_none p is =
      let at : get book.partners name.number ≡ Some p = ap (λ m. get m name.number) (sym did.partners) ∙ partner_at
      (after_reserve book peer) name p is in
      let none : get book.partners name.number ≡ None = no_partner book name.number sound did.new in cc

  pub reserved_before : (x p : LegName) → has_name book x ≡ true → partner_of (after_reserve book peer) x ≡ Some p
      → partner_of book x ≡ Some p
  reserved_before x p known is = partner_from book x p known (ap (λ m. get m x.number) (sym did.partners) ∙ partner_at
      (after_reserve book peer) x p is)

  pub reserved_after : (x p : LegName) → partner_of book x ≡ Some p → partner_of (after_reserve book peer) x ≡ Some p
  reserved_after x p is =
      let known : has_name book x ≡ true = partner_has book x p is in
      let one : bit (has_name book x) ≡ 1 = ap bit known in
      let still : has_name (after_reserve book peer) x ≡ true = one_bit (has_name (after_reserve book peer) x)
      (omega (arith, did.gained x)) in
      partner_from (after_reserve book peer) x p still (ap (λ m. get m x.number) did.partners ∙ partner_at book x p is)
    where
      one_bit : (b : Bool) → 1 ≤ bit b → b ≡ true
      one_bit true h = refl
      one_bit false h = absurd (omega arith)

-- the book that the arrays show once a name is taken back
pub release_shown : {Q : Type 0} (items : Q → List ℕ) (queues : List Q) (book : Book) (names partners : FinMap nat_cmp LegName)
    (place : ℕ) (old new : Q) (name : LegName) (former : Option LegName)
    → book.free ≡ map items queues → names ≡ remove book.names name.number → former ≡ get book.partners name.number
    → partners ≡ unbridged book.partners name.number former
    → place ≡ name.peer → place < length queues → old ≡ get_or queues place old → items new ≡ items old ++ name.number ∷ []
    → record {
      counts = book.counts;
      names = names;
      partners = partners;
      free = map items (set queues place new);
      next = book.next;
    } ≡ released book name
release_shown items queues book names partners place old new name former free is_names is_former is_partners at lt there grown =
    let listed : items old ≡ free_of book name.peer =
    sym (get_or-map_read items queues place old [] lt there) ∙ ap (λ ns. get_or ns place []) (sym free) ∙ ap (free_of book) at in
    rw (is_names, is_partners, is_former, map-set items queues place new, grown, listed, at, ← free) refl

-- a name that was taken back is gone
pub released_gone : (book : Book) (name : LegName) → has_name (released book name) name ≡ false
released_gone book name = rw (get-remove_here book.names name.number) refl

unpaired : (b : Bool) (o : Option LegName) → o ≡ None → cond b o None ≡ None
unpaired true o is = is
unpaired false o is = refl

partner_parted : (book : Book) (name : LegName) (o : Option LegName) → o ≡ get book.partners name.number
    → IfSome o (λ partner. partner_of (released book name) partner ≡ None)
partner_parted book name None is = tt
partner_parted book name (Some partner) is =
    let cleared : get (unbridged book.partners name.number (get book.partners name.number)) partner.number ≡ None =
    ap (λ o. get (unbridged book.partners name.number o) partner.number) (sym is) ∙ get-remove_here
    (remove book.partners name.number) partner.number in
    unpaired (has_name (released book name) partner) _ cleared

-- the former partner has none
pub released_parted : (old new : Book) (name : LegName) (o : Option LegName) → new ≡ released old name
    → o ≡ get old.partners name.number → IfSome o (λ partner. partner_of new partner ≡ None)
released_parted old new name o is at = subst (λ b. IfSome o (λ partner. partner_of b partner ≡ None)) (sym is)
    (partner_parted old name o at)
