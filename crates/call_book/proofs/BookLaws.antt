-- The properties that a change of the book keeps.
use Rattle.std.proofs.Common.{◌≡◌, ◌≢◌, ℕ, zero, suc, ◌+◌, ◌<◌, List, [], ◌∷◌, length, get_or, Option, Some, None, IsSome, Bool}
use Rattle.std.proofs.Common.{true, false, nat_cmp, refl, sym, ap, subst, ◌∙◌, arith, inl, inr, ◌⊎◌, is_some, ◌==◌, ◌^◌, ◌-◌, map}
use Rattle.std.proofs.Common.{◌++◌, option_to_list, length-set}
use Rattle.std.proofs.Math.ListN.{set}
use Rattle.std.proofs.lemmas.Bool.{cases_Bool, true≢false}
use Rattle.std.proofs.lemmas.List.{get_or-set_same, get_or-set_other}
use Rattle.std.proofs.lemmas.Cmp.{nat_cmp_total}
use Rattle.std.proofs.lemmas.Bool.Decides.{nat_tests}
use Rattle.std.specs.List.{AllByRecursion, Contains}
use Rattle.std.specs.Ordering.{eq_by_cmp}
use Rattle.std.specs.FinMap.{FinMap, get, insert, get-insert}
use Rattle.call_book.specs.declared.leg_name.LegName.{LegName}
use Rattle.call_book.specs.Book.{Book, IsBook, AreFree, IsNumberOf, free_of, after_reserve, bridged, is_name_in, has_name}
use Rattle.call_book.specs.Book.{total_of}
use Rattle.call_book.proofs.TableLaws.{eq_apart, eq_itself, same_from_eq}
use Rattle.call_book.proofs.RangeLaws.{ranges_apart, number_within, peer_within}

-- the map after an insert, at the key and elsewhere
pub get-insert_here : {A : Type 0} (m : FinMap nat_cmp A) (k : ℕ) (v : A) → get (insert m k v) k ≡ Some v
get-insert_here m k v = get-insert nat_cmp_total m k v k ∙ rw (eq_itself k) refl

pub get-insert_apart : {A : Type 0} (m : FinMap nat_cmp A) (k : ℕ) (v : A) (q : ℕ) → q ≢ k → get (insert m k v) q ≡ get m q
get-insert_apart m k v q ne = get-insert nat_cmp_total m k v q ∙ rw (eq_apart q k ne) refl

-- a number that no leg has stays free when another gets a name
free_kept : (counts : List ℕ) (names : FinMap nat_cmp LegName) (p : ℕ) (ns : List ℕ) (k : ℕ) (v : LegName)
    → AllByRecursion (λ m. m ≢ k) ns → AreFree counts names p ns → AreFree counts (insert names k v) p ns
free_kept counts names p [] k v ne h = tt
free_kept counts names p (n ∷ ns) k v ne h = (
  h.0,
  get-insert_apart names k v n ne.0 ∙ h.1,
  h.2,
  free_kept counts names p ns k v ne.1 h.3,
)

all_apart : (counts : List ℕ) (names : FinMap nat_cmp LegName) (p q : ℕ) (ns : List ℕ) (k : ℕ) → p ≢ q → IsNumberOf counts q k
    → AreFree counts names p ns → AllByRecursion (λ m. m ≢ k) ns
all_apart counts names p q [] k ne at h = tt
all_apart counts names p q (n ∷ ns) k ne at h = (ranges_apart counts p q n k ne h.0 at, all_apart counts names p q ns k ne at h.3)

-- a free number is still listed once another has left the front
pub contained_behind : (n k : ℕ) (ns : List ℕ) → k ≢ n → Contains (n ∷ ns) k → Contains ns k
contained_behind n k ns ne (zero, lt, e) = absurd (ne (sym e))
contained_behind n k ns ne (suc i, lt, e) = (i, omega arith, e)

-- the entries of a map after an insert
insert_cases : {A : Type 0} (m : FinMap nat_cmp A) (k : ℕ) (v : A) (q : ℕ) (a : A) → get (insert m k v) q ≡ Some a
    → ((q ≡ k) × (v ≡ a)) ⊎ ((q ≢ k) × (get m q ≡ Some a))
insert_cases m k v q a e =
    elim (cases_Bool (eq_by_cmp nat_cmp q k)) [
      | inl same ↦
          let at : q ≡ k = same_from_eq q k same in
          let here : Some v ≡ Some a = sym (get-insert_here m k v) ∙ ap (get (insert m k v)) (sym at) ∙ e in
          inl (at, cc)
      | inr other ↦
          let ne : q ≢ k = λ x. true≢false (sym (eq_itself k) ∙ ap (λ j. eq_by_cmp nat_cmp j k) (sym x) ∙ other) in
          inr (ne, sym (get-insert_apart m k v q ne) ∙ e)
    ]

-- a number with a name is another than one without
pub named_apart : (names : FinMap nat_cmp LegName) (q n : ℕ) → IsSome (get names q) → get names n ≡ None → q ≢ n
named_apart names q n h none = λ e. true≢false (sym h ∙ ap is_some (ap (get names) e ∙ none))

pub reserve_keeps : (book : Book) (peer n : ℕ) (rest : List ℕ) → peer < length book.free → free_of book peer ≡ n ∷ rest
    → IsBook book
    → IsBook (record book {
      names = insert book.names n (record { peer = peer; number = n; serial = book.next });
      free = set book.free peer rest;
      next = book.next + 1;
    })
reserve_keeps book peer n rest lt front h =
    let name : LegName = record { peer = peer; number = n; serial = book.next } in
    let first = rw front at (h.free peer) in
    record {
      limit = h.limit;
      peers = rw length-set h.peers;
      placed = λ m a e. elim (insert_cases book.names n name m a e) [
        | inl w ↦ rw (← w.1, w.0) (refl, first.0, omega arith)
        | inr w ↦ let old = h.placed m a w.1 in (old.0, old.1, omega arith)
      ];
      serials = λ m k a b ea eb same. elim (insert_cases book.names n name m a ea) [
        | inl w ↦ elim (insert_cases book.names n name k b eb) [
          | inl v ↦ w.0 ∙ sym v.0
          | inr v ↦ let old = h.placed k b v.1 in absurd (omega (arith, ap (λ x. x.serial) w.1, old.2))
        ]
        | inr w ↦ elim (insert_cases book.names n name k b eb) [
          | inl v ↦ let old = h.placed m a w.1 in absurd (omega (arith, ap (λ x. x.serial) v.1, old.2))
          | inr v ↦ h.serials m k a b w.1 v.1 same
        ]
      ];
      paired = λ k b e.
          let old = h.paired k b e in
          let there : b.number ≢ n = named_apart book.names b.number n (rw old.1 refl) first.1 in
          let here : k ≢ n = named_apart book.names k n old.2 first.1 in (
            old.0,
            get-insert_apart book.names n name b.number there ∙ old.1,
            rw (get-insert_apart book.names n name k here) old.2,
            old.3 ∙ sym (get-insert_apart book.names n name k here),
          );
      free = λ q. elim (cases_Bool (eq_by_cmp nat_cmp q peer)) [
        | inl same ↦ rw (same_from_eq q peer same, get_or-set_same book.free peer rest [] lt)
            (free_kept book.counts book.names peer rest n name first.2 first.3)
        | inr other ↦
            let ne : q ≢ peer = λ x. true≢false (sym (eq_itself peer) ∙ ap (λ j. eq_by_cmp nat_cmp j peer) (sym x) ∙ other) in
            rw (get_or-set_other book.free peer q rest [] ne) (free_kept book.counts book.names q (free_of book q) n name
            (all_apart book.counts book.names q peer (free_of book q) n ne first.0 (h.free q)) (h.free q))
      ];
      every = λ q k within none.
          let ne : k ≢ n = λ e. let both : None ≡ Some name = sym none ∙ ap (get (insert book.names n name)) e ∙ get-insert_here
          book.names n name in cc in
          let before : get book.names k ≡ None = sym (get-insert_apart book.names n name k ne) ∙ none in
          let listed : Contains (free_of book q) k = h.every q k within before in
          elim (cases_Bool (eq_by_cmp nat_cmp q peer)) [
            | inl same ↦
                let at : q ≡ peer = same_from_eq q peer same in
                let there : Contains (n ∷ rest) k = subst (λ ns. Contains ns k) (ap (free_of book) at ∙ front) listed in
                rw (at, get_or-set_same book.free peer rest [] lt) (contained_behind n k rest ne there)
            | inr other ↦
                let apart : q ≢ peer = λ x. true≢false (sym (eq_itself peer) ∙ ap (λ j. eq_by_cmp nat_cmp j peer) (sym x)
                ∙ other) in
                rw (get_or-set_other book.free peer q rest [] apart) listed
          ];
    }

-- an element of a list, seen by f
pub get_or-map_read : {A B : Type 0} (f : A → B) (xs : List A) (i : ℕ) (x : A) (d : B) → i < length xs → x ≡ get_or xs i x
    → get_or (map f xs) i d ≡ f x
get_or-map_read f [] i x d lt e = absurd (omega arith)
get_or-map_read f (y ∷ ys) zero x d lt e = ap f (sym e)
get_or-map_read f (y ∷ ys) (suc i) x d lt e = get_or-map_read f ys i x d (omega arith) e

pub after_reserve_is : (book : Book) (peer n : ℕ) (rest : List ℕ) → (book.next == 2 ^ 64 - 1) ≡ false
    → free_of book peer ≡ n ∷ rest
    → record book {
      names = insert book.names n (record { peer = peer; number = n; serial = book.next });
      free = set book.free peer rest;
      next = book.next + 1;
    } ≡ after_reserve book peer
after_reserve_is book peer n rest e front = rw (e, front) refl

pub front_is : {Q : Type 0} (items : Q → List ℕ) (queues : List Q) (place peer n : ℕ) (q : Q) (o : Option ℕ) (rest : List ℕ)
    → place ≡ peer → place < length queues → q ≡ get_or queues place q → items q ≡ option_to_list o ++ rest → o ≡ Some n
    → get_or (map items queues) peer [] ≡ n ∷ rest
front_is items queues place peer n q o rest there lt at popped some =
    ap (λ i. get_or (map items queues) i []) (sym there) ∙ get_or-map_read items queues place q [] lt at ∙ popped
    ∙ ap (λ x. option_to_list x ++ rest) some

pub not_last : (n : ℕ) → (n ≡ 18446744073709551615 → ⊥) → (n == 2 ^ 64 - 1) ≡ false
not_last n h = grind (arith, nat_tests)

-- partners, once two names without one are bridged
pub bridge_keeps : (book : Book) (a b : LegName) → a.number ≢ b.number → get book.names a.number ≡ Some a
    → get book.names b.number ≡ Some b
    → get book.partners a.number ≡ None → get book.partners b.number ≡ None → IsBook book → IsBook (bridged book a b)
bridge_keeps book a b ne has_a has_b free_a free_b h =
    let with_a = insert book.partners a.number b in
    let at_a : get (insert with_a b.number a) a.number ≡ Some b = get-insert_apart with_a b.number a a.number ne ∙ get-insert_here
    book.partners a.number b in
    let at_b : get (insert with_a b.number a) b.number ≡ Some a = get-insert_here with_a b.number a in
    record {
      limit = h.limit;
      peers = h.peers;
      placed = h.placed;
      serials = h.serials;
      free = h.free;
      every = h.every;
      paired = λ n c e. elim (insert_cases with_a b.number a n c e) [
        | inl w ↦ rw (← w.1, w.0) (ne, has_a, rw has_b refl, at_a ∙ sym has_b)
        | inr w ↦ elim (insert_cases book.partners a.number b n c w.1) [
          | inl v ↦ rw (← v.1, v.0) ((λ x. ne (sym x)), has_b, rw has_a refl, at_b ∙ sym has_a)
          | inr v ↦
              let old = h.paired n c v.1 in
              let some : IsSome (get book.partners c.number) = rw old.3 old.2 in
              let not_a : c.number ≢ a.number = named_apart book.partners c.number a.number some free_a in
              let not_b : c.number ≢ b.number = named_apart book.partners c.number b.number some free_b in (
                old.0,
                old.1,
                old.2,
                get-insert_apart with_a b.number a c.number not_b ∙ get-insert_apart book.partners a.number b
                    c.number not_a ∙ old.3,
              )
        ]
      ];
    }

-- a name that the book has is at its number
pub name_found : (o : Option LegName) (name : LegName) → is_name_in o name ≡ true → o ≡ Some name
name_found None name h = cc
name_found (Some found) name h =
    let p : found.peer ≡ name.peer = grind (arith, nat_tests) in
    let q : found.number ≡ name.number = grind (arith, nat_tests) in
    let r : found.serial ≡ name.serial = grind (arith, nat_tests) in
    λ i. Some (record { peer = p i; number = q i; serial = r i })

-- two different names of the book are at different numbers
pub numbers_apart : (book : Book) (a b : LegName) → (a ≡ b → ⊥) → get book.names a.number ≡ Some a
    → get book.names b.number ≡ Some b → a.number ≢ b.number
numbers_apart book a b ne has_a has_b = λ e.
    let same : Some a ≡ Some b = sym has_a ∙ ap (get book.names) e ∙ has_b in
    ne (cc)

pub none_from : {A : Type 0} (o : Option A) → is_some o ≡ false → o ≡ None
none_from None h = refl
none_from (Some x) h = cc

pub place_within : (book : Book) (a : LegName) → IsBook book → get book.names a.number ≡ Some a → a.number < total_of book.counts
    + 1
place_within book a h at = number_within book.counts a.peer a.number (h.placed a.number a at).1

-- the place of a name of the book
pub record Stands (book : Book) (name : LegName) : Type 0 where
  pub has : get book.names name.number ≡ Some name
  pub place : name.number < total_of book.counts + 1
  pub peer : name.peer < length book.free

pub stands : (book old : Book) (name : LegName) (found : Bool) → book ≡ old → IsBook book → found ≡ has_name old name
    → found ≡ true → Stands book name
stands book old name found same sound is there =
    let known : has_name book name ≡ true = subst (λ b. has_name b name ≡ true) (sym same) (sym is ∙ there) in
    let has : get book.names name.number ≡ Some name = name_found (get book.names name.number) name known in
    record {
      has = has;
      place = place_within book name sound has;
      peer = rw sound.peers (peer_within book.counts name.peer name.number (sound.placed name.number name has).1);
    }
