-- The names of a book after reserving, bridging and releasing; it stays a book.
use Rattle.std.proofs.Common.{◌≡◌, ◌≢◌, ℕ, zero, suc, ◌+◌, ◌<◌, List, [], ◌∷◌, ◌++◌, length, get_or, Option, Some, None}
use Rattle.std.proofs.Common.{IsSome, Bool, true, false, cond, nat_cmp, refl, sym, ap, subst, ◌∙◌, arith, inl, inr, is_some}
use Rattle.std.proofs.Common.{◌==◌, ◌^◌, ◌-◌, ◌&&◌, length-set}
use Rattle.std.specs.Prelude.{Result, Ok, Err, not}
use Rattle.std.proofs.Math.ListN.{set}
use Rattle.std.proofs.lemmas.Bool.{cases_Bool, true≢false}
use Rattle.std.specs.List.{AllByRecursion, Contains}
use Rattle.std.proofs.lemmas.List.{get_or-set_same, get_or-set_other}
use Rattle.std.proofs.lemmas.List.Elements.{Contains-append_left, Contains-append_right}
use Rattle.call_book.proofs.RangeLaws.{peer_within, ranges_apart}
use Rattle.std.specs.Ordering.{eq_by_cmp}
use Rattle.std.specs.FinMap.{FinMap, get, insert, remove}
use Rattle.call_book.specs.declared.leg_name.LegName.{LegName}
use Rattle.call_book.specs.declared.errors.BridgeError.{BridgeError}
use Rattle.call_book.specs.declared.errors.BridgeError.TheVariants.{Same, Stale, Bridged}
use Rattle.call_book.specs.Book.{Book, IsBook, AreFree, IsNumberOf, free_of, after_reserve, reserve_answer, next_name, bridged}
use Rattle.call_book.specs.Book.{bridge_answer, released, unbridged, is_same, has_name}
use Rattle.call_book.proofs.TableLaws.{same_from_eq}
use Rattle.call_book.proofs.BookLaws.{reserve_keeps, bridge_keeps}
use Rattle.call_book.proofs.BookLaws.{numbers_apart, none_from, named_apart}
use Rattle.call_book.proofs.NameLaws.{is_same_itself, get-remove_here, get-remove_apart, apart_from_eq}
use Rattle.call_book.proofs.NameLaws.{remove_cases, still_none, has_name_is}
use Rattle.call_book.proofs.NameLaws.{has_gained, has_lost, bit}

-- ---- reserve

-- the result of a reservation
pub record IsReserved (book : Book) (peer : ℕ) (name : LegName) : Type 0 where
  pub owner : name.peer ≡ peer
  pub range : IsNumberOf book.counts peer name.number
  pub new : get book.names name.number ≡ None
  pub serial : name.serial ≡ book.next
  pub gained : (x : LegName) → bit (has_name (after_reserve book peer) x) ≡ bit (has_name book x) + bit (is_same name x)
  pub partners : (after_reserve book peer).partners ≡ book.partners
  pub next : (after_reserve book peer).next ≡ book.next + 1
  pub sound : IsBook (after_reserve book peer)

within_free : (xs : List (List ℕ)) (k n : ℕ) (rest : List ℕ) → get_or xs k [] ≡ n ∷ rest → k < length xs
within_free [] k n rest e = absurd (cc)
within_free (x ∷ xs) zero n rest e = omega arith
within_free (x ∷ xs) (suc k) n rest e = let more : k < length xs = within_free xs k n rest e in omega arith

module _ (book : Book) (peer : ℕ) (name : LegName) (sound : IsBook book) where
  front_reserved : (queue : List ℕ) → free_of book peer ≡ queue → (book.next == 2 ^ 64 - 1) ≡ false
      → next_name book peer queue ≡ Ok name → IsReserved book peer name
  front_reserved [] front room ok = absurd (cc)
  front_reserved (n ∷ rest) front room ok =
      let is : record { peer = peer; number = n; serial = book.next } ≡ name = cc in
      subst (λ a. IsReserved book peer a) is
      (let v : LegName = record { peer = peer; number = n; serial = book.next } in
      let first = rw front at (sound.free peer) in
      let after : after_reserve book peer ≡ record book {
        names = insert book.names n v;
        free = set book.free peer rest;
        next = book.next + 1;
      } = rw (room, front) refl in
      record {
        owner = refl;
        range = first.0;
        new = first.1;
        serial = refl;
        gained = λ x. ap (λ b. bit (has_name b x)) after ∙ has_gained book.names v first.1 x;
        partners = ap (λ b. b.partners) after;
        next = ap (λ b. b.next) after;
        sound = subst IsBook (sym after) (reserve_keeps book peer n rest (within_free book.free peer n rest front) front sound);
      })

  pub reserved : reserve_answer book peer ≡ Ok name → IsReserved book peer name
  reserved ok =
      elim (cases_Bool (book.next == 2 ^ 64 - 1)) [
        | inl spent ↦ absurd (let e = rw spent at ok in cc)
        | inr room ↦ front_reserved (free_of book peer) refl room (rw room at ok)
      ]

-- ---- bridge

pub record IsBridged (book : Book) (a b : LegName) : Type 0 where
  pub apart : a.number ≢ b.number
  pub has_a : get book.names a.number ≡ Some a
  pub has_b : get book.names b.number ≡ Some b
  pub free_a : get book.partners a.number ≡ None
  pub free_b : get book.partners b.number ≡ None
  pub sound : IsBook (bridged book a b)

abbrev decided : Bool → Bool → Bool → Bool → Bool → Result (Unit {0}) BridgeError
decided same has_a has_b some_a some_b =
    cond same (Err Same) (cond (not (has_a && has_b)) (Err Stale) (cond (not some_a && not some_b) (Ok tt) (Err Bridged)))

module _ (book : Book) (a b : LegName) (sound : IsBook book) where
  fit : (same has_a has_b some_a some_b : Bool) → is_same a b ≡ same → has_name book a ≡ has_a → has_name book b ≡ has_b
      → is_some (get book.partners a.number) ≡ some_a → is_some (get book.partners b.number) ≡ some_b
      → decided same has_a has_b some_a some_b ≡ Ok tt
      → IsBridged book a b
  fit true has_a has_b some_a some_b h1 h2 h3 h4 h5 ok = absurd (cc)
  fit false false has_b some_a some_b h1 h2 h3 h4 h5 ok = absurd (cc)
  fit false true false some_a some_b h1 h2 h3 h4 h5 ok = absurd (cc)
  fit false true true true some_b h1 h2 h3 h4 h5 ok = absurd (cc)
  fit false true true false true h1 h2 h3 h4 h5 ok = absurd (cc)
  fit false true true false false h1 h2 h3 h4 h5 ok =
      let has_a = has_name_is book a h2 in
      let has_b = has_name_is book b h3 in
      let differ : a ≡ b → ⊥ = λ e. true≢false (sym (is_same_itself b) ∙ ap (λ n. is_same n b) (sym e) ∙ h1) in
      let ne = numbers_apart book a b differ has_a has_b in
      let free_a = none_from (get book.partners a.number) h4 in
      let free_b = none_from (get book.partners b.number) h5 in
      record {
        apart = ne;
        has_a = has_a;
        has_b = has_b;
        free_a = free_a;
        free_b = free_b;
        sound = bridge_keeps book a b ne has_a
            has_b free_a free_b sound;
      }

  pub bridged_by : bridge_answer book a b ≡ Ok tt → IsBridged book a b
  bridged_by ok =
      fit (is_same a b) (has_name book a) (has_name book b) (is_some (get book.partners a.number))
      (is_some (get book.partners b.number))
      refl refl refl refl refl ok

-- ---- release

set_or : (P : List ℕ → Type 0) (xs : List (List ℕ)) (k q : ℕ) (v : List ℕ) → P (get_or xs q []) → (q ≡ k → P v)
    → P (get_or (set xs k v) q [])
set_or P [] k q v old new = old
set_or P (x ∷ xs) zero zero v old new = new refl
set_or P (x ∷ xs) zero (suc q) v old new = old
set_or P (x ∷ xs) (suc k) zero v old new = old
set_or P (x ∷ xs) (suc k) (suc q) v old new = set_or P xs k q v old (λ e. new (ap suc e))

free_still : (counts : List ℕ) (names : FinMap nat_cmp LegName) (p k : ℕ) (ns : List ℕ) → AreFree counts names p ns
    → AreFree counts (remove names k) p ns
free_still counts names p k [] h = tt
free_still counts names p k (n ∷ ns) h = (h.0, still_none names k n h.1, h.2, free_still counts names p k ns h.3)

all_at_end : (P : ℕ → Type 0) (ns : List ℕ) (k : ℕ) → AllByRecursion P ns → P k → AllByRecursion P (ns ++ k ∷ [])
all_at_end P [] k h last = (last, tt)
all_at_end P (n ∷ ns) k h last = (h.0, all_at_end P ns k h.1 last)

free_again : (counts : List ℕ) (names : FinMap nat_cmp LegName) (p k : ℕ) (ns : List ℕ) → IsNumberOf counts p k
    → IsSome (get names k) → AreFree counts names p ns
    → AreFree counts (remove names k) p (ns ++ k ∷ [])
free_again counts names p k [] within some h = (within, get-remove_here names k, tt, tt)
free_again counts names p k (n ∷ ns) within some h = (
  h.0,
  still_none names k n h.1,
  all_at_end (λ m. m ≢ n) ns k h.2 (named_apart names k n some h.1),
  free_again counts names p k ns within some h.3,
)

module _ (book : Book) (name : LegName) (sound : IsBook book) (has : get book.names name.number ≡ Some name) where
  -- no bridge leads to a name without a partner
  paired_still : (o : Option LegName) → get book.partners name.number ≡ o → (n : ℕ) (b : LegName)
      → get (unbridged book.partners name.number o) n ≡ Some b
      → (b.number ≢ n) × (get (remove book.names name.number) b.number ≡ Some b) × IsSome (get (remove book.names name.number) n)
      × (get (unbridged book.partners name.number o) b.number ≡ get (remove book.names name.number) n)
  paired_still None is n b e =
      let old = sound.paired n b e in
      let not_here : n ≢ name.number = λ x. let both : None ≡ Some b = sym is ∙ ap (get book.partners) (sym x) ∙ e in
      absurd (cc) in
      let some : IsSome (get book.partners b.number) = rw old.3 old.2 in
      let not_there : b.number ≢ name.number = named_apart book.partners b.number name.number some is in (
        old.0,
        get-remove_apart book.names name.number b.number not_there ∙ old.1,
        rw (get-remove_apart book.names name.number n not_here) old.2,
        old.3 ∙ sym (get-remove_apart book.names name.number n not_here),
      )
  paired_still (Some p) is n b e =
      let outer = remove_cases (remove book.partners name.number) p.number n b e in
      let inner = remove_cases book.partners name.number n b outer.1 in
      let old = sound.paired n b inner.1 in
      let own = sound.paired name.number p is in
      let at_p : get book.partners p.number ≡ Some name = own.3 ∙ has in
      let not_there : b.number ≢ name.number = λ x.
      let named : get book.names n ≡ Some p = sym old.3 ∙ ap (get book.partners) x ∙ is in
      outer.0 (sym (sound.placed n p named).0) in
      let not_p : b.number ≢ p.number = λ x.
      let named : get book.names n ≡ Some name = sym old.3 ∙ ap (get book.partners) x ∙ at_p in
      inner.0 (sym (sound.placed n name named).0) in (
        old.0,
        get-remove_apart book.names name.number b.number not_there ∙ old.1,
        rw (get-remove_apart book.names name.number n inner.0) old.2,
        get-remove_apart (remove book.partners name.number) p.number b.number not_p ∙ get-remove_apart book.partners name.number
            b.number not_there ∙ old.3
            ∙ sym (get-remove_apart book.names name.number n inner.0),
      )

  -- a number without a leg is listed, the one that was freed at the end
  every_still : (q k : ℕ) → IsNumberOf book.counts q k → get (remove book.names name.number) k ≡ None
      → Contains (free_of (released book name) q) k
  every_still q k within none =
      let own : IsNumberOf book.counts name.peer name.number = (sound.placed name.number name has).1 in
      let lt : name.peer < length book.free = rw sound.peers (peer_within book.counts name.peer name.number own) in
      let after : List ℕ = free_of book name.peer ++ name.number ∷ [] in
      elim (cases_Bool (eq_by_cmp nat_cmp q name.peer)) [
        | inl same ↦
            let at : q ≡ name.peer = same_from_eq q name.peer same in
            rw (at, get_or-set_same book.free name.peer after [] lt)
            (elim (cases_Bool (eq_by_cmp nat_cmp k name.number)) [
              | inl here ↦ rw (same_from_eq k name.number here) (Contains-append_right (free_of book name.peer) (name.number ∷ [])
                  name.number (0, omega arith, refl))
              | inr there ↦
                  let before : get book.names k ≡ None =
                  sym (get-remove_apart book.names name.number k (apart_from_eq k name.number there)) ∙ none in
                  let listed : Contains (free_of book name.peer) k = subst (λ p. Contains (free_of book p) k) at
                  (sound.every q k within before) in
                  Contains-append_left (free_of book name.peer) (name.number ∷ []) k listed
            ])
        | inr other ↦
            let apart : q ≢ name.peer = apart_from_eq q name.peer other in
            let differs : k ≢ name.number = ranges_apart book.counts q name.peer k name.number apart within own in
            let before : get book.names k ≡ None = sym (get-remove_apart book.names name.number k differs) ∙ none in
            rw (get_or-set_other book.free name.peer q after [] apart) (sound.every q k within before)
      ]

  pub release_keeps : IsBook (released book name)
  release_keeps = record {
    limit = sound.limit;
    peers = rw length-set sound.peers;
    every = every_still;
    placed = λ n a e. sound.placed n a (remove_cases book.names name.number n a e).1;
    serials = λ m n a b ea eb same. sound.serials m n a b (remove_cases book.names name.number m a ea).1
        (remove_cases book.names name.number n b eb).1 same;
    paired = paired_still (get book.partners name.number) refl;
    free = λ q. set_or (λ ns. AreFree book.counts (remove book.names name.number) q ns) book.free name.peer q
        (free_of book name.peer ++ name.number ∷ [])
        (free_still book.counts book.names q name.number (free_of book q) (sound.free q))
        (λ e. let within : IsNumberOf book.counts name.peer name.number = (sound.placed name.number name has).1 in
        rw e (free_again book.counts book.names name.peer name.number (free_of book name.peer) within (rw has refl)
        (sound.free name.peer)));
  }

  pub lost : (x : LegName) → bit (has_name book x) ≡ bit (has_name (released book name) x) + bit (is_same name x)
  lost x = has_lost book.names name has x
