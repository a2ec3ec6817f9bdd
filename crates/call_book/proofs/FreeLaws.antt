-- How many numbers of a peer are free, and what a fresh book has free.
use Rattle.std.proofs.Common.{◌≡◌, ◌≢◌, ℕ, zero, suc, ◌+◌, ◌-◌, ◌<◌, ◌≤◌, List, [], ◌∷◌, ◌++◌, length, get_or, map, Some, None}
use Rattle.std.proofs.Common.{IsSome, true, false, eqb, nat_cmp, refl, sym, ap, ◌∙◌, arith, inl, inr, ◌*◌, take}
use Rattle.std.proofs.Math.ListN.{set}
use Rattle.std.proofs.lemmas.Bool.{cases_Bool, true≢false}
use Rattle.std.proofs.lemmas.Bool.Decides.{nat_tests}
use Rattle.std.proofs.lemmas.List.{take_more, map-append}
use Rattle.std.proofs.lemmas.List.FromFn.{length-range_with_len, get_or-range_with_len}
use Rattle.std.proofs.lemmas.Map.Steps.{length-le_from_distinct_below}
use Rattle.std.specs.List.{AllByRecursion, IsDistinct, Contains, list_any, range_with_len}
use Rattle.std.specs.FinMap.{FinMap, get, empty, get-empty}
use Rattle.call_book.specs.declared.leg_name.LegName.{LegName}
use Rattle.call_book.specs.Ranges.{IsNumberOf, first_number, ranges_from, total_of}
use Rattle.call_book.specs.Book.{Book, IsBook, AreFree, free_of, fresh_book}
use Rattle.call_book.proofs.BookLaws.{named_apart, get_or-map_read}
use Rattle.call_book.proofs.RangeLaws.{total-push}

-- numbers less the first of their range
abbrev below : ℕ → List ℕ → List ℕ
below first [] = []
below first (n ∷ ns) = (n - first) ∷ below first ns

length-below : (first : ℕ) (ns : List ℕ) → length (below first ns) ≡ length ns
length-below first [] = refl
length-below first (n ∷ ns) = ap suc (length-below first ns)

others_apart : (first n : ℕ) (ns : List ℕ) → first ≤ n → AllByRecursion (λ m. first ≤ m) ns → AllByRecursion (λ m. m ≢ n) ns
    → AllByRecursion (λ m. eqb (n - first) m ≡ false) (below first ns)
others_apart first n [] least all apart = tt
others_apart first n (m ∷ ns) least all apart =
    let from_first : first ≤ m = all.0 in
    let differ : m ≢ n = apart.0 in
    (grind (arith, nat_tests), others_apart first n ns least all.1 apart.1)

all_from : (counts : List ℕ) (names : FinMap nat_cmp LegName) (p : ℕ) (ns : List ℕ) → AreFree counts names p ns
    → AllByRecursion (λ m. first_number counts p ≤ m) ns
all_from counts names p [] h = tt
all_from counts names p (n ∷ ns) h = (h.0.0, all_from counts names p ns h.3)

distinct_below : (counts : List ℕ) (names : FinMap nat_cmp LegName) (p : ℕ) (ns : List ℕ) → AreFree counts names p ns
    → IsDistinct eqb (below (first_number counts p) ns)
unfolding IsDistinct
distinct_below counts names p [] h = tt
distinct_below counts names p (n ∷ ns) h =
    (others_apart (first_number counts p) n ns h.0.0 (all_from counts names p ns h.3) h.2, distinct_below counts names p ns h.3)

all_below : (counts : List ℕ) (names : FinMap nat_cmp LegName) (p : ℕ) (ns : List ℕ) → AreFree counts names p ns
    → AllByRecursion (λ m. m < get_or counts p 0) (below (first_number counts p) ns)
all_below counts names p [] h = tt
all_below counts names p (n ∷ ns) h = (omega (arith, h.0.0, h.0.1), all_below counts names p ns h.3)

member_below : (bound q : ℕ) (ms : List ℕ) → AllByRecursion (λ m. m < bound) ms → list_any (eqb q) ms ≡ true → q < bound
member_below bound q [] h found = absurd (true≢false (sym found))
member_below bound q (m ∷ ms) h found =
    let rest : list_any (eqb q) ms ≡ true → q < bound = member_below bound q ms h.1 in
    let first : m < bound = h.0 in
    elim (cases_Bool (eqb q m)) [
      | inl same ↦ grind (arith, nat_tests)
      | inr other ↦ rest (rw other at found)
    ]

all_named_apart : (counts : List ℕ) (names : FinMap nat_cmp LegName) (p number : ℕ) (ns : List ℕ) → IsSome (get names number)
    → AreFree counts names p ns → AllByRecursion (λ m. m ≢ number) ns
all_named_apart counts names p number [] some h = tt
all_named_apart counts names p number (n ∷ ns) some h = (
  (λ e. named_apart names number n some h.1 (sym e)),
  all_named_apart counts names p number ns some h.3,
)

-- while a leg has a number of a range, fewer numbers than the range has are free
fewer_free : (counts : List ℕ) (names : FinMap nat_cmp LegName) (p number : ℕ) (ns : List ℕ) → IsNumberOf counts p number
    → IsSome (get names number) → AreFree counts names p ns → length ns < get_or counts p 0
unfolding IsDistinct
fewer_free counts names p number ns within some h =
    let first = first_number counts p in
    let all : List ℕ = (number - first) ∷ below first ns in
    let distinct : IsDistinct eqb all = (
      others_apart first number ns within.0 (all_from counts names p ns h) (all_named_apart counts names p number ns some h),
      distinct_below counts names p ns h,
    ) in
    let bounded : AllByRecursion (λ m. m < get_or counts p 0) all =
    (omega (arith, within.0, within.1), all_below counts names p ns h) in
    let short : length all ≤ get_or counts p 0 = length-le_from_distinct_below all (get_or counts p 0) distinct
    (λ q. member_below (get_or counts p 0) q all bounded) in
    omega (arith, short, length-below first ns)

-- a peer's list of free numbers has room for one more, while a leg has one of its numbers
pub room_for_one : {Q : Type 0} (items : Q → List ℕ) (capacity : Q → ℕ) (book : Book) (queues : List Q) (place : ℕ) (q : Q)
    (name : LegName)
    → book.free ≡ map items queues → IsBook book → get book.names name.number ≡ Some name → place ≡ name.peer
    → place < length queues
    → q ≡ get_or queues place q → ((peer : ℕ) → get_or book.counts peer 0 ≤ get_or (map capacity queues) peer 0)
    → length (items q) < capacity q
room_for_one items capacity book queues place q name free sound has at lt there room =
    let own : IsNumberOf book.counts name.peer name.number = (sound.placed name.number name has).1 in
    let listed : items q ≡ free_of book name.peer =
    sym (get_or-map_read items queues place q [] lt there) ∙ ap (get_or (map items queues) place) refl
    ∙ ap (λ ns. get_or ns place []) (sym free) ∙ ap (free_of book) at in
    let fits : capacity q ≡ get_or (map capacity queues) name.peer 0 = sym (get_or-map_read capacity queues place q 0 lt there)
    ∙ ap (λ i. get_or (map capacity queues) i 0) at in
    let fewer : length (free_of book name.peer) < get_or book.counts name.peer 0 =
    fewer_free book.counts book.names name.peer name.number (free_of book name.peer) own (rw has refl) (sound.free name.peer) in
    omega (arith, room name.peer, ap length listed)

-- an element in place of another of the same measure
pub room_kept : {Q : Type 0} (capacity : Q → ℕ) (queues : List Q) (place : ℕ) (old new : Q) → place < length queues
    → old ≡ get_or queues place old → capacity new ≡ capacity old
    → map capacity (set queues place new) ≡ map capacity queues
room_kept capacity [] place old new lt at same = refl
room_kept capacity (q ∷ queues) zero old new lt at same = let e : capacity new ≡ capacity q = same ∙ ap capacity at in
    λ i. e i ∷ map capacity queues
room_kept capacity (q ∷ queues) (suc place) old new lt at same =
    ap (λ cs. capacity q ∷ cs) (room_kept capacity queues place old new (omega arith) at same)

-- ---- a fresh book

ranges_at : (first : ℕ) (counts : List ℕ) (p s : ℕ) → s + 1 ≡ first + first_number counts p
    → get_or (ranges_from first counts) p [] ≡ range_with_len s (get_or counts p 0)
ranges_at first [] p s e = refl
ranges_at first (c ∷ cs) zero s e = let same : first ≡ s = omega arith in ap (λ f. range_with_len f c) same
ranges_at first (c ∷ cs) (suc p) s e = ranges_at (first + c) cs p s (omega arith)

later : (s t count : ℕ) → s < t → AllByRecursion (λ m. m ≢ s) (range_with_len t count)
later s t zero lt = tt
later s t (suc count) lt = (omega arith, later s (t + 1) count (omega arith))

free_range : (counts : List ℕ) (p s count : ℕ) → first_number counts p ≤ s → s + count ≤ first_number counts p + get_or counts p 0
    → AreFree counts empty p (range_with_len s count)
free_range counts p s zero least most = tt
free_range counts p s (suc count) least most = (
  (least, omega arith),
  get-empty nat_cmp s,
  later s (s + 1) count (omega arith),
  free_range counts p (s + 1) count
      (omega arith) (omega arith),
)

in_range : (s count n : ℕ) → s ≤ n → n < s + count → Contains (range_with_len s count) n
in_range s count n least most =
    let i = n - s in
    let within : i < count = omega arith in
    let at : s + i ≡ n = omega arith in
    (i, rw (length-range_with_len s count) within, get_or-range_with_len s count i n within ∙ at)

length-ranges_from : (first : ℕ) (counts : List ℕ) → length (ranges_from first counts) ≡ length counts
length-ranges_from first [] = refl
length-ranges_from first (c ∷ cs) = ap suc (length-ranges_from (first + c) cs)

nothing_in : {A : Type 0} (n : ℕ) (a : A) → get (empty {X = A} {R = nat_cmp}) n ≡ Some a → ⊥
nothing_in n a e = let both : None ≡ Some a = sym (get-empty nat_cmp n) ∙ e in cc

range_of : (counts : List ℕ) (p : ℕ) → get_or (ranges_from 1 counts) p [] ≡ range_with_len (first_number counts p)
    (get_or counts p 0)
range_of counts p = ranges_at 1 counts p (first_number counts p) (omega arith)

pub fresh_is_book : (counts : List ℕ) (serial : ℕ) → total_of counts ≤ 32 * 512 → IsBook (fresh_book counts serial)
fresh_is_book counts serial limit =
    record {
      limit = limit;
      peers = length-ranges_from 1 counts;
      placed = λ n a e. absurd (nothing_in n a e);
      serials = λ m n a b ea eb same. absurd (nothing_in m a ea);
      paired = λ n b e. absurd (nothing_in n b e);
      free = λ p. rw (range_of counts p) (free_range counts p (first_number counts p) (get_or counts p 0) (omega arith)
          (omega arith));
      every = λ p n within none. rw (range_of counts p) (in_range (first_number counts p) (get_or counts p 0) n within.0
          within.1);
    }

-- ---- making a fresh book

pub one_more_number : (first count : ℕ) → range_with_len first (suc count) ≡ range_with_len first count ++ (first + count) ∷ []
one_more_number first zero = let same : first ≡ first + 0 = omega arith in ap (λ n. n ∷ []) same
one_more_number first (suc count) =
    let rest = one_more_number (first + 1) count in
    let same : first + 1 + count ≡ first + suc count = omega arith in
    ap (λ ns. first ∷ ns) (rest ∙ ap (λ n. range_with_len (first + 1) count ++ n ∷ []) same)

pub ranges-push : (first : ℕ) (counts : List ℕ) (count : ℕ) → ranges_from first (counts ++ count ∷ []) ≡ ranges_from first counts
    ++ range_with_len (first + total_of counts) count ∷ []
ranges-push first [] count = let same : first ≡ first + 0 = omega arith in ap (λ n. range_with_len n count ∷ []) same
ranges-push first (c ∷ cs) count =
    let same : first + c + total_of cs ≡ first + (c + total_of cs) = omega arith in
    ap (λ rs. range_with_len first c ∷ rs) (ranges-push (first + c) cs count
    ∙ ap (λ n. ranges_from (first + c) cs ++ range_with_len n count ∷ []) same)

-- one more peer
pub one_more_range : {Q : Type 0} (items : Q → List ℕ) (capacity : Q → ℕ) (before after : List Q) (queue : Q) (counts : List ℕ)
    (i first count : ℕ)
    → after ≡ before ++ queue ∷ [] → i < length counts → count ≡ get_or counts i 0 → items queue ≡ range_with_len first count
    → capacity queue ≡ count
    → map items before ≡ ranges_from 1 (take i counts) → map capacity before ≡ take i counts
    → first ≡ 1 + total_of (take i counts)
    → (map items after ≡ ranges_from 1 (take (i + 1) counts)) × (map capacity after ≡ take (i + 1) counts) ×
    (first + count ≡ 1 + total_of (take (i + 1) counts))
one_more_range items capacity before after queue counts i first count grown lt at ranged fits listed roomy so_far =
    let more : take (i + 1) counts ≡ take i counts ++ count ∷ [] = take_more counts i 0 lt ∙ ap (λ n. take i counts ++ n ∷ [])
    (sym at) in
    let total : first + count ≡ 1 + total_of (take i counts ++ count ∷ []) =
    omega (arith, so_far, total-push (take i counts) count) in
    let ranges : map items after ≡ ranges_from 1 (take i counts ++ count ∷ []) =
    rw (grown, map-append items before (queue ∷ []), listed, ranged, so_far, ranges-push 1 (take i counts) count) refl in
    let rooms : map capacity after ≡ take i counts ++ count ∷ [] = rw (
      grown,
      map-append capacity before (queue ∷ []),
      roomy,
      fits,
    ) refl in
    rw more (ranges, rooms, total)
