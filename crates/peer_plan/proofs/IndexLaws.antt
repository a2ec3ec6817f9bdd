-- Searching a sorted index of routes.
use Rattle.std.proofs.Common.{◌≡◌, ◌≢◌, ℕ, zero, suc, ◌+◌, ◌-◌, ◌<◌, ◌≤◌, Bool, true, false, cond, ◌&&◌, List, [], ◌∷◌, length}
use Rattle.std.proofs.Common.{get_or, Option, Some, None, Result, Ok, Err, Ordering, Less, Equal, Greater, is_lt, is_eq, nat_cmp}
use Rattle.std.proofs.Common.{refl, sym, ap, subst, ◌∙◌, ⊎_elim, arith}
use Rattle.std.specs.Prelude.{All, Contains, IfSome, IfNone, is_some, nat_eq}
use Rattle.std.specs.Cmp.{IsTotalOrder, IsStrictWeakOrder}
use Rattle.std.specs.Cmp.Lexicographic.{slice_cmp, options_total}
use Rattle.std.specs.List.{list_any, range_with_len}
use Rattle.std.specs.List.Sorted.{IsPermutation, IsSortedBy, IsSearchInRange, IsBinarySearchResult}
use Rattle.std.specs.Option.{option_cmp, option_eq}
use Rattle.std.specs.Ordering.{ordering_then, ordering_reverse}
use Rattle.std.specs.Result.{MatchResult}
use Rattle.std.specs.Str.{bytes_eq}
use Rattle.std.proofs.lemmas.Bool.{true≢false, cases_lt}
use Rattle.std.proofs.lemmas.Bool.Decides.{nat_tests}
use Rattle.std.proofs.lemmas.Cmp.{ranked, tied_itself, nat_cmp_total, nat_list_cmp_total, on_total, then_total}
use Rattle.std.proofs.lemmas.List.{get_or_default}
use Rattle.std.proofs.lemmas.List.Folds.{list_any_at, list_any_none, Any-from_list_any}
use Rattle.std.proofs.lemmas.List.FromFn.{length-range_with_len, get_or-range_with_len}
use Rattle.std.proofs.lemmas.List.Sorted.{All-permutation, list_any-IsPermutation, ranks_by, searchable_from_sorted, sorted_far}
use Rattle.std.proofs.lemmas.Map.Keys.{IsDistinct-from_apart, IsDistinct-IsPermutation, apart_from_distinct}
use Rattle.std.proofs.lemmas.Slice.Eq.{bytes_eq-Decides}
use Rattle.peer_plan.specs.declared.route.Route.{Route}
use Rattle.peer_plan.specs.Reading.{is_way, has_way, has_same_way}
use Rattle.peer_plan.specs.RouteIndex.{Way, way_of, way_at, way_cmp, IsIndex}

-- ---- the order of prefixes and sources

pub way_total : IsTotalOrder way_cmp
way_total = then_total (on_total (λ (way : Way). way.0) nat_list_cmp_total)
    (on_total (λ (way : Way). way.1) (options_total nat_cmp_total))

-- by which places are sorted
abbrev pub is_before : List Route → ℕ → ℕ → Bool
is_before routes place other = is_lt (way_cmp (way_at routes place) (way_at routes other))

pub before_is_order : (routes : List Route) → IsStrictWeakOrder (is_before routes)
before_is_order routes = ranks_by way_total (way_at routes)

both_equal : (a b : Ordering) → ordering_then a b ≡ Equal → (a ≡ Equal) × (b ≡ Equal)
both_equal Less b h = cc
both_equal Equal b h = (refl, h)
both_equal Greater b h = cc

same_octets : (xs ys : List ℕ) → slice_cmp nat_cmp xs ys ≡ Equal → xs ≡ ys
same_octets [] [] h = refl
same_octets [] (y ∷ ys) h = cc
same_octets (x ∷ xs) [] h = cc
same_octets (x ∷ xs) (y ∷ ys) h =
    let both = both_equal (nat_cmp x y) (slice_cmp nat_cmp xs ys) h in
    let first : x ≡ y = ranked x y Equal (sym both.0) in
    let rest = same_octets xs ys both.1 in
    λ i. first i ∷ rest i

same_option : (a b : Option ℕ) → option_cmp nat_cmp a b ≡ Equal → a ≡ b
same_option None None h = refl
same_option None (Some y) h = cc
same_option (Some x) None h = cc
same_option (Some x) (Some y) h = ap Some (ranked x y Equal (sym h))

pub same_way : (way other : Way) → way_cmp way other ≡ Equal → way ≡ other
same_way way other h =
    let both = both_equal (slice_cmp nat_cmp way.0 other.0) (option_cmp nat_cmp way.1 other.1) h in
    let prefix = same_octets way.0 other.0 both.0 in
    let source = same_option way.1 other.1 both.1 in
    λ i. (prefix i, source i)

-- ---- a sorted list of all places

pub index_from_sort : (routes : List Route) (n : ℕ) (index : List ℕ) → n ≡ length routes
    → IsPermutation (range_with_len 0 n) index → IsSortedBy (is_before routes) index → IsIndex routes index
index_from_sort routes n index long moved up =
    let all = range_with_len 0 n in
    let len = length-range_with_len 0 n in
    record {
      within = All-permutation (λ place. place < length routes) all index moved (λ k d lt. let at = get_or-range_with_len 0 n k d
          (omega (arith, len, lt)) in omega (arith, at, len, lt, long));
      whole = λ place lt.
          let at = get_or-range_with_len 0 n place 0 (omega (arith, long, lt)) in
          sym (list_any-IsPermutation (nat_eq place) all index moved) ∙ list_any_at (nat_eq place) all place 0
          (omega (arith, len, long, lt)) (grind (arith, nat_tests, at));
      once = IsDistinct-IsPermutation nat_eq (λ x y. grind (arith, nat_tests)) all index moved
          (IsDistinct-from_apart nat_eq all (λ i j d before lt.
          let one = get_or-range_with_len 0 n i d (omega (arith, len, lt, before)) in
          let two = get_or-range_with_len 0 n j d (omega (arith, len, lt)) in
          grind (arith, nat_tests, one, two, before)));
      sorted = up;
    }

-- the place of the index that has a place of the routes
pub listed : (routes : List Route) (index : List ℕ) (place : ℕ) → IsIndex routes index → place < length routes → (at : ℕ) ×
    (at < length index) × (get_or index at 0 ≡ place)
listed routes index place is lt =
    let any = Any-from_list_any (nat_eq place) index (is.whole place lt) in
    let is_place : place ≡ any.1 = grind (arith, nat_tests, any.4) in
    (any.0, any.2, get_or_default index any.0 0 any.1 any.2 ∙ any.3 ∙ sym is_place)

-- ---- looking up

-- the outcome of a search for a prefix and a source
abbrev pub Found : List Route → List ℕ → Way → Result ℕ ℕ → Type 0
Found routes index way r =
    MatchResult r (λ at. (at < length index) × (get_or index at 0 < length routes) × (way_at routes (get_or index at 0) ≡ way))
    (λ _. (place : ℕ) → place < length routes → way_at routes place ≢ way)

pub found_way : (routes : List Route) (index : List ℕ) (way : Way) (r : Result ℕ ℕ) → IsIndex routes index
    → IsSearchInRange r (length index) → IsBinarySearchResult (λ place. way_cmp (way_at routes place) way) index r
    → Found routes index way r
found_way routes index way (Ok at) is range equal = (
  range,
  is.within at 0 range,
  same_way (way_at routes (get_or index at 0)) way
      (equal 0),
)
found_way routes index way (Err at) is range parted = λ place lt same.
    let here = listed routes index place is lt in
    let tied : way_cmp (way_at routes (get_or index here.0 0)) way ≡ Equal = ap (λ p. way_cmp (way_at routes p) way) here.2
    ∙ ap (λ w. way_cmp w way) same ∙ tied_itself way_total way in
    let parts = parted (searchable_from_sorted way_total (way_at routes) index way is.sorted) in
    ⊎_elim
    (λ below. let less = parts.0 here.0 0 (omega arith) below in cc)
    (λ above. let greater = parts.1 here.0 0 above here.1 in cc)
    (cases_lt here.0 at)

-- the route at a place
pub way_here : (routes : List Route) (place : ℕ) (d : Route) → place < length routes
    → way_at routes place ≡ ((get_or routes place d).prefix, (get_or routes place d).source)
way_here [] place d lt = absurd (omega arith)
way_here (route ∷ routes) zero d lt = refl
way_here (route ∷ routes) (suc place) d lt = way_here routes place d (omega arith)

-- ---- routes of one prefix and one source

source_is : (a b : Option ℕ) → option_eq nat_eq a b ≡ true → a ≡ b
source_is None None h = refl
source_is None (Some y) h = cc
source_is (Some x) None h = cc
source_is (Some x) (Some y) h = ap Some (grind (arith, nat_tests, h))

source_test : (a b : Option ℕ) → a ≡ b → option_eq nat_eq a b ≡ true
source_test None b h = subst (λ o. option_eq nat_eq None o ≡ true) h refl
source_test (Some n) b h = subst (λ o. option_eq nat_eq (Some n) o ≡ true) h (grind (arith, nat_tests))

both : (a b : Bool) → (a && b) ≡ true → (a ≡ true) × (b ≡ true)
both true true h = (refl, refl)
both true false h = cc
both false b h = cc

and_true : (a b : Bool) → a ≡ true → b ≡ true → (a && b) ≡ true
and_true true true h k = refl
and_true true false h k = k
and_true false b h k = h

abbrev AreSame : Route → List ℕ → Option ℕ → Type 0
AreSame route prefix source = (route.prefix ≡ prefix) × (route.source ≡ source)

test_is : (route : Route) (prefix : List ℕ) (source : Option ℕ) → is_way prefix source route ≡ true → AreSame route prefix source
test_is route prefix source h =
    let parts = both (bytes_eq route.prefix prefix) (option_eq nat_eq route.source source) h in
    ((bytes_eq-Decides route.prefix prefix).0 parts.0, source_is route.source source parts.1)

test_of : (route : Route) (prefix : List ℕ) (source : Option ℕ) → AreSame route prefix source → is_way prefix source route ≡ true
test_of route prefix source same =
    and_true (bytes_eq route.prefix prefix) (option_eq nat_eq route.source source) ((bytes_eq-Decides route.prefix prefix).1
    same.0) (source_test route.source source same.1)

-- a search says whether there is one
pub has_if_found : {A : Type 0} (found : Option A) (now : A → Route) (routes : List Route) (prefix : List ℕ) (source : Option ℕ)
    → IfSome found (λ a. Contains routes (now a) × ((now a).prefix ≡ prefix) × ((now a).source ≡ source))
    → IfNone found (All (λ route. route.prefix ≡ prefix → route.source ≢ source) routes)
    → is_some found ≡ has_way prefix source routes
has_if_found (Some a) now routes prefix source there none =
    let listed = there.0 in
    let same = test_of (now a) prefix source (there.1, there.2) in
    sym (list_any_at (is_way prefix source) routes listed.0 (now a) listed.1 (ap (is_way prefix source) listed.2 ∙ same))
has_if_found None now routes prefix source there none =
    sym (list_any_none (is_way prefix source) routes (λ k d lt. go (get_or routes k d) (is_way prefix source (get_or routes k d))
    refl (none k d lt)))
  where
    go : (route : Route) (b : Bool) → is_way prefix source route ≡ b → (route.prefix ≡ prefix → route.source ≢ source)
        → is_way prefix source route ≡ false
    go route true is differ = let same = test_is route prefix source is in absurd (differ same.0 same.1)
    go route false is differ = is

-- two places of the routes whose prefix and source are the same
pub record HasTwo (routes : List Route) : Type 0 where
  pub first : ℕ
  pub second : ℕ
  pub before : first < second
  pub within : second < length routes
  pub same : way_at routes first ≡ way_at routes second

two_behind : (route : Route) (routes : List Route) → HasTwo routes → HasTwo (route ∷ routes)
two_behind route routes two = record {
  first = suc two.first;
  second = suc two.second;
  before = omega (arith, two.before);
  within = omega (arith, two.within);
  same = two.same;
}

two_here : (route : Route) (routes : List Route) → list_any (λ other. is_way other.prefix other.source route) routes ≡ true
    → HasTwo (route ∷ routes)
two_here route routes h =
    let any = Any-from_list_any (λ other. is_way other.prefix other.source route) routes h in
    let same = test_is route any.1.prefix any.1.source any.4 in
    let there : way_at routes any.0 ≡ (any.1.prefix, any.1.source) = way_here routes any.0 any.1 any.2
    ∙ ap (λ (r : Route). (r.prefix, r.source)) any.3 in
    let pair : way_of (Some route) ≡ way_of (Some any.1) = λ i. (same.0 i, same.1 i) in
    record { first = 0; second = suc any.0; before = omega arith; within = omega (arith, any.2); same = pair ∙ sym there }

pub two_from_same : (routes : List Route) → has_same_way routes ≡ true → HasTwo routes
two_from_same [] h = absurd (true≢false (sym h))
two_from_same (route ∷ routes) h = go (list_any (λ other. is_way other.prefix other.source route) routes) refl h
    (λ same. two_from_same routes same)
  where
    go : (b : Bool) → list_any (λ other. is_way other.prefix other.source route) routes ≡ b → cond b true (has_same_way routes)
        ≡ true → (has_same_way routes ≡ true → HasTwo routes) → HasTwo (route ∷ routes)
    go true is h rest = two_here route routes is
    go false is h rest = two_behind route routes (rest h)

same_here : (route : Route) (routes : List Route) (place : ℕ) → place < length routes
    → (route.prefix, route.source) ≡ way_at routes place → list_any (λ other. is_way other.prefix other.source route) routes
    ≡ true
same_here route routes place lt same =
    let there = same ∙ way_here routes place route lt in
    list_any_at (λ other. is_way other.prefix other.source route) routes place route lt
    (test_of route (get_or routes place route).prefix (get_or routes place route).source (
      ap (λ (way : Way). way.0) there,
      ap (λ (way : Way). way.1) there,
    ))

pub same_from_two : (routes : List Route) (first second : ℕ) → first < second → second < length routes
    → way_at routes first ≡ way_at routes second → has_same_way routes ≡ true
same_from_two [] first second before lt same = absurd (omega arith)
same_from_two (route ∷ routes) first zero before lt same = absurd (omega arith)
same_from_two (route ∷ routes) zero (suc second) before lt same =
    ap (λ b. cond b true (has_same_way routes)) (same_here route routes second (omega arith) same)
same_from_two (route ∷ routes) (suc first) (suc second) before lt same =
    go (list_any (λ other. is_way other.prefix other.source route) routes) (same_from_two routes first second (omega arith)
    (omega arith) same)
  where
    go : (b : Bool) → has_same_way routes ≡ true → cond b true (has_same_way routes) ≡ true
    go true h = refl
    go false h = h

-- ---- neighbours in an index

pub neighbours_same : (routes : List Route) (index : List ℕ) (at : ℕ) → IsIndex routes index → 0 < at → at < length index
    → way_cmp (way_at routes (get_or index at 0)) (way_at routes (get_or index (at - 1) 0)) ≡ Equal → has_same_way routes ≡ true
neighbours_same routes index at is more lt h =
    let a = get_or index (at - 1) 0 in
    let b = get_or index at 0 in
    let same : way_at routes b ≡ way_at routes a = same_way (way_at routes b) (way_at routes a) h in
    let apart : nat_eq a b ≡ false = apart_from_distinct nat_eq index (at - 1) at 0 is.once (omega arith) lt in
    let differ : a ≢ b = λ e. grind (arith, nat_tests, apart, e) in
    let low : a < length routes = is.within (at - 1) 0 (omega arith) in
    let high : b < length routes = is.within at 0 lt in
    ⊎_elim
    (λ before. same_from_two routes a b before high (sym same))
    (λ behind. same_from_two routes b a (omega (arith, behind, differ)) low same)
    (cases_lt a b)

pub equal_from : (o : Ordering) → is_eq o ≡ true → o ≡ Equal
equal_from Less h = absurd (true≢false (sym h))
equal_from Equal h = refl
equal_from Greater h = absurd (true≢false (sym h))

-- one that isn't below and isn't the same is above
above : (a b : Way) → is_lt (way_cmp b a) ≡ false → (way_cmp b a ≡ Equal → ⊥) → way_cmp a b ≡ Less
above a b low differ = go (way_cmp b a) refl low differ
  where
    go : (o : Ordering) → way_cmp b a ≡ o → is_lt o ≡ false → (o ≡ Equal → ⊥) → way_cmp a b ≡ Less
    go Less is low differ = absurd (true≢false low)
    go Equal is low differ = absurd (differ refl)
    go Greater is low differ = way_total.antisymm a b ∙ ap ordering_reverse is

-- neighbours that differ
abbrev pub Differ : List Route → List ℕ → ℕ → Type 0
Differ routes index n = (at : ℕ) → 0 < at → at < n → way_cmp (way_at routes (get_or index at 0))
    (way_at routes (get_or index (at - 1) 0)) ≡ Equal → ⊥

far_differ : (routes : List Route) (index : List ℕ) (p q : ℕ) → IsIndex routes index → Differ routes index (length index) → p < q
    → q < length index → way_at routes (get_or index p 0) ≢ way_at routes (get_or index q 0)
far_differ routes index p q is differ before lt same =
    let a = way_at routes (get_or index p 0) in
    let b = way_at routes (get_or index (p + 1) 0) in
    let c = way_at routes (get_or index q 0) in
    let down : p + 1 - 1 ≡ p = omega arith in
    let next : way_cmp b a ≡ Equal → ⊥ = λ e. differ (p + 1) (omega arith) (omega arith)
    (subst (λ n. way_cmp b (way_at routes (get_or index n 0)) ≡ Equal) (sym down) e) in
    let low : is_lt (way_cmp b a) ≡ false = sorted_far (is_before routes) (before_is_order routes) index is.sorted p (p + 1) 0
    (omega arith) (omega arith) in
    let less : way_cmp a b ≡ Less = above a b low next in
    let far : is_lt (way_cmp c b) ≡ false = sorted_far (is_before routes) (before_is_order routes) index is.sorted (p + 1) q 0
    (omega arith) lt in
    true≢false (sym (ap is_lt (sym (ap (λ w. way_cmp w b) same) ∙ less)) ∙ far)

pub neighbours_differ : (routes : List Route) (index : List ℕ) (n : ℕ) → IsIndex routes index → length index ≤ n
    → Differ routes index n → has_same_way routes ≡ false
neighbours_differ routes index n is le apart = go (has_same_way routes) refl
  where
    none : HasTwo routes → ⊥
    none two =
        let one = listed routes index two.first is (omega (arith, two.before, two.within)) in
        let other = listed routes index two.second is two.within in
        let differ : Differ routes index (length index) = λ at more lt. apart at more (omega (arith, le, lt)) in
        let same : way_at routes (get_or index one.0 0) ≡ way_at routes (get_or index other.0 0) = ap (way_at routes) one.2
        ∙ two.same ∙ sym (ap (way_at routes) other.2) in
        let places : one.0 ≢ other.0 = λ e. let same_place : two.first ≡ two.second = sym one.2 ∙ ap (λ k. get_or index k 0) e
        ∙ other.2 in omega (arith, two.before, same_place) in
        ⊎_elim
        (λ before. far_differ routes index one.0 other.0 is differ before other.1 same)
        (λ behind. far_differ routes index other.0 one.0 is differ (omega (arith, behind, places)) one.1 (sym same))
        (cases_lt one.0 other.0)

    go : (b : Bool) → has_same_way routes ≡ b → has_same_way routes ≡ false
    go true h = absurd (none (two_from_same routes h))
    go false h = h
