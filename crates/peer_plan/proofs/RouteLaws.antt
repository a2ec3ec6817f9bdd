-- The nearest of the routes.
use Rattle.std.proofs.Common.{◌≡◌, ◌≢◌, ℕ, ◌<◌, ◌≤◌, ◌+◌, ◌*◌, Bool, true, false, not, cond, ◌&&◌, ◌==◌, List, length, get_or}
use Rattle.std.proofs.Common.{Option, None, Some, Result, Ok, Err, take, min, refl, sym, ap, subst, ◌∙◌, ⊎_elim, arith, is_some, length-take}
use Rattle.std.specs.Prelude.{All, Contains}
use Rattle.std.specs.List.{AllPairs}
use Rattle.std.proofs.lemmas.Bool.{true≢false, cases_lt, cases_order}
use Rattle.std.proofs.lemmas.List.{get_or_default}
use Rattle.std.proofs.lemmas.Bool.Decides.{nat_tests}
use Rattle.std.proofs.Common.{length-take-le}
use Rattle.std.proofs.lemmas.Slice.Eq.{bytes_eq-Decides}
use Rattle.toml.specs.Data.{Members, get_member}
use Rattle.peer_plan.specs.declared.key.Key.TheVariants as key
use Rattle.peer_plan.specs.declared.peer.Peer.{Peer}
use Rattle.peer_plan.specs.declared.route.Route.{Route}
use Rattle.peer_plan.specs.Keys.{key_name}
use Rattle.peer_plan.specs.Fields.{value}
use Rattle.peer_plan.specs.Plan.{begins, is_for, is_open_to, fits, nearness, AreApart, IsLongest, IsNearest, PlanView}
use Rattle.peer_plan.specs.Reading.{limits_in, passes_in, peers_in, plan_format, plan_in, routes_in, source_at, source_in, workers_in}
use Rattle.peer_plan.specs.UnknownKeys.{known_in}
use Rattle.peer_plan.specs.declared.error.PlanError.{PlanError}
use Rattle.peer_plan.specs.declared.error.PlanError.TheVariants as error
use Rattle.peer_plan.proofs.ReadingLaws.{bound}

-- ---- with an index

-- no route that a call may take has a longer prefix
abbrev pub FitWithin : Bool → List Route → ℕ → List ℕ → ℕ → Type 0
FitWithin avoids_return routes caller text n =
    All (λ route. fits avoids_return caller text route ≡ true → length route.prefix ≤ n) routes

-- the route found among those of one prefix
pub record IsFound (avoids_return : Bool) (routes : List Route) (caller : ℕ) (prefix : List ℕ) (route : Route) : Type 0 where
  pub listed : Contains routes route
  pub prefix_is : route.prefix ≡ prefix
  pub open_to : is_open_to avoids_return caller route ≡ true
  pub nearest : All (λ other. other.prefix ≡ prefix → is_open_to avoids_return caller other ≡ true
      → nearness other ≤ nearness route) routes

fit_parts : (avoids_return : Bool) (caller : ℕ) (text : List ℕ) (route : Route) → fits avoids_return caller text route ≡ true
    → (begins text route ≡ true) × (is_open_to avoids_return caller route ≡ true)
unfolding fits
fit_parts avoids_return caller text route h = go (begins text route) (is_open_to avoids_return caller route) h
  where
    go : (a b : Bool) → (a && b) ≡ true → (a ≡ true) × (b ≡ true)
    go true b h = (refl, h)
    go false b h = absurd (true≢false (sym h))

fit_from : (avoids_return : Bool) (caller : ℕ) (text : List ℕ) (route : Route) → begins text route ≡ true
    → is_open_to avoids_return caller route ≡ true → fits avoids_return caller text route ≡ true
unfolding fits
fit_from avoids_return caller text route h open_to = go (begins text route) (is_open_to avoids_return caller route) h open_to
  where
    go : (a b : Bool) → a ≡ true → b ≡ true → (a && b) ≡ true
    go true b h k = k
    go false b h k = h

-- a prefix begins a text if it is its first octets
begins_is : (text : List ℕ) (route : Route) → begins text route ≡ true → route.prefix ≡ take (length route.prefix) text
begins_is text route h = (bytes_eq-Decides route.prefix (take (length route.prefix) text)).0 h

begins_from : (text : List ℕ) (route : Route) (n : ℕ) → n ≤ length text → route.prefix ≡ take n text → begins text route ≡ true
begins_from text route n le same =
    let long : length route.prefix ≡ n = ap length same ∙ length-take-le n text le in
    (bytes_eq-Decides route.prefix (take (length route.prefix) text)).1 (same ∙ ap (λ k. take k text) (sym long))

begins_fits : (text : List ℕ) (route : Route) → begins text route ≡ true → length route.prefix ≤ length text
begins_fits text route h = let is : length route.prefix ≡ min (length route.prefix) (length text) =
    ap length (begins_is text route h) ∙ length-take (length route.prefix) text in omega (arith, is)

pub fit_within_first : (avoids_return : Bool) (routes : List Route) (caller : ℕ) (text : List ℕ) (longest n : ℕ)
    → All (λ route. length route.prefix ≤ longest) routes → n ≡ min longest (length text)
    → FitWithin avoids_return routes caller text n
fit_within_first avoids_return routes caller text longest n most is = λ k d lt fit.
    let le = begins_fits text (get_or routes k d) (fit_parts avoids_return caller text (get_or routes k d) fit).0 in
    grind (arith, most k d lt, le, is)

nearness_least : (route : Route) → 2 * length route.prefix ≤ nearness route
nearness_least route = omega arith

nearness_most : (route : Route) → nearness route ≤ 2 * length route.prefix + 1
nearness_most route = go (is_some route.source)
  where
    go : (b : Bool) → 2 * length route.prefix + cond b 1 0 ≤ 2 * length route.prefix + 1
    go true = omega arith
    go false = omega arith

pub nearest_found : (avoids_return : Bool) (routes : List Route) (caller : ℕ) (text : List ℕ) (n : ℕ) (route : Route)
    → n ≤ length text → FitWithin avoids_return routes caller text n → IsFound avoids_return routes caller (take n text) route
    → IsNearest avoids_return routes caller text route
nearest_found avoids_return routes caller text n route le within found =
    let long : length route.prefix ≡ n = ap length found.prefix_is ∙ length-take-le n text le in
    record {
      listed = found.listed;
      fitting = fit_from avoids_return caller text route (begins_from text route n le found.prefix_is) found.open_to;
      nearest = λ k d lt fit.
          let other = get_or routes k d in
          let parts = fit_parts avoids_return caller text other fit in
          let most : length other.prefix ≤ n = within k d lt fit in
          ⊎_elim
          (λ less. omega (arith, less, long, nearness_most other, nearness_least route))
          (λ more. let same : length other.prefix ≡ n = omega (arith, more, most) in
          found.nearest k d lt (begins_is text other parts.0 ∙ ap (λ m. take m text) same) parts.1)
          (cases_lt (length other.prefix) n);
    }

-- no route of this prefix may be taken
pub not_so_long : (avoids_return : Bool) (routes : List Route) (caller : ℕ) (text : List ℕ) (n : ℕ)
    → FitWithin avoids_return routes caller text n
    → All (λ route. route.prefix ≡ take n text → is_open_to avoids_return caller route ≡ false) routes
    → All (λ route. fits avoids_return caller text route ≡ true → length route.prefix < n) routes
not_so_long avoids_return routes caller text n within none = λ k d lt fit.
    let other = get_or routes k d in
    let parts = fit_parts avoids_return caller text other fit in
    let most : length other.prefix ≤ n = within k d lt fit in
    ⊎_elim
    (λ less. less)
    (λ more. let same : length other.prefix ≡ n = omega (arith, more, most) in
    absurd (true≢false (sym parts.1 ∙ none k d lt (begins_is text other parts.0 ∙ ap (λ m. take m text) same))))
    (cases_lt (length other.prefix) n)

pub none_fits : (avoids_return : Bool) (routes : List Route) (caller : ℕ) (text : List ℕ)
    → All (λ route. fits avoids_return caller text route ≡ true → length route.prefix < 0) routes
    → All (λ route. fits avoids_return caller text route ≡ false) routes
none_fits avoids_return routes caller text none = λ k d lt.
    go (get_or routes k d) (fits avoids_return caller text (get_or routes k d)) refl (none k d lt)
  where
    go : (route : Route) (b : Bool) → fits avoids_return caller text route ≡ b
        → (fits avoids_return caller text route ≡ true → length route.prefix < 0)
        → fits avoids_return caller text route ≡ false
    go route true is h = let no = h is in absurd (omega (arith, no))
    go route false is h = is

-- ---- routes that are apart

-- no other has its prefix and its source
pub only_one : (routes : List Route) (route : Route) → AllPairs AreApart routes → Contains routes route
    → All (λ other. other.prefix ≡ route.prefix → other.source ≡ route.source → other ≡ route) routes
only_one routes route ways listed = λ k d lt prefix source.
    let i = listed.0 in
    let here : get_or routes i d ≡ route = get_or_default routes i d route listed.1 ∙ listed.2 in
    ⊎_elim
    (λ same. ap (λ j. get_or routes j d) same ∙ here)
    (λ differ. ⊎_elim
    (λ before. absurd (ways k i d before listed.1 (prefix ∙ ap (λ (r : Route). r.prefix) (sym here))
    (source ∙ ap (λ (r : Route). r.source) (sym here))))
    (λ after. absurd (ways i k d after lt (ap (λ (r : Route). r.prefix) here ∙ sym prefix)
    (ap (λ (r : Route). r.source) here ∙ sym source))) differ)
    (cases_order k i)

-- a route for all that leads back to the caller isn't for its call
is_back : (caller : ℕ) (route : Route) → route.source ≡ None → route.peer ≡ caller → is_open_to true caller route ≡ false
is_back caller route none same =
    ap (is_for true caller route.peer) none ∙ go (route.peer == caller) (grind (arith, nat_tests, same))
  where
    go : (b : Bool) → b ≡ true → not (true && b) ≡ false
    go true h = refl
    go false h = absurd (true≢false (sym h))

pub none_for_all : (routes : List Route) (caller : ℕ) (route : Route) → AllPairs AreApart routes → Contains routes route
    → route.source ≡ None → route.peer ≡ caller
    → All (λ other. other.prefix ≡ route.prefix → other.source ≡ None → is_open_to true caller other ≡ false) routes
none_for_all routes caller route ways listed none same = λ k d lt prefix source.
    ap (is_open_to true caller) (only_one routes route ways listed k d lt prefix (source ∙ sym none))
    ∙ is_back caller route none same

-- a call goes back only by a route that names its caller
pub back_by_source : (routes : List Route) (caller : ℕ) (text : List ℕ) (route : Route)
    → IsNearest true routes caller text route → route.peer ≡ caller → route.source ≡ Some caller
back_by_source routes caller text route is same = go route.source refl
  where
    open_to : is_open_to true caller route ≡ true
    open_to = (fit_parts true caller text route is.fitting).1

    go : (source : Option ℕ) → route.source ≡ source → route.source ≡ Some caller
    go None none = absurd (true≢false (sym open_to ∙ is_back caller route none same))
    go (Some source) some =
        let named : (source == caller) ≡ true = sym (ap (is_for true caller route.peer) some) ∙ open_to in
        some ∙ ap Some (grind (arith, nat_tests, named))

-- ---- without sources

fit : (caller : ℕ) (text : List ℕ) (route : Route) → route.source ≡ None → begins text route ≡ true
    → fits false caller text route ≡ true
fit caller text route none h = fit_from false caller text route h (ap (is_for false caller route.peer) none)

by_length : (route : Route) → route.source ≡ None → nearness route ≡ 2 * length route.prefix + 0
by_length route none = ap (λ source. 2 * length route.prefix + cond (is_some source) 1 0) none

pub nearest_is_longest : (routes : List Route) (caller : ℕ) (text : List ℕ) (route : Route)
    → All (λ other. other.source ≡ None) routes → IsNearest false routes caller text route → IsLongest routes text route
nearest_is_longest routes caller text route none is =
    let here : route.source ≡ None = subst (λ r. r.source ≡ None) is.listed.2 (none is.listed.0 route is.listed.1) in
    record {
      listed = is.listed;
      starts = (fit_parts false caller text route is.fitting).0;
      longest = λ k d lt starts.
          let other : Route = get_or routes k d in
          let le = is.nearest k d lt (fit caller text other (none k d lt) starts) in
          omega (arith, le, by_length route here, by_length other (none k d lt));
    }

pub none_begins : (routes : List Route) (caller : ℕ) (text : List ℕ) → All (λ other. other.source ≡ None) routes
    → All (λ other. fits false caller text other ≡ false) routes → All (λ other. begins text other ≡ false) routes
none_begins routes caller text none unfit = λ k d lt. go (get_or routes k d) (begins text (get_or routes k d)) refl (none k d lt)
    (unfit k d lt)
  where
    go : (route : Route) (b : Bool) → begins text route ≡ b → route.source ≡ None → fits false caller text route ≡ false
        → begins text route ≡ false
    go route true is none unfit = absurd (true≢false (sym (fit caller text route none is) ∙ unfit))
    go route false is none unfit = is

pub unread_before : (format : ℕ) (peers : List Peer) (ms : Members) → format ≢ 4 → source_in format peers ms ≡ Ok None
unread_before format peers ms other = go (format == 4) refl
  where
    go : (b : Bool) → (format == 4) ≡ b → cond b (source_at peers (get_member (key_name key.Source) ms)) (Ok None) ≡ Ok None
    go true is = absurd (other (grind (arith, nat_tests)))
    go false is = refl

-- ---- the version

ok_same : {A : Type 0} (x y : A) (read : Result A PlanError) → read ≡ Ok x → read ≡ Ok y → x ≡ y
ok_same x y read h is = cc

pub avoided_in : (ms : Members) (format : ℕ) (plan : PlanView)
    → value ms key.Format (Err (error.Missing key.Format)) plan_format ≡ Ok format → plan_in ms ≡ Ok plan
    → plan.avoids_return ≡ (format == 4)
unfolding plan_in
avoided_in ms format plan is h =
    let a = bound (value ms key.Format (Err (error.Missing key.Format)) plan_format) _ plan h in
    let b = bound (limits_in a.0 ms) _ plan a.2 in
    let c = bound (workers_in ms) _ plan b.2 in
    let d = bound (passes_in (length c.0) ms) _ plan c.2 in
    let e = bound (peers_in a.0 b.0 (length c.0) ms) _ plan d.2 in
    let f = bound (routes_in a.0 e.0 ms) _ plan e.2 in
    let g = bound (known_in a.0 ms) _ plan f.2 in
    let read : PlanView = record { workers = c.0; passes = d.0; peers = e.0; routes = f.0; avoids_return = a.0 == 4 } in
    let made = ok_same read plan (Ok read) refl g.2 in
    sym (ap (λ (p : PlanView). p.avoids_return) made)
    ∙ ap (λ n. n == 4) (ok_same a.0 format (value ms key.Format (Err (error.Missing key.Format)) plan_format) a.1 is)
