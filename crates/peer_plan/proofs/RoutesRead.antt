-- Routes that are read one by one, and compared with one another afterwards.
use Rattle.std.proofs.Common.{◌≡◌, ℕ, ◌+◌, ◌≤◌, ◌<◌, Bool, true, false, cond, ◌||◌, List, [], ◌∷◌, ◌++◌, length, get_or, drop}
use Rattle.std.proofs.Common.{Some, None, Result, Ok, Err, refl, sym, ap, ◌∙◌}
use Rattle.std.specs.List.{list_any}
use Rattle.std.proofs.lemmas.List.{drop_all}
use Rattle.std.proofs.lemmas.List.Folds.{list_any-append}
use Rattle.toml.specs.Data.{Data, Members, table, item, Items, as_table, as_str}
use Rattle.toml.specs.View.{view, items_view}
use Rattle.toml.specs.declared.value.Value.{Value}
use Rattle.toml.proofs.Views.{items_view-drop}
use Rattle.peer_plan.specs.declared.key.Key.TheVariants as key
use Rattle.peer_plan.specs.declared.error.PlanError.{PlanError}
use Rattle.peer_plan.specs.declared.error.PlanError.TheVariants as error
use Rattle.peer_plan.specs.declared.peer.Peer.{Peer}
use Rattle.peer_plan.specs.declared.route.Route.{Route}
use Rattle.peer_plan.specs.Fields.{◌>>=◌, text_of, value, each}
use Rattle.peer_plan.specs.Plan.{is_prefix}
use Rattle.peer_plan.specs.Reading.{peer_named, source_in, is_way, has_way, has_same_way, new_route, route_in}
use Rattle.peer_plan.specs.ReadRoutes.{routes_apart}

-- ---- a route alone

bind_then : {A B C : Type 0} (m : Result A PlanError) (f : A → Result B PlanError) (g : A → Result C PlanError) (h : B
    → Result C PlanError) → ((x : A) → g x ≡ (f x >>= h)) → (m >>= g) ≡ ((m >>= f) >>= h)
bind_then (Ok x) f g h same = same x
bind_then (Err e) f g h same = refl

-- it is read as behind others, and compared with these at last
route_behind : (format : ℕ) (peers : List Peer) (before : List Route) (ms : Members) → route_in format peers before ms
    ≡ (route_in format peers [] ms >>= λ route. new_route before route.prefix route.source route.peer)
unfolding route_in
route_behind format peers before ms =
    let last : Route → Result Route PlanError = λ route. new_route before route.prefix route.source route.peer in
    bind_then (value ms key.Prefix (Err (error.Missing key.Prefix)) (text_of is_prefix)) _ _ last (λ prefix.
    bind_then (value ms key.Peer (Err (error.Missing key.Peer)) as_str) _ _ last (λ name.
    bind_then (peer_named peers name) _ _ last (λ peer.
    bind_then (source_in format peers ms) _ _ last (λ source. refl))))

-- ---- one more route

one_more : (here next same behind : Bool) → cond (here || (next || false)) true (same || behind)
    ≡ (cond here true same || (next || behind))
one_more true next same behind = refl
one_more false true true behind = refl
one_more false true false behind = refl
one_more false false same behind = refl

same_push : (routes : List Route) (route : Route) → has_same_way (routes ++ route ∷ [])
    ≡ (has_same_way routes || has_way route.prefix route.source routes)
same_push [] route = refl
same_push (first ∷ routes) route =
    let test : Route → Bool = λ other. is_way other.prefix other.source first in
    ap (λ b. cond b true (has_same_way (routes ++ route ∷ []))) (list_any-append test routes (route ∷ []))
    ∙ ap (λ b. cond (list_any test routes || (test route || false)) true b) (same_push routes route)
    ∙ one_more (list_any test routes) (test route) (has_same_way routes) (has_way route.prefix route.source routes)

-- ---- as a loop does

-- the outcome of a list of tables, by the routes that were read of it and the tables that are left
abbrev pub so_far : ℕ → List Peer → List Route → Items → Result (List Route) PlanError
so_far format peers routes rest = cond (has_same_way routes) (Err error.SameRoute) (each key.Route (route_in format peers) routes
    rest)

step : (same behind : Bool) (next : Route) (rest : Route → Result (List Route) PlanError)
    → cond same (Err error.SameRoute) (cond behind (Err error.SameRoute) (Ok next) >>= rest) ≡ cond (same || behind)
    (Err error.SameRoute) (rest next)
step true behind next rest = refl
step false true next rest = refl
step false false next rest = refl

pub goes_on : (format : ℕ) (peers : List Peer) (routes : List Route) (vs : List Value) (i : ℕ) (d : Value) (ms : Members)
    (next : Route) (total : Result (List Route) PlanError)
    → i < length vs → view (get_or vs i d) ≡ table ms → route_in format peers [] ms ≡ Ok next
    → total ≡ so_far format peers routes (items_view (drop i vs)) → total ≡ so_far format peers (routes ++ next ∷ [])
    (items_view (drop (i + 1) vs))
unfolding each
goes_on format peers routes vs i d ms next total lt is_table read is =
    let rest : Route → Result (List Route) PlanError = λ route. each key.Route (route_in format peers) (routes ++ route ∷ [])
    (items_view (drop (i + 1) vs)) in
    let one : each key.Route (route_in format peers) routes (items_view (drop i vs))
    ≡ (new_route routes next.prefix next.source next.peer >>= rest) =
    rw (items_view-drop vs i d lt, is_table, route_behind format peers routes ms, read) refl in
    is ∙ ap (λ r. cond (has_same_way routes) (Err error.SameRoute) r) one
    ∙ step (has_same_way routes) (has_way next.prefix next.source routes) next rest
    ∙ ap (λ b. cond b (Err error.SameRoute) (rest next)) (sym (same_push routes next))

pub ends_in : (format : ℕ) (peers : List Peer) (routes : List Route) (vs : List Value) (i : ℕ) (d : Value) (ms : Members)
    (fault : PlanError) (total : Result (List Route) PlanError)
    → i < length vs → view (get_or vs i d) ≡ table ms → route_in format peers [] ms ≡ Err fault
    → total ≡ so_far format peers routes (items_view (drop i vs)) → total ≡ routes_apart routes (Some fault)
unfolding each
ends_in format peers routes vs i d ms fault total lt is_table read is =
    let one : each key.Route (route_in format peers) routes (items_view (drop i vs)) ≡ Err fault =
    rw (items_view-drop vs i d lt, is_table, route_behind format peers routes ms, read) refl in
    is ∙ ap (λ r. cond (has_same_way routes) (Err error.SameRoute) r) one

wrong_kind : (format : ℕ) (peers : List Peer) (routes : List Route) (d : Data) (ds : Items) → as_table d ≡ None
    → each key.Route (route_in format peers) routes (item d ds) ≡ Err (error.Range key.Route)
unfolding each
wrong_kind format peers routes (table ms) ds h = cc
wrong_kind format peers routes _ ds h = refl

pub ends_at_no_table : (format : ℕ) (peers : List Peer) (routes : List Route) (vs : List Value) (i : ℕ) (d : Value)
    (total : Result (List Route) PlanError)
    → i < length vs → as_table (view (get_or vs i d)) ≡ None
    → total ≡ so_far format peers routes (items_view (drop i vs)) → total ≡ routes_apart routes (Some (error.Range key.Route))
ends_at_no_table format peers routes vs i d total lt h is =
    let one : each key.Route (route_in format peers) routes (items_view (drop i vs)) ≡ Err (error.Range key.Route) =
    rw (items_view-drop vs i d lt) (wrong_kind format peers routes _ _ h) in
    is ∙ ap (λ r. cond (has_same_way routes) (Err error.SameRoute) r) one

pub ends : (format : ℕ) (peers : List Peer) (routes : List Route) (vs : List Value) (i : ℕ)
    (total : Result (List Route) PlanError)
    → length vs ≤ i → total ≡ so_far format peers routes (items_view (drop i vs)) → total ≡ routes_apart routes None
unfolding each
ends format peers routes vs i total le is =
    let one : each key.Route (route_in format peers) routes (items_view (drop i vs)) ≡ Ok routes = rw (drop_all i vs le) refl in
    is ∙ ap (λ r. cond (has_same_way routes) (Err error.SameRoute) r) one
