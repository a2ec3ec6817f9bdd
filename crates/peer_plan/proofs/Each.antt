-- Reading the tables of a list one after the other, as a loop does.
use Rattle.std.proofs.Common.{◌≡◌, ℕ, ◌+◌, ◌≤◌, ◌<◌, List, [], ◌∷◌, ◌++◌, length, get_or, drop, Result, Ok, Err, Some, None, refl}
use Rattle.std.proofs.Common.{sym, ap, ◌∙◌}
use Rattle.toml.specs.Data.{Data, Members, table, item, Items, as_table}
use Rattle.toml.specs.View.{view, items_view}
use Rattle.toml.specs.declared.value.Value.{Value}
use Rattle.std.proofs.lemmas.List.{drop_all}
use Rattle.toml.proofs.Views.{items_view-drop}
use Rattle.peer_plan.specs.declared.key.Key.{Key}
use Rattle.peer_plan.specs.declared.error.PlanError.{PlanError}
use Rattle.peer_plan.specs.declared.error.PlanError.TheVariants as error
use Rattle.peer_plan.specs.Fields.{Fails, each}

pub each_goes_on : {A : Type 0} (k : Key) (read : List A → Members → Result A PlanError) (before : List A) (vs : List Value)
    (i : ℕ) (d : Value) (ms : Members) (next : A) (total : Result (List A) PlanError)
    → i < length vs → view (get_or vs i d) ≡ table ms → read before ms ≡ Ok next
    → each k read before (items_view (drop i vs)) ≡ total → each k read (before ++ next ∷ []) (items_view (drop (i + 1) vs))
    ≡ total
unfolding each
each_goes_on k read before vs i d ms next total lt is_table h so_far =
    let one : each k read before (items_view (drop i vs)) ≡ each k read (before ++ next ∷ []) (items_view (drop (i + 1) vs)) =
    rw (items_view-drop vs i d lt, is_table, h) refl in
    sym one ∙ so_far

one_fails : {A : Type 0} (e : PlanError) (k : Key) (read : List A → Members → Result A PlanError) (before : List A)
    (vs : List Value) (i : ℕ) (d : Value) (ms : Members)
    → i < length vs → view (get_or vs i d) ≡ table ms → read before ms ≡ Err e → each k read before (items_view (drop i vs))
    ≡ Err e
unfolding each
one_fails e k read before vs i d ms lt is_table h = rw (items_view-drop vs i d lt, is_table, h) refl

pub each_fails : {A : Type 0} (e : PlanError) (k : Key) (read : List A → Members → Result A PlanError) (before : List A)
    (vs : List Value) (i : ℕ) (d : Value) (ms : Members) (total : Result (List A) PlanError)
    → i < length vs → view (get_or vs i d) ≡ table ms → Fails e (read before ms)
    → each k read before (items_view (drop i vs)) ≡ total → Fails e total
each_fails error.Memory k read before vs i d ms total lt is_table h so_far = tt
each_fails e k read before vs i d ms total lt is_table h so_far = sym so_far ∙ one_fails e k read before vs i d ms lt is_table h

-- the meaning of as_table
pub table_from_as_table : (d : Data) (ms : Members) → as_table d ≡ Some ms → d ≡ table ms
table_from_as_table (table ns) ms h = ap table (cc)
table_from_as_table _ ms h = cc

wrong_kind : {A : Type 0} (k : Key) (read : List A → Members → Result A PlanError) (before : List A) (d : Data) (ds : Items)
    → as_table d ≡ None → each k read before (item d ds) ≡ Err (error.Range k)
unfolding each
wrong_kind k read before (table ms) ds h = cc
wrong_kind k read before _ ds h = refl

pub each_wrong_kind : {A : Type 0} (k : Key) (read : List A → Members → Result A PlanError) (before : List A) (vs : List Value)
    (i : ℕ) (d : Value) (total : Result (List A) PlanError)
    → i < length vs → as_table (view (get_or vs i d)) ≡ None → each k read before (items_view (drop i vs)) ≡ total
    → total ≡ Err (error.Range k)
each_wrong_kind k read before vs i d total lt h so_far =
    sym so_far ∙ rw (items_view-drop vs i d lt) (wrong_kind k read before _ _ h)

pub each_done : {A : Type 0} (k : Key) (read : List A → Members → Result A PlanError) (before : List A) (vs : List Value) (i : ℕ)
    (total : Result (List A) PlanError)
    → length vs ≤ i → each k read before (items_view (drop i vs)) ≡ total → total ≡ Ok before
unfolding each
each_done k read before vs i total le so_far = sym so_far ∙ rw (drop_all i vs le) refl

-- a refusal that reading gives
pub fails_from : {A : Type 0} (e : PlanError) (read : Result A PlanError) → read ≡ Err e → Fails e read
fails_from error.Memory read h = tt
fails_from e read h = h
