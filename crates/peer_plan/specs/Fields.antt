-- The reading of the value at a key, and of the tables of a list.
use Rattle.std.specs.Prelude.{◌≡◌, ℕ, pos, suc, List, [], ◌∷◌, ◌++◌, Option, Some, None, Result, Ok, Err, Bool, nat_le, nat_lt}
use Rattle.std.specs.Prelude.{◌==◌, ◌&&◌, if◌then◌else◌, ok_or}
use Rattle.toml.specs.Data.{Data, integer, table, Items, no_items, item, Members, get_member, as_array, as_str}
use Rattle.peer_plan.specs.declared.key.Key.{Key}
use Rattle.peer_plan.specs.declared.error.PlanError.{PlanError}
use Rattle.peer_plan.specs.declared.error.PlanError.TheVariants as error
use Rattle.peer_plan.specs.Keys.{key_name}

infixl 10 ◌>>=◌
abbrev pub ◌>>=◌ : {A B : Type 0} → Result A PlanError → (A → Result B PlanError) → Result B PlanError
(Ok x) >>= f = f x
(Err e) >>= f = Err e

-- a function fails as the reading does, unless memory ran out
abbrev pub Fails : {Y : Type 0} → PlanError → Result Y PlanError → Type 0
Fails error.Memory read = Unit {0}
Fails e read = read ≡ Err e

abbrev pub Gives : {X Y : Type 0} → (X → Y) → Result X PlanError → Result Y PlanError → Type 0
Gives view (Ok x) read = read ≡ Ok (view x)
Gives view (Err e) read = Fails e read

-- the same for a function that takes no memory
abbrev pub Reads : {X Y : Type 0} → (X → Y) → Result X PlanError → Result Y PlanError → Type 0
Reads view (Ok x) read = read ≡ Ok (view x)
Reads view (Err e) read = read ≡ Err e

-- a whole number in a range
abbrev pub number_of : ℕ → ℕ → Data → Option ℕ
number_of low high (integer (pos n)) = if nat_le low n && nat_le n high then Some n else None
number_of low high _ = None

-- a text that passes
abbrev pub passing : (List ℕ → Bool) → Option (List ℕ) → Option (List ℕ)
passing fits (Some s) = if fits s then Some s else None
passing fits None = None

abbrev pub text_of : (List ℕ → Bool) → Data → Option (List ℕ)
text_of fits d = passing fits (as_str d)

-- the value at a key: the fallback if it is absent, and out of range if it can't be read
abbrev pub value_at : {A : Type 0} → Key → Result A PlanError → (Data → Option A) → Option Data → Result A PlanError
value_at k fallback read None = fallback
value_at k fallback read (Some d) = ok_or (read d) (error.Range k)

abbrev pub value : {A : Type 0} → Members → Key → Result A PlanError → (Data → Option A) → Result A PlanError
value ms k fallback read = value_at k fallback read (get_member (key_name k) ms)

-- The values of a list of tables, in their order, after those that were read before. The value of a table may depend on the
-- values before it.
unfoldable pub each : {A : Type 0} → Key → (List A → Members → Result A PlanError) → List A → Items → Result (List A) PlanError
each k read before no_items = Ok before
each k read before (item (table ms) ds) = read before ms >>= λ next. each k read (before ++ next ∷ []) ds
each k read before (item _ ds) = Err (error.Range k)

-- the number of items
abbrev pub items_len : Items → ℕ
items_len no_items = 0
items_len (item d ds) = suc (items_len ds)

-- a list that has to be present, not empty and not too long
abbrev pub within : Key → ℕ → Items → Result Items PlanError
within k most ds =
    if items_len ds == 0 then Err (error.Missing k)
    else if nat_lt most (items_len ds) then Err (error.Range k)
    else Ok ds

unfoldable pub list_in : Members → Key → ℕ → Result Items PlanError
list_in ms k most = value ms k (Err (error.Missing k)) as_array >>= within k most
