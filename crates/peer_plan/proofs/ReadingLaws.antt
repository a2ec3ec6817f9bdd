-- Properties of each value that is read, and of the lists of tables.
use Rattle.std.proofs.Common.{◌≡◌, ℕ, pos, negsuc, ◌+◌, ◌≤◌, Bool, true, false, cond, List, [], ◌∷◌, ◌++◌, length, Option, Some}
use Rattle.std.proofs.Common.{None, Result, Ok, Err, refl, ap, subst, arith, nat_le, nat_lt, ◌&&◌, ◌==◌}
use Rattle.std.specs.Prelude.{ok_or}
use Rattle.std.proofs.lemmas.Bool.Decides.{nat_tests}
use Rattle.std.proofs.lemmas.List.{length-append}
use Rattle.toml.specs.Data.{Data, integer, string, table, Items, no_items, item, Members, as_array}
use Rattle.call_signals.specs.PeerRules.{IsWithin}
use Rattle.peer_plan.specs.declared.key.Key.{Key}
use Rattle.peer_plan.specs.declared.error.PlanError.{PlanError}
use Rattle.peer_plan.specs.declared.error.PlanError.TheVariants as error
use Rattle.peer_plan.specs.Fields.{◌>>=◌, number_of, text_of, value, value_at, each, items_len, within, list_in}

-- ---- steps of a reading

pub bound : {A B : Type 0} (m : Result A PlanError) (f : A → Result B PlanError) (y : B) → (m >>= f) ≡ Ok y → (x : A) ×
    (m ≡ Ok x) × (f x ≡ Ok y)
bound (Ok x) f y h = (x, refl, h)
bound (Err e) f y h = absurd (cc)

pub found_in : {A : Type 0} (o : Option A) (e : PlanError) (x : A) → ok_or o e ≡ Ok x → o ≡ Some x
found_in None e x h = absurd (cc)
found_in (Some y) e x h = let same : y ≡ x = cc in ap Some same

-- a property of each value that is read, and of the fallback, holds for the result
pub value_is : {A : Type 0} (P : A → Type 0) (k : Key) (fallback : Result A PlanError) (read : Data → Option A) (o : Option Data)
    (x : A)
    → ((d : Data) → read d ≡ Some x → P x) → (fallback ≡ Ok x → P x) → value_at k fallback read o ≡ Ok x → P x
value_is P k fallback read None x each_read else_is h = else_is h
value_is P k fallback read (Some d) x each_read else_is h = each_read d (found_in (read d) (error.Range k) x h)

pub number_within : (low high n : ℕ) (d : Data) → number_of low high d ≡ Some n → IsWithin low high n
number_within low high n (integer (pos m)) h = go (nat_le low m) (nat_le m high) refl refl h
  where
    go : (a b : Bool) → nat_le low m ≡ a → nat_le m high ≡ b → cond (a && b) (Some m) None ≡ Some n → IsWithin low high n
    go true true least most is = let same : m ≡ n = cc in subst (IsWithin low high) same (
      grind (arith, nat_tests),
      grind (arith, nat_tests),
    )
    go true false least most is = absurd (cc)
    go false b least most is = absurd (cc)
number_within low high n (integer (negsuc m)) h = absurd (cc)
number_within low high n _ h = absurd (cc)

pub text_fits : (fits : List ℕ → Bool) (text : List ℕ) (d : Data) → text_of fits d ≡ Some text → fits text ≡ true
text_fits fits text (string s) h = go (fits s) refl h
  where
    go : (b : Bool) → fits s ≡ b → cond b (Some s) None ≡ Some text → fits text ≡ true
    go true is h = let same : s ≡ text = cc in subst (λ t. fits t ≡ true) same is
    go false is h = absurd (cc)
text_fits fits text _ h = absurd (cc)

pub default_within : (low high n fallback : ℕ) → low ≤ fallback → fallback ≤ high → ◌≡◌ {A = Result ℕ PlanError} (Ok fallback)
    (Ok n) → IsWithin low high n
default_within low high n fallback least most h = let same : fallback ≡ n = cc in subst (IsWithin low high) same (least, most)

pub missing : {A : Type 0} {P : Type 0} (e : PlanError) (x : A) → Err e ≡ Ok x → P
missing e x h = absurd (cc)

-- ---- lists of tables

pub each_keeps : {A : Type 0} (Kept : List A → Type 0) (k : Key) (read : List A → Members → Result A PlanError)
    → ((before : List A) (ms : Members) (next : A) → Kept before → read before ms ≡ Ok next → Kept (before ++ next ∷ []))
    → (before : List A) (ds : Items) (all : List A) → Kept before → each k read before ds ≡ Ok all → Kept all
unfolding each
each_keeps Kept k read keeps before no_items all kept h = let same : before ≡ all = cc in subst Kept same kept
each_keeps Kept k read keeps before (item (table ms) ds) all kept h =
    let one = bound (read before ms) (λ next. each k read (before ++ next ∷ []) ds) all h in
    each_keeps Kept k read keeps (before ++ one.0 ∷ []) ds all (keeps before ms one.0 kept one.1) one.2
each_keeps Kept k read keeps before (item _ ds) all kept h = absurd (cc)

pub each_len : {A : Type 0} (k : Key) (read : List A → Members → Result A PlanError) (before : List A) (ds : Items) (all : List A)
    → each k read before ds ≡ Ok all → length all ≡ length before + items_len ds
unfolding each
each_len k read before no_items all h = let same : before ≡ all = cc in omega (arith, ap length same)
each_len k read before (item (table ms) ds) all h =
    let one = bound (read before ms) (λ next. each k read (before ++ next ∷ []) ds) all h in
    let rest = each_len k read (before ++ one.0 ∷ []) ds all one.2 in
    omega (arith, simp length-append at rest)
each_len k read before (item _ ds) all h = absurd (cc)

pub list_within : (ms : Members) (k : Key) (most : ℕ) (ds : Items) → list_in ms k most ≡ Ok ds → IsWithin 1 most (items_len ds)
unfolding list_in
list_within ms k most ds h =
    let one = bound (value ms k (Err (error.Missing k)) as_array) (within k most) ds h in
    go one.0 (items_len one.0 == 0) (nat_lt most (items_len one.0)) refl refl one.2
  where
    go : (es : Items) (a b : Bool) → (items_len es == 0) ≡ a → nat_lt most (items_len es) ≡ b
        → cond a (Err (error.Missing k)) (cond b (Err (error.Range k)) (Ok es)) ≡ Ok ds → IsWithin 1 most (items_len ds)
    go es true b none many is = absurd (cc)
    go es false true none many is = absurd (cc)
    go es false false none many is = let same : es ≡ ds = cc in subst (λ x. IsWithin 1 most (items_len x)) same
        (grind (arith, nat_tests), grind (arith, nat_tests))
