-- Reading the names of formats.
use Rattle.std.proofs.Common.{◌≡◌, ℕ, ◌+◌, ◌<◌, ◌≤◌, Bool, true, false, List, [], ◌∷◌, length, get_or, drop, Option, Some, None}
use Rattle.std.proofs.Common.{IsSome, cond, refl, sym, ap, subst, ◌∙◌, ◌==◌}
use Rattle.std.proofs.lemmas.Bool.{true≢false}
use Rattle.std.specs.Str.{bytes_eq}
use Rattle.std.specs.Prelude.{codes, option_and_then}
use Rattle.std.proofs.lemmas.List.{drop_all}
use Rattle.toml.specs.Data.{Data, Items, no_items, item, as_str, as_array}
use Rattle.toml.specs.View.{view, items_view}
use Rattle.toml.specs.declared.value.Value.{Value}
use Rattle.toml.proofs.Views.{items_view-drop}
use Rattle.call_signals.specs.declared.format.Formats.{Formats}
use Rattle.call_signals.specs.Format.{lowest_format}
use Rattle.peer_plan.specs.Reading.{with_format, with_format_in, formats_after, formats_from, formats_in, no_formats}

pub formats_none : (ds : Items) → formats_after None ds ≡ None
unfolding formats_after
formats_none no_items = refl
formats_none (item d ds) = formats_none ds

pub formats_start : (vs : List Value) → (length vs == 0) ≡ false → formats_after (Some no_formats) (items_view vs) ≡ formats_from
    (items_view vs)
formats_start [] h = absurd (true≢false h)
formats_start (v ∷ vs) h = refl

pub formats_go_on : (formats next : Formats) (vs : List Value) (i : ℕ) (d : Value) (total : Option Formats) → i < length vs
    → with_format_in formats (view (get_or vs i d)) ≡ Some next
    → formats_after (Some formats) (items_view (drop i vs)) ≡ total → formats_after (Some next) (items_view (drop (i + 1) vs))
    ≡ total
unfolding formats_after
formats_go_on formats next vs i d total lt h so_far =
    let one : formats_after (Some formats) (items_view (drop i vs)) ≡ formats_after (Some next) (items_view (drop (i + 1) vs)) =
    ap (formats_after (Some formats)) (items_view-drop vs i d lt) ∙ ap (λ o. formats_after o (items_view (drop (i + 1) vs))) h in
    sym one ∙ so_far

pub formats_fail : (formats : Formats) (vs : List Value) (i : ℕ) (d : Value) (total : Option Formats) → i < length vs
    → with_format_in formats (view (get_or vs i d)) ≡ None
    → formats_after (Some formats) (items_view (drop i vs)) ≡ total → total ≡ None
unfolding formats_after
formats_fail formats vs i d total lt h so_far =
    let one : formats_after (Some formats) (items_view (drop i vs)) ≡ formats_after None (items_view (drop (i + 1) vs)) =
    ap (formats_after (Some formats)) (items_view-drop vs i d lt) ∙ ap (λ o. formats_after o (items_view (drop (i + 1) vs))) h in
    sym so_far ∙ one ∙ formats_none (items_view (drop (i + 1) vs))

pub formats_done : (formats : Formats) (vs : List Value) (i : ℕ) (total : Option Formats) → length vs ≤ i
    → formats_after (Some formats) (items_view (drop i vs)) ≡ total → total ≡ Some formats
unfolding formats_after
formats_done formats vs i total le so_far = sym so_far ∙ rw (drop_all i vs le) refl

-- ---- whatever is read has a format

one_of : (a b c : Bool) (f g : Formats) → cond a (Some (record f { gsm = true })) (cond b (Some (record f { ulaw = true }))
    (cond c (Some (record f { alaw = true })) None)) ≡ Some g → IsSome (lowest_format g)
one_of true b c f g h = let is : record f { gsm = true } ≡ g = cc in subst (λ x. IsSome (lowest_format x)) is refl
one_of false true c f g h = let is : record f { ulaw = true } ≡ g = cc in subst (λ x. IsSome (lowest_format x)) is
    (with_ulaw f.gsm)
  where
    with_ulaw : (gsm : Bool) → IsSome (lowest_format (record f { gsm = gsm; ulaw = true }))
    with_ulaw true = refl
    with_ulaw false = refl
one_of false false true f g h = let is : record f { alaw = true } ≡ g = cc in subst (λ x. IsSome (lowest_format x)) is
    (with_alaw f.gsm f.ulaw)
  where
    with_alaw : (gsm ulaw : Bool) → IsSome (lowest_format (record f { gsm = gsm; ulaw = ulaw; alaw = true }))
    with_alaw true ulaw = refl
    with_alaw false true = refl
    with_alaw false false = refl
one_of false false false f g h = absurd (cc)

one_in : (f g : Formats) (o : Option (List ℕ)) → option_and_then (with_format f) o ≡ Some g → IsSome (lowest_format g)
one_in f g None h = absurd (cc)
one_in f g (Some name) h = one_of (bytes_eq name (codes "gsm")) (bytes_eq name (codes "ulaw")) (bytes_eq name (codes "alaw")) f g
    h

next_in : (o : Option Formats) (d : Data) (g : Formats) → option_and_then (λ found. with_format_in found d) o ≡ Some g
    → IsSome (lowest_format g)
next_in None d g h = absurd (cc)
next_in (Some f) d g h = one_in f g (as_str d) h

some_after : (o : Option Formats) (ds : Items) (g : Formats) → ((f : Formats) → o ≡ Some f → IsSome (lowest_format f))
    → formats_after o ds ≡ Some g → IsSome (lowest_format g)
unfolding formats_after
some_after o no_items g have h = have g h
some_after o (item d ds) g have h = some_after (option_and_then (λ found. with_format_in found d) o) ds g (next_in o d) h

some_from : (ds : Items) (g : Formats) → formats_from ds ≡ Some g → IsSome (lowest_format g)
unfolding formats_after
some_from no_items g h = absurd (cc)
some_from (item d ds) g h = some_after (option_and_then (λ found. with_format_in found d) (Some no_formats)) ds g
    (next_in (Some no_formats) d) h

in_items : (o : Option Items) (g : Formats) → option_and_then formats_from o ≡ Some g → IsSome (lowest_format g)
in_items None g h = absurd (cc)
in_items (Some ds) g h = some_from ds g h

pub formats_some : (d : Data) (g : Formats) → formats_in d ≡ Some g → IsSome (lowest_format g)
formats_some d g h = in_items (as_array d) g h
