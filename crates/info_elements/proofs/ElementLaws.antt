-- A text of information elements is a text of items.
use Rattle.std.proofs.Common.{◌≡◌, ℕ, ◌<◌, ◌≤◌, Bool, true, false, cond, leb, eqb, List, [], ◌∷◌, ◌++◌, length, take, drop}
use Rattle.std.proofs.Common.{Option, Some, None, refl, ap, ◌∙◌, sym, subst, arith, length-append}
use Rattle.std.specs.Prelude.{IfNone}
use Rattle.std.proofs.lemmas.Bool.{leb-true, le-leb}
use Rattle.std.proofs.lemmas.Bool.Decides.{nat_tests}
use Rattle.std.proofs.lemmas.List.{take_at, drop_at, take-append-drop, length-take}
use Rattle.iax_frames.proofs.OctetLaws.{IsOctets}
use Rattle.iax_frames.proofs.ItemLaws.{IsFormat}
use Rattle.iax_frames.proofs.LooseItems.{items_of-front, items_of-no_front}
use Rattle.info_elements.specs.Element.{Element, element, IsElement, first_element, elements_of, or, last_of}

pair_is : (b : Bool) (x y : Element × List ℕ) → cond b (Some x) None ≡ Some y → (b ≡ true) × (x ≡ y)
pair_is true x y e = (refl, cc)
pair_is false x y e = absurd cc

takes : (bytes : List ℕ) (item : Element) (rest : List ℕ) → IsOctets bytes → first_element bytes ≡ Some (item, rest)
    → IsElement item × (bytes ≡ element item ++ rest)
takes [] item rest octets e = absurd cc
takes (n ∷ []) item rest octets e = absurd cc
takes (n ∷ len ∷ more) item rest octets e =
    let p = pair_is (leb len (length more)) (record { number = n; value = take len more }, drop len more) (item, rest) e in
    let fits : len ≤ length more = leb-true _ _ p.0 in
    let size : length (take len more) ≡ len = omega (arith, length-take len more) in
    let small : len < 256 = octets 1 in
    let made : Element = record { number = n; value = take len more } in
    let is : IsElement made = record { number = octets 0; short = omega arith } in
    let whole : n ∷ len ∷ more ≡ element made ++ drop len more = λ i. n ∷ (sym size) i ∷ (sym (take-append-drop len more)) i in
    subst (λ (q : Element × List ℕ). IsElement q.0 × (n ∷ len ∷ more ≡ element q.0 ++ q.1)) p.1 (is, whole)

pub format : IsFormat element IsElement first_element
format = record {
  again = λ item rest is.
      let fits : leb (length item.value) (length (item.value ++ rest)) ≡ true =
      le-leb _ _ (omega (arith, length-append item.value rest)) in
      rw (fits, take_at item.value rest (length item.value) refl, drop_at item.value rest (length item.value) refl) refl;
  takes = takes;
  some = λ item. omega arith;
  none = refl;
}

-- the elements of a text, whatever follows the whole ones
pub elements_of-more : (rest after : List ℕ) (e : Element) → IsOctets rest → first_element rest ≡ Some (e, after)
    → elements_of rest ≡ e ∷ elements_of after
elements_of-more rest after e octets is = items_of-front element IsElement first_element format rest after e octets is

pub elements_of-none : (rest : List ℕ) → first_element rest ≡ None → elements_of rest ≡ []
elements_of-none rest is = items_of-no_front first_element rest is

-- if nothing is found
pub if_none : {X : Type 0} (found : Option X) {P Q : Type 0} → (P → Q) → IfNone found P → IfNone found Q
if_none None so p = so p
if_none (Some x) so p = tt

or-or : (a b c : Option (List ℕ)) → or (or a b) c ≡ or a (or b c)
or-or None b c = refl
or-or (Some v) b c = refl

if_true : (a b : ℕ) (x : Option (List ℕ)) → a ≡ b → cond (eqb a b) x None ≡ x
if_true a b x e = grind (arith, nat_tests, e)

if_false : (a b : ℕ) (x : Option (List ℕ)) → (a ≡ b → ⊥) → cond (eqb a b) x None ≡ None
if_false a b x e = grind (arith, nat_tests, e)

-- one element more was read: it has the number
pub last_of-found : (number : ℕ) (e : Element) (es : List Element) (found : Option (List ℕ)) → e.number ≡ number
    → or (last_of number (e ∷ es)) found ≡ or (last_of number es) (Some e.value)
last_of-found number e es found same =
    or-or (last_of number es) _ found
    ∙ ap (λ (o : Option (List ℕ)). or (last_of number es) (or o found)) (if_true e.number number (Some e.value) same)

-- one element more was read: it has another number
pub last_of-passed : (number : ℕ) (e : Element) (es : List Element) (found : Option (List ℕ)) → (e.number ≡ number → ⊥)
    → or (last_of number (e ∷ es)) found ≡ or (last_of number es) found
last_of-passed number e es found other =
    or-or (last_of number es) _ found
    ∙ ap (λ (o : Option (List ℕ)). or (last_of number es) (or o found)) (if_false e.number number (Some e.value) other)
