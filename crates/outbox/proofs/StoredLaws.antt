-- Datagrams one after another in a list of octets: how much room they take, and one more at the end.
use native.Mathlib.Omega.{arith}
use Rattle.std.proofs.Common.{◌≡◌, ◌<◌, ◌≤◌, ℕ, suc, ◌+◌, ◌*◌, ltb, Bool, true, false}
use Rattle.std.proofs.Common.{List, [], ◌∷◌, ◌++◌, length, drop, ap, ◌∙◌, sym, subst, refl}
use Rattle.std.specs.List.{AllByRecursion, sum}
use Rattle.std.proofs.lemmas.List.{take-append-le, drop-append-le, take_all, length-append, length-take, length-drop}
use Rattle.std.proofs.lemmas.List.Sums.{sum_by-cons}
use Rattle.std.proofs.lemmas.Bool.{ltb-true, ltb-false}
use Rattle.outbox.specs.Stored.{datagrams_in, IsDatagram, HoldsDatagrams}

-- there are as many datagrams as lengths
pub as_many : (lens octets : List ℕ) → length (datagrams_in lens octets) ≡ length lens
as_many [] octets = refl
as_many (len ∷ lens) octets = ap suc (as_many lens (drop len octets))

sum-cons : (len : ℕ) (lens : List ℕ) → sum (len ∷ lens) ≡ len + sum lens
sum-cons len lens = sum_by-cons (λ x. x) len lens

sum-push : (lens : List ℕ) (len : ℕ) → sum (lens ++ len ∷ []) ≡ sum lens + len
sum-push [] len = omega (arith, sum-cons len [])
sum-push (n ∷ lens) len = omega (arith, sum-push lens len, sum-cons n lens, sum-cons n (lens ++ len ∷ []))

each-push : (xs : List (List ℕ)) (x : List ℕ) → AllByRecursion IsDatagram xs → IsDatagram x
    → AllByRecursion IsDatagram (xs ++ x ∷ [])
each-push [] x each is = (is, tt)
each-push (y ∷ ys) x each is = (each.0, each-push ys x each.1 is)

-- one datagram more at the end
pub datagrams_in-push : (lens octets datagram : List ℕ) (len : ℕ) → sum lens ≡ length octets → len ≡ length datagram
    → datagrams_in (lens ++ len ∷ []) (octets ++ datagram) ≡ datagrams_in lens octets ++ datagram ∷ []
datagrams_in-push [] [] datagram len whole size = ap (λ (d : List ℕ). d ∷ []) (take_all len datagram (omega (arith, size)))
datagrams_in-push [] (x ∷ xs) datagram len whole size = absurd (omega (arith, whole))
datagrams_in-push (n ∷ lens) octets datagram len whole size =
    let within : n ≤ length octets = omega (arith, whole, sum-cons n lens) in
    let left : sum lens ≡ length (drop n octets) = omega (arith, whole, sum-cons n lens, length-drop n octets) in
    let others = ap (datagrams_in (lens ++ len ∷ [])) (drop-append-le n octets datagram within)
    ∙ datagrams_in-push lens (drop n octets) datagram len left size in
    λ i. take-append-le n octets datagram within i ∷ others i

-- octets with one datagram more
pub record HasPut (lens octets new_lens new_octets datagram : List ℕ) : Type 0 where
  pub datagrams : datagrams_in new_lens new_octets ≡ datagrams_in lens octets ++ datagram ∷ []
  pub holds : HoldsDatagrams new_lens new_octets

pub HasPut-pushed : (lens octets new_lens new_octets datagram : List ℕ) (len : ℕ)
    → new_lens ≡ lens ++ len ∷ [] → new_octets ≡ octets ++ datagram → HoldsDatagrams lens octets
    → IsDatagram datagram → len ≡ length datagram → length lens < 256 → HasPut lens octets new_lens new_octets datagram
HasPut-pushed lens octets new_lens new_octets datagram len lens_are octets_are holds is size few =
    let pushed = datagrams_in-push lens octets datagram len holds.whole size in
    let each = each-push (datagrams_in lens octets) datagram holds.each is in
    let has_put : HasPut lens octets (lens ++ len ∷ []) (octets ++ datagram) datagram = record {
      datagrams = pushed;
      holds = record {
        each = subst (AllByRecursion IsDatagram) (sym pushed) each;
        whole = omega (arith, sum-push lens len, length-append octets datagram, holds.whole, size);
        few = omega (arith, length-append lens (len ∷ []), few);
      };
    } in
    subst (λ (r : List ℕ × List ℕ). HasPut lens octets r.0 r.1 datagram) (sym (λ i. (lens_are i, octets_are i))) has_put

short : (lens octets : List ℕ) → AllByRecursion IsDatagram (datagrams_in lens octets) → sum lens ≡ length octets
    → length octets ≤ 1400 * length lens
short [] octets each whole = omega (arith, whole)
short (len ∷ lens) octets each whole =
    let left : sum lens ≡ length (drop len octets) = omega (arith, whole, sum-cons len lens, length-drop len octets) in
    let others = short lens (drop len octets) each.1 left in
    omega (arith, whole, sum-cons len lens, each.0.1, length-take len octets, length-drop len octets, others)

-- no datagram has more than 1,400 octets
pub HoldsDatagrams-length : (lens octets : List ℕ) → HoldsDatagrams lens octets → length octets ≤ 1400 * length lens
HoldsDatagrams-length lens octets holds = short lens octets holds.each holds.whole

-- a ring that takes no length more has 256
pub full_at : (count capacity : ℕ) (room : Bool) → ltb count capacity ≡ room → (count < capacity → false ≡ true)
    → capacity ≤ count
full_at count capacity true test full = let no : false ≡ true = full (ltb-true count capacity test) in absurd cc
full_at count capacity false test full = ltb-false count capacity test
