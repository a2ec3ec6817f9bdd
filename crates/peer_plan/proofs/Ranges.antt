-- The first number of a peer's range, by the numbers of the peers before it.
use Rattle.std.proofs.Common.{◌≡◌, ℕ, zero, suc, ◌+◌, ◌*◌, ◌<◌, ◌≤◌, List, [], ◌∷◌, get_or, length, take, drop, refl, sym, ap}
use Rattle.std.proofs.Common.{◌∙◌, arith}
use Rattle.std.proofs.lemmas.List.{take_more, get_or-drop, length-map}
use Rattle.call_book.proofs.RangeLaws.{total-push}
use Rattle.peer_plan.specs.Plan.{PlanView, IsPlan, counts_of, first_number, total_of}

pub total-more : (counts : List ℕ) (i : ℕ) → i < length counts → total_of (take (i + 1) counts) ≡ total_of (take i counts)
    + get_or counts i 0
total-more counts i lt = ap total_of (take_more counts i 0 lt) ∙ total-push (take i counts) (get_or counts i 0)

pub total-at : (counts : List ℕ) (i : ℕ) → i < length counts → total_of (take i counts) + get_or counts i 0 ≤ total_of counts
total-at [] i lt = absurd (omega arith)
total-at (c ∷ cs) zero lt = omega arith
total-at (c ∷ cs) (suc i) lt = let rest = total-at cs i (omega arith) in omega (arith, rest)

-- the first number of a peer follows all numbers of the peers before it
pub first-total : (counts : List ℕ) (p : ℕ) → p ≤ length counts → first_number counts p ≡ 1 + total_of (take p counts)
first-total [] zero le = refl
first-total [] (suc p) le = absurd (omega arith)
first-total (c ∷ cs) zero le = refl
first-total (c ∷ cs) (suc p) le = let rest = first-total cs p (omega arith) in omega (arith, rest)

-- the counts before a peer and from it on, and the peer's range
pub record IsSplit (counts front rest : List ℕ) (peer : ℕ) : Type 0 where
  pub first : 1 + total_of front ≡ first_number counts peer
  pub count : get_or rest 0 0 ≡ get_or counts peer 0
  pub most : total_of front + get_or rest 0 0 ≤ 32 * 512

pub split_is : (counts all front rest : List ℕ) (peer i : ℕ) → all ≡ counts → front ≡ take i all → rest ≡ drop i all → i ≡ peer
    → peer < length counts → total_of counts ≤ 32 * 512 → IsSplit counts front rest peer
split_is counts all front rest peer i same is_front is_rest at lt limit =
    let before : front ≡ take peer counts = is_front ∙ ap (take i) same ∙ ap (λ n. take n counts) at in
    let behind : rest ≡ drop peer counts = is_rest ∙ ap (drop i) same ∙ ap (λ n. drop n counts) at in
    let none : peer + 0 ≡ peer = omega arith in
    let count : get_or rest 0 0 ≡ get_or counts peer 0 = ap (λ ns. get_or ns 0 0) behind ∙ get_or-drop peer counts 0 0
    ∙ ap (λ n. get_or counts n 0) none in
    record {
      first = ap (λ ns. 1 + total_of ns) before ∙ sym (first-total counts peer (omega arith));
      count = count;
      most = omega (arith, ap total_of before, count, total-at counts peer lt, limit);
    }

-- the same for a plan, whose counts are a list
pub plan_split : (plan : PlanView) (all front rest : List ℕ) (peer i : ℕ) → all ≡ counts_of plan.peers → IsPlan plan
    → front ≡ take i all → rest ≡ drop i all → i ≡ peer → peer < length plan.peers
    → IsSplit (counts_of plan.peers) front rest peer
plan_split plan all front rest peer i same is is_front is_rest at lt =
    let within : peer < length (counts_of plan.peers) = rw length-map lt in
    split_is (counts_of plan.peers) all front rest peer i same is_front is_rest at within is.total
