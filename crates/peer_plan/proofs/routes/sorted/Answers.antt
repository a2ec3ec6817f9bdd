use Rattle.std.proofs.Common.{◌≡◌, List, ℕ, Ok, length, arith, subst, refl, rules}
use Rattle.std.specs.List.{range_with_len}
use Rattle.std.specs.List.Sorted.{IsPermutation}
use Rattle.std.proofs.lemmas.Iterator.{items_from_collect, YieldsList-from_range}
use Rattle.std.proofs.lemmas.Fn.{always_returns_same}
use Rattle.peer_plan.proofs.IndexLaws.{is_before, before_is_order, index_from_sort}
use Rattle.peer_plan.proofs.routes.sorted.Goals as goal

pub returns : goal.returns
returns c =
    let routes = c.args.routes.now in
    let n = length routes in
    let all : c.in_ok-index.index.items ≡ range_with_len 0 n = items_from_collect {E = ℕ} {s = record { start = 0; end = n }}
    (Ok c.in_ok-index.index) c.in_ok-index.ensures.ran (YieldsList-from_range 0 n n refl (omega arith)) in
    let up = c.sort_unstable_by.ensures.sorted (is_before routes) (before_is_order routes)
    (always_returns_same _ _ _ (λ a r g h. search rules)) in
    index_from_sort routes n _ refl (subst (λ (xs : List ℕ). IsPermutation xs c.sort_unstable_by.new.self.items) all
    c.sort_unstable_by.ensures.permutation) up
