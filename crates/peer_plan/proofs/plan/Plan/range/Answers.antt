use Rattle.std.proofs.Common.{◌+◌, ap, subst, ◌∙◌, arith}
use Rattle.peer_plan.specs.Plan.{IsPlan, counts_of}
use Rattle.peer_plan.proofs.Ranges.{plan_split}
use Rattle.peer_plan.proofs.plan.Plan.range.Goals as goal

pub total-requires : goal.total-requires
total-requires c =
    let split = plan_split c.args.self.now _ _ _ _ _ (c.deref.ensures.value ∙ c.self.invariant.counts
    ∙ ap (λ plan. counts_of plan.peers) c.self.view_is)
    (subst IsPlan c.self.view_is c.self.invariant.plan) c.split_at.ensures.front c.split_at.ensures.back c.index.ensures
    c.requires in
    omega (arith, split.most)

pub overflow_add-result : goal.overflow_add-result
overflow_add-result c =
    let split = plan_split c.args.self.now _ _ _ _ _ (c.deref.ensures.value ∙ c.self.invariant.counts
    ∙ ap (λ plan. counts_of plan.peers) c.self.view_is)
    (subst IsPlan c.self.view_is c.self.invariant.plan) c.split_at.ensures.front c.split_at.ensures.back c.index.ensures
    c.requires in
    omega (arith, split.most, c.total.ensures)

pub returns-clause-value : goal.returns-clause-value
returns-clause-value c =
    let split = plan_split c.args.self.now _ _ _ _ _ (c.deref.ensures.value ∙ c.self.invariant.counts
    ∙ ap (λ plan. counts_of plan.peers) c.self.view_is)
    (subst IsPlan c.self.view_is c.self.invariant.plan) c.split_at.ensures.front c.split_at.ensures.back c.index.ensures
    c.requires in
    let first = ap (λ n. 1 + n) c.total.ensures ∙ split.first in
    let count = split.count in
    λ i. record { first = first i; count = count i }

pub returns-clause-most : goal.returns-clause-most
returns-clause-most c =
    let split = plan_split c.args.self.now _ _ _ _ _ (c.deref.ensures.value ∙ c.self.invariant.counts
    ∙ ap (λ plan. counts_of plan.peers) c.self.view_is)
    (subst IsPlan c.self.view_is c.self.invariant.plan) c.split_at.ensures.front c.split_at.ensures.back c.index.ensures
    c.requires in
    omega (arith, split.most, c.total.ensures)
