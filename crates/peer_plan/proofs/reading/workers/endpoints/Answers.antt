use Rattle.std.proofs.Common.{ap, sym, ◌∙◌}
use Rattle.std.proofs.lemmas.Result.{err_from_is_err_and}
use Rattle.toml.specs.View.{view, table_view}
use Rattle.toml.specs.Data.{as_table}
use Rattle.peer_plan.specs.declared.key.Key.TheVariants as key
use Rattle.peer_plan.specs.Reading.{endpoint_in}
use Rattle.peer_plan.proofs.Each.{each_goes_on, each_fails, each_wrong_kind, each_done, table_from_as_table, fails_from}
use Rattle.peer_plan.proofs.reading.workers.endpoints.Goals as goal

pub returns-in_default : goal.returns-in_default
returns-in_default c =
    each_wrong_kind key.Worker (λ _. endpoint_in) _ c.args.items.now c.loop-item.item-index c.item-item.result _
    c.loop-item-test.true (ap (λ v. as_table (view v)) (sym c.item-item.is) ∙ sym c.in_default.ensures) c.loop-item.invariant

pub returns-in_err-next : goal.returns-in_err-next
returns-in_err-next c =
    let p = err_from_is_err_and c.from_residual-in_err-next.result c.from_residual-in_err-next.ensures.1 in
    let is_table = ap view (sym c.item-item.is) ∙ table_from_as_table _ _ (sym c.in-Some.ensures) in
    rw (p.1, p.2) (each_fails c.in_err-next.field-0.0 key.Worker (λ _. endpoint_in) _ c.args.items.now c.loop-item.item-index
    c.item-item.result (table_view c.in-Some.table.now) _ c.loop-item-test.true is_table
    (fails_from _ _ (sym c.in_err-next.ensures)) c.loop-item.invariant)

pub loop-item-preserved : goal.loop-item-preserved
loop-item-preserved c =
    let is_table = ap view (sym c.item-item.is) ∙ table_from_as_table _ _ (sym c.in-Some.ensures) in
    rw c.in_ok-push.ensures.items (each_goes_on key.Worker (λ _. endpoint_in) _ c.args.items.now c.loop-item.item-index
    c.item-item.result (table_view c.in-Some.table.now) c.in_ok-next.next _ c.loop-item-test.true is_table
    (sym c.in_ok-next.ensures) c.loop-item.invariant)

pub returns : goal.returns
returns c = each_done key.Worker (λ _. endpoint_in) _ c.args.items.now c.loop-item.item-index _ c.loop-item-test.false
    c.loop-item.invariant
