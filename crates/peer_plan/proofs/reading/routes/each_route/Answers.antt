use Rattle.std.proofs.Common.{ap, sym, ◌∙◌}
use Rattle.toml.specs.View.{view, table_view}
use Rattle.toml.specs.Data.{as_table}
use Rattle.peer_plan.proofs.Each.{table_from_as_table}
use Rattle.peer_plan.proofs.RoutesRead.{goes_on, ends_in, ends_at_no_table, ends}
use Rattle.peer_plan.proofs.reading.routes.each_route.Goals as goal

pub returns-in_default : goal.returns-in_default
returns-in_default c =
    ends_at_no_table c.args.format c.args.peers.now c.loop-item.routes.items c.args.items.now c.loop-item.item-index
    c.item-item.result _ c.loop-item-test.true (ap (λ v. as_table (view v)) (sym c.item-item.is) ∙ sym c.in_default.ensures)
    c.loop-item.invariant

pub returns-in-Err : goal.returns-in-Err
returns-in-Err c =
    let is_table = ap view (sym c.item-item.is) ∙ table_from_as_table _ _ (sym c.in-Some.ensures) in
    ends_in c.args.format c.args.peers.now c.loop-item.routes.items c.args.items.now c.loop-item.item-index c.item-item.result
    (table_view c.in-Some.table.now) c.in-Err.fault _ c.loop-item-test.true is_table (sym c.in-Err.ensures)
    c.loop-item.invariant

pub loop-item-preserved : goal.loop-item-preserved
loop-item-preserved c =
    let is_table = ap view (sym c.item-item.is) ∙ table_from_as_table _ _ (sym c.in-Some.ensures) in
    rw c.in_ok-push-in-Ok.ensures.items (goes_on c.args.format c.args.peers.now c.loop-item.routes.items c.args.items.now
    c.loop-item.item-index c.item-item.result (table_view c.in-Some.table.now) c.in-Ok.next _ c.loop-item-test.true is_table
    (sym c.in-Ok.ensures) c.loop-item.invariant)

pub returns : goal.returns
returns c = ends c.args.format c.args.peers.now c.loop-item.routes.items c.args.items.now c.loop-item.item-index _
    c.loop-item-test.false c.loop-item.invariant
