use Rattle.std.proofs.Common.{sym, ◌∙◌, arith}
use Rattle.peer_plan.proofs.IndexLaws.{equal_from, neighbours_same, neighbours_differ}
use Rattle.peer_plan.proofs.routes.has_same.Goals as goal

pub returns-then-is_eq : goal.returns-then-is_eq
returns-then-is_eq c =
    sym (neighbours_same c.args.routes.now c.args.index.now c.loop-at.at c.requires (omega arith) (omega arith)
    (sym c.compare_places.ensures ∙ equal_from c.compare_places.result (sym c.is_eq.ensures ∙ c.if-is_eq.true)))

pub returns : goal.returns
returns c = sym (neighbours_differ c.args.routes.now c.args.index.now c.loop-at.at c.requires (omega arith) c.loop-at.invariant)
