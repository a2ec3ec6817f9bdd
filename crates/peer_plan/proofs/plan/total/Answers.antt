use Rattle.std.proofs.Common.{arith}
use Rattle.peer_plan.proofs.Ranges.{total-more, total-at}
use Rattle.peer_plan.proofs.plan.total.Goals as goal

pub overflow_add-total : goal.overflow_add-total
overflow_add-total c = omega (
  arith,
  total-at c.args.counts.now c.loop-count.count-index c.loop-count-test.true,
  c.requires,
  c.loop-count.invariant,
)

pub loop-count-preserved : goal.loop-count-preserved
loop-count-preserved c = omega (
  arith,
  total-more c.args.counts.now c.loop-count.count-index c.loop-count-test.true,
  c.loop-count.invariant,
)
