use Rattle.std.proofs.Common.{◌≡◌, take}
use Rattle.peer_plan.specs.Plan.{total_of}
use Rattle.peer_plan.proofs.plan.total.Given as goal

abbrev pub invariant-loop-count : goal.invariant-loop-count
invariant-loop-count l = l.total ≡ total_of (take l.count-index l.counts)
