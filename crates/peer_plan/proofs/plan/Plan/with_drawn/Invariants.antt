use Rattle.std.proofs.Common.{◌≡◌, ◌++◌, take, drop}
use Rattle.std.specs.Prelude.{map}
use Rattle.peer_plan.specs.Plan.{with_drawn}
use Rattle.peer_plan.proofs.plan.Plan.with_drawn.Given as goal

abbrev pub invariant-loop-peer : goal.invariant-loop-peer
invariant-loop-peer l = l.peer-items ≡ map (with_drawn l.drawn) (take l.peer-index l.fn.self.peers) ++ drop l.peer-index
    l.fn.self.peers
