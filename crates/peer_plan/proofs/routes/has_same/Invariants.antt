use Rattle.peer_plan.proofs.IndexLaws.{Differ}
use Rattle.peer_plan.proofs.routes.has_same.Given as goal

-- no neighbours so far are the same
abbrev pub invariant-loop-at : goal.invariant-loop-at
invariant-loop-at l = Differ l.routes l.index l.at
