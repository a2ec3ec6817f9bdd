use Rattle.peer_plan.proofs.PlanLaws.{count_at}
use Rattle.peer_plan.proofs.plan.Plan.counts.Goals as goal

pub returns-clause-counts : goal.returns-clause-counts
returns-clause-counts c = rw (c.deref.ensures.value, c.self.invariant.counts)
    (count_at _ c.self.inside.peers.items c.self.invariant.plan.peers)
