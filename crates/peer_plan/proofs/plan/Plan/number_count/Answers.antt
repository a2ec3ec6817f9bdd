use Rattle.std.proofs.Common.{rules}
use Rattle.peer_plan.proofs.plan.Plan.number_count.Goals as goal

pub returns : goal.returns
returns c = search rules
