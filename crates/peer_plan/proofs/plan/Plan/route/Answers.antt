use Rattle.std.proofs.Common.{rules}
use Rattle.peer_plan.proofs.plan.Plan.route.Goals as goal

pub returns-in_err-route-clause-none : goal.returns-in_err-route-clause-none
returns-in_err-route-clause-none c = search rules

pub returns-clause-found : goal.returns-clause-found
returns-clause-found c = search rules
