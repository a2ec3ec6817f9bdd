use Rattle.std.proofs.Common.{rules}
use Rattle.peer_plan.proofs.key.is_known.Goals as goal

pub returns-then-eq : goal.returns-then-eq
returns-then-eq c = search rules
