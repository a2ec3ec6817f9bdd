use Rattle.std.proofs.Common.{rules}
use Rattle.control_requests.proofs.operation.row_of.Goals as goal

pub returns-then-eq-3 : goal.returns-then-eq-3
returns-then-eq-3 c = search rules

pub returns-then-eq-5 : goal.returns-then-eq-5
returns-then-eq-5 c = search rules
