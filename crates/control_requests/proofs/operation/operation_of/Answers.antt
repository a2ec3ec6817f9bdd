use Rattle.std.proofs.Common.{rules}
use Rattle.control_requests.proofs.operation.operation_of.Goals as goal

pub returns-in-None : goal.returns-in-None
returns-in-None c = search rules
