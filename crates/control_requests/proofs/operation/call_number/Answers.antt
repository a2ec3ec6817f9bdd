use Rattle.std.proofs.Common.{rules}
use Rattle.control_requests.proofs.operation.call_number.Goals as goal

pub returns-in-Some : goal.returns-in-Some
returns-in-Some c = search rules
