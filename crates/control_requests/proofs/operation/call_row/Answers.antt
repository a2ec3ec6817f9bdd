use Rattle.std.proofs.Common.{rules}
use Rattle.control_requests.proofs.operation.call_row.Goals as goal

pub returns : goal.returns
returns c = search rules
