use Rattle.std.proofs.Common.{rules}
use Rattle.control_requests.proofs.response.Response.error.Goals as goal

pub returns-clause-status : goal.returns-clause-status
returns-clause-status c = search rules
