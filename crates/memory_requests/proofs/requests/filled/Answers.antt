use Rattle.memory_refusals.specs.Refused.{asked_in_vain}
use Rattle.memory_requests.proofs.requests.filled.Goals as goal

pub returns-clause-refused : goal.returns-clause-refused
returns-clause-refused g c = asked_in_vain _
