use Rattle.std.proofs.Common.{rules}
use Rattle.peer_plan.proofs.reading.unknown_keys.known.Goals as goal

pub returns-in-Some : goal.returns-in-Some
returns-in-Some c = search rules
