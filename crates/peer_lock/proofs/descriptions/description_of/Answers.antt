use Rattle.std.proofs.Common.{rules}
use Rattle.peer_lock.proofs.descriptions.description_of.Goals as goal

pub returns : goal.returns
returns c = search rules
