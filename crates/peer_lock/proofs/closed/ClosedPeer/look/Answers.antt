use Rattle.std.proofs.Common.{rules}
use Rattle.peer_lock.proofs.closed.ClosedPeer.look.Goals as goal

pub returns-clause-status : goal.returns-clause-status
returns-clause-status c = search rules
