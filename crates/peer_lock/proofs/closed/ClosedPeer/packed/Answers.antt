use Rattle.std.proofs.Common.{rules}
use Rattle.peer_lock.proofs.closed.ClosedPeer.packed.Goals as goal

pub returns : goal.returns
returns c = search rules
