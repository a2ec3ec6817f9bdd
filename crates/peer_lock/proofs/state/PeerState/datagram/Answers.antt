use Rattle.std.proofs.Common.{sym}
use Rattle.peer_lock.proofs.state.PeerState.datagram.Goals as goal

pub returns : goal.returns
returns g c = rw (sym c.of.ensures) c.datagram_read.ensures
