use Rattle.std.proofs.Common.{length}
use Rattle.peer_lock.proofs.Packing.{ArePacked}
use Rattle.peer_lock.proofs.state.PeerState.pack.Given as goal

abbrev pub invariant-loop-octets : goal.invariant-loop-octets
invariant-loop-octets g l = ArePacked l.initial.self l.now l.packed l.self

abbrev pub decreases-loop-octets : goal.decreases-loop-octets
decreases-loop-octets g l = length l.self.queue
