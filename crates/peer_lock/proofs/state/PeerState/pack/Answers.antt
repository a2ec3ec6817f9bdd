use Rattle.peer_lock.proofs.Packing.{one_packed}
use Rattle.peer_lock.proofs.state.PeerState.pack.Goals as goal

pub loop-octets-preserved : goal.loop-octets-preserved
loop-octets-preserved g c =
    one_packed c.args.self.now c.args.now c.loop-octets.packed c.in-Some.octets c.loop-octets.self c.pack_one.new.self
    c.loop-octets.invariant c.in-Some.ensures.some
