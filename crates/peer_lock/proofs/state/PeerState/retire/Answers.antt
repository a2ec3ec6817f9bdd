use Rattle.std.proofs.Common.{rules}
use Rattle.peer_lock.proofs.Kept.{legs_kept}
use Rattle.peer_lock.proofs.state.PeerState.retire.Goals as goal

pub invariant_of-self : goal.invariant_of-self
invariant_of-self g c = legs_kept _ _ _ c.self-2.invariant c.take.ensures.ruled

pub returns : goal.returns
returns c = search rules
