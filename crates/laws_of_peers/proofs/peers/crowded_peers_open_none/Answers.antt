use Rattle.laws_of_peers.proofs.ClosedToCalls.{crowded_none}
use Rattle.laws_of_peers.proofs.peers.crowded_peers_open_none.Goals as goal

pub returns : goal.returns
returns c = crowded_none
