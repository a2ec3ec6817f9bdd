use Rattle.laws_of_peers.proofs.Resting.{resting_stays}
use Rattle.laws_of_peers.proofs.peers.resting_peers_stay.Goals as goal

pub returns : goal.returns
returns c old new now report sound rests ticks = resting_stays c.resting_legs_stay.ensures old new now report sound rests ticks
