use Rattle.laws_of_peers.proofs.NoneDropped.{none_dropped}
use Rattle.laws_of_peers.proofs.peers.full_trunk_queues_drop_nothing.Goals as goal

pub returns : goal.returns
returns c peer name order now named waiting short is other = none_dropped peer name order now named waiting short is other
