use Rattle.laws_of_peers.proofs.Ascending.{call_in_none, datagram_ascends}
use Rattle.laws_of_peers.proofs.peers.media_is_handed_up_once.Goals as goal

pub returns-clause-datagrams : goal.returns-clause-datagrams
returns-clause-datagrams c = datagram_ascends c.media_is_the_frames.ensures

pub returns-clause-calls_in : goal.returns-clause-calls_in
returns-clause-calls_in c = call_in_none
