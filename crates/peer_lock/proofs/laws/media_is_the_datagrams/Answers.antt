use Rattle.peer_lock.proofs.Carrying.{datagram_carries}
use Rattle.peer_lock.proofs.laws.media_is_the_datagrams.Goals as goal

pub returns : goal.returns
returns c first peer octets datagram now spelled = datagram_carries c.media_is_the_frames.ensures first peer octets datagram now
    spelled
