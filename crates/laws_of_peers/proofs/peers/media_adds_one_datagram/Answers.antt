use Rattle.laws_of_peers.proofs.Bursts.{media_order_adds}
use Rattle.laws_of_peers.proofs.peers.media_adds_one_datagram.Goals as goal

pub returns-clause-most : goal.returns-clause-most
returns-clause-most c peer name order now is = (media_order_adds peer name order now is).most

pub returns-clause-kept : goal.returns-clause-kept
returns-clause-kept c peer name order now is fits = (media_order_adds peer name order now is).kept fits
