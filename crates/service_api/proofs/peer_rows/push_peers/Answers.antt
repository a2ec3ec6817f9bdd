use Rattle.service_api.proofs.Telling.{peers_more}
use Rattle.service_api.proofs.peer_rows.push_peers.Goals as goal

pub loop-place-preserved : goal.loop-place-preserved
loop-place-preserved g c =
    peers_more _ _ _ _ _ _ _ _ _ c.loop-place.invariant c.new-peer.ensures c.in_ok-push_peer.ensures
