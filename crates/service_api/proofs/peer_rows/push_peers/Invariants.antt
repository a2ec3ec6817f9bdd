use Rattle.service_api.specs.Peers.{TellsPeers}
use Rattle.service_api.proofs.peer_rows.push_peers.Given as goal

abbrev pub invariant-loop-place : goal.invariant-loop-place
invariant-loop-place g l = TellsPeers l.exchange l.place l.initial.pass l.pass l.initial.rows l.rows
