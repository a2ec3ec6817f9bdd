use Rattle.std.proofs.Common.{◌≡◌, length}
use Rattle.peer_plan.specs.Reading.{has_same_endpoint}
use Rattle.peer_plan.proofs.reading.peers.has_same_endpoint.Given as goal

abbrev pub invariant-peers : goal.invariant-peers
invariant-peers l = has_same_endpoint l.rest ≡ has_same_endpoint l.peers

abbrev pub decreases-peers : goal.decreases-peers
decreases-peers l = length l.rest
