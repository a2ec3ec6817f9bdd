use Rattle.std.proofs.Common.{◌≡◌}
use Rattle.udp_workers.specs.Served.{AreEndpoints, peers_of}
use Rattle.exchange_tests.proofs.tests.wires.waking.bring_up.Given as goal

abbrev pub invariant-loop-arrival : goal.invariant-loop-arrival
invariant-loop-arrival g l = record {
  west : l.west.worker.peers ≡ peers_of l.exchange l.west.worker.place;
  west_wire : AreEndpoints l.exchange l.west.worker.peers l.west.wire.peers.endpoints.items;
  east : l.east.worker.peers ≡ peers_of l.exchange l.east.worker.place;
  east_wire : AreEndpoints l.exchange l.east.worker.peers l.east.wire.peers.endpoints.items;
}
