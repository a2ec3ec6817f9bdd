use Rattle.std.proofs.Common.{◌≡◌}
use Rattle.udp_wires.specs.MioWire.{peers_of}
use Rattle.exchange_tests.proofs.tests.wires.loopback.turn_until_rejected.Given as goal

abbrev pub invariant-loop : goal.invariant-loop
invariant-loop g l = record {
  place : l.worker.place ≡ l.fn.worker.place;
  peers : l.worker.peers ≡ l.fn.worker.peers;
  wire : peers_of l.wire ≡ peers_of l.fn.wire;
}
