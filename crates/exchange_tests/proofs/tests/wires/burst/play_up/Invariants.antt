use Rattle.std.proofs.Common.{◌≡◌}
use Rattle.exchange_tests.proofs.tests.wires.burst.play_up.Given as goal

abbrev pub invariant-loop-arrival : goal.invariant-loop-arrival
invariant-loop-arrival g l = record {
  place : l.worker.place ≡ l.fn.worker.place;
  peers : l.worker.peers ≡ l.fn.worker.peers;
  wire : l.wire.peers.endpoints.items ≡ l.fn.wire.peers.endpoints.items;
}
