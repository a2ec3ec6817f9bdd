use Rattle.std.proofs.Common.{◌≡◌, ◌++◌, ◌≤◌, drop, length}
use Rattle.udp_workers.specs.Served.{served_of}
use Rattle.udp_workers.proofs.worker.Worker.new.Given as goal

abbrev pub invariant-loop-peer : goal.invariant-loop-peer
invariant-loop-peer l = record {
  room : length l.peers.items ≤ l.peer;
  served : l.peers.items ++ served_of (drop l.peer l.plan.peers) l.peer l.place ≡ served_of l.plan.peers 0 l.place;
}
