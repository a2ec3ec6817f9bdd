use Rattle.std.proofs.Common.{take}
use Rattle.udp_workers.specs.Served.{AreEndpoints}
use Rattle.udp_workers.proofs.worker.Worker.endpoints.Given as goal

abbrev pub invariant-loop-peer : goal.invariant-loop-peer
invariant-loop-peer l = AreEndpoints l.plan (take l.peer-index l.self.peers) l.endpoints.items
