use Rattle.std.proofs.Common.{IsFalse}
use Rattle.udp_workers.proofs.seat.WatchedExchange.start_until.Given as goal

abbrev pub invariant-loop-seat : goal.invariant-loop-seat
invariant-loop-seat g l = IsFalse l.started → g.V.Watch.lacks_thread l.self.watch.now
