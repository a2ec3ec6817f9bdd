use Rattle.std.proofs.Common.{rules}
use Rattle.udp_workers.proofs.seat.Seat.new.Goals as goal

pub invariant_of-new : goal.invariant_of-new
invariant_of-new c = search rules
