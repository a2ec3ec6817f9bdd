use denote.Param.Send.{sendable}
use Rattle.udp_workers.proofs.seat.fn.WatchedExchange.start_until.spawn.Goals as goal

-- that the parameters may be sent to other threads, only by their own bounds: among all that the closure captures, the
-- search fails
pub run-requires-send-J : goal.run-requires-send-J
run-requires-send-J g c κs within = search sendable parts 8

pub run-requires-send-J-Octets : goal.run-requires-send-J-Octets
run-requires-send-J-Octets g c κs within = search sendable parts 8

pub run-requires-send-J-Steps : goal.run-requires-send-J-Steps
run-requires-send-J-Steps g c κs within = search sendable parts 8
