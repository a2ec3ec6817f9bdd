use denote.Param.Send.{sendable}
use Rattle.exchange_service.proofs.seating.fn.run_with_threads.count_drops_beside.Goals as goal

-- that the parameters may be sent to other threads, by their own bounds, which are named: among all that the closure
-- captures, the search fails
pub write_files_beside-requires-send-J : goal.write_files_beside-requires-send-J
write_files_beside-requires-send-J g c κs within = search (sendable, c.requires) parts 8

pub write_files_beside-requires-send-J-Octets : goal.write_files_beside-requires-send-J-Octets
write_files_beside-requires-send-J-Octets g c κs within = search (sendable, c.requires) parts 8

pub write_files_beside-requires-send-J-Steps : goal.write_files_beside-requires-send-J-Steps
write_files_beside-requires-send-J-Steps g c κs within = search (sendable, c.requires) parts 8
