use denote.Param.Send.{sendable}
use Rattle.exchange_service.proofs.seating.fn.run_with_threads.fn.count_drops_beside.fn.write_files_beside.scope.Goals as goal
use Rattle.worker_setup.proofs.Sending.{traced_send}

-- that the parameters may be sent to other threads, by their own bounds, which are named: among all that the closure
-- captures, the search fails
pub start_until-started-requires-send-J : goal.start_until-started-requires-send-J
start_until-started-requires-send-J g c κs within = search (sendable, c.requires) parts 8

pub start_until-started-requires-send-P : goal.start_until-started-requires-send-P
start_until-started-requires-send-P g c κs within = search (sendable, c.requires) parts 8

pub start_until-started-requires-send-J-Octets : goal.start_until-started-requires-send-J-Octets
start_until-started-requires-send-J-Octets g c κs within = search (sendable, c.requires) parts 8

pub start_until-started-requires-send-J-Steps : goal.start_until-started-requires-send-J-Steps
start_until-started-requires-send-J-Steps g c κs within = search (sendable, c.requires) parts 8

pub start_until-started-requires-send-O : goal.start_until-started-requires-send-O
start_until-started-requires-send-O g c κs within = search (traced_send, sendable, c.requires) parts 8

pub run-requires-send-J : goal.run-requires-send-J
run-requires-send-J g c κs within = search (sendable, c.requires) parts 8

pub run-requires-send-J-Octets : goal.run-requires-send-J-Octets
run-requires-send-J-Octets g c κs within = search (sendable, c.requires) parts 8

pub run-requires-send-J-Steps : goal.run-requires-send-J-Steps
run-requires-send-J-Steps g c κs within = search (sendable, c.requires) parts 8
