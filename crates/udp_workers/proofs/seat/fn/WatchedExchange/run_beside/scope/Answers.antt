use denote.Param.Send.{sendable}
use Rattle.udp_workers.proofs.seat.fn.WatchedExchange.run_beside.scope.Goals as goal

-- that the parameters may be sent to other threads, only by their own bounds: among all that the closure captures, the
-- search fails
pub start_until-started-requires : goal.start_until-started-requires
start_until-started-requires g c k = (
  search sendable parts 8,
  (
    search sendable parts 8,
    (
      search sendable parts 8,
      (
        search sendable parts 8,
        (
          search sendable parts 8,
          (search sendable parts 8, (search sendable parts 8, (search sendable parts 8, search sendable parts 8))),
        ),
      ),
    ),
  ),
)

pub run-requires : goal.run-requires
run-requires g c = search sendable parts 8
