use denote.Param.Send.{sendable}
use Rattle.udp_workers.proofs.seat.WatchedExchange.run_beside.Goals as goal

-- that the closure may be called: the parameters may be sent to other threads, only by their own bounds
pub scoped-requires : goal.scoped-requires
scoped-requires g c = record { at = λ a. search sendable parts 8 }
