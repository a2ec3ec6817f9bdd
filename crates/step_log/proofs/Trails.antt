-- A note owns nothing, so it may go to another thread.
use denote.Param.Send.{IsSend, owning_send}
use Rattle.step_log.specs.contracts.trail.Trail.{the_row, the_type}

pub trail_send : IsSend the_row
trail_send = owning_send the_type tt (λ d. tt) (λ k x w. tt)
