use denote.Param.Send.{IsSend}
use Rattle.step_log.proofs.Trails.{trail_send}
use Rattle.step_log.specs.contracts.trail.Trail.{the_row}

pub send : IsSend the_row
send = trail_send
