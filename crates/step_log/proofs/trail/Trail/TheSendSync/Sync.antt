-- .. and any thread may share it
use denote.Param.Send.{IsSync, part_keyless}
use Rattle.step_log.specs.contracts.trail.Trail.{the_row}
use Rattle.step_log.proofs.trail.Trail.TheSendSync.Send.{send}

pub sync : IsSync the_row
sync = record { shared = λ d b o κ q. part_keyless the_row send q d b o }
