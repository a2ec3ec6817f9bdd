use Rattle.leg_machine.proofs.Idle.{idle-stays}
use Rattle.leg_machine.proofs.laws.idle_legs_stay.Goals as goal

pub returns : goal.returns
returns c grown leg now idle = idle-stays grown leg now idle
