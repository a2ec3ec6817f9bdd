use Rattle.leg_machine.proofs.Finished.{tries-finish, tick-tries-finish, tick-done}
use Rattle.leg_machine.proofs.laws.ticks_finish_their_tries.Goals as goal

pub returns-clause-tries : goal.returns-clause-tries
returns-clause-tries c leg now some = tries-finish leg now some

pub returns-clause-after_hanging_up : goal.returns-clause-after_hanging_up
returns-clause-after_hanging_up c grown leg now some = tick-tries-finish grown leg now some

pub returns-clause-after_tick : goal.returns-clause-after_tick
returns-clause-after_tick c grown leg now some = tick-done grown leg now some
