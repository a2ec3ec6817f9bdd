use Rattle.laws_of_peers.proofs.NumberTicks.{none_due}
use Rattle.laws_of_peers.proofs.peers.ticks_leave_nothing_due.Goals as goal

pub returns : goal.returns
returns c old new now report sound ticks number named at =
    none_due c.ticks_finish_their_tries.ensures.after_tick old new now report sound ticks number named at
