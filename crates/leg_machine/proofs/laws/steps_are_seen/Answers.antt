use Rattle.leg_machine.proofs.SeenFrames.{frame-seen}
use Rattle.leg_machine.proofs.SeenOrders.{order-seen, order-wrong}
use Rattle.leg_machine.proofs.SeenTicks.{opening-seen, tick-seen}
use Rattle.leg_machine.proofs.laws.steps_are_seen.Goals as goal

pub returns-clause-frames : goal.returns-clause-frames
returns-clause-frames c leg frame now = frame-seen leg frame now

pub returns-clause-orders : goal.returns-clause-orders
returns-clause-orders c leg order now unrefused = order-seen leg order now unrefused

pub returns-clause-wrong_stages : goal.returns-clause-wrong_stages
returns-clause-wrong_stages c leg order now = order-wrong leg order now

pub returns-clause-ticks : goal.returns-clause-ticks
returns-clause-ticks c grown leg now = tick-seen grown leg now

pub returns-clause-calls_in : goal.returns-clause-calls_in
returns-clause-calls_in c rules number frame now challenge some = opening-seen rules number frame now challenge some
