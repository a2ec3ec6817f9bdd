use Rattle.leg_machine.proofs.Sides.{opening-turn, call-sends}
use Rattle.leg_machine.proofs.Tied.{full-turn}
use Rattle.leg_machine.proofs.TiedSends.{order-sends, tick-sends}
use Rattle.leg_machine.proofs.laws.steps_take_turns.Goals as goal

pub returns-clause-frames : goal.returns-clause-frames
returns-clause-frames c leg frame now = full-turn leg frame now

pub returns-clause-orders : goal.returns-clause-orders
returns-clause-orders c leg order now = order-sends leg order now

pub returns-clause-ticks : goal.returns-clause-ticks
returns-clause-ticks c grown leg now = tick-sends grown leg now

pub returns-clause-calls_in : goal.returns-clause-calls_in
returns-clause-calls_in c rules number frame now challenge = opening-turn rules number frame now challenge

pub returns-clause-calls_out : goal.returns-clause-calls_out
returns-clause-calls_out c rules number called caller format now = call-sends rules number called caller format now
