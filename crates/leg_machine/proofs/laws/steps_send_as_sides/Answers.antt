use Rattle.leg_machine.specs.Openings.{open_in_step, open_out_step}
use Rattle.leg_machine.specs.Steps.{full_step}
use Rattle.leg_machine.specs.Ticks.{tick_step}
use Rattle.leg_machine.proofs.SendingSteps.{full-sent, tick-sent, call-sent}
use Rattle.leg_machine.proofs.Sides.{has-sent, order-sent, opening-sent}
use Rattle.leg_machine.proofs.laws.steps_send_as_sides.Goals as goal

pub returns-clause-frames : goal.returns-clause-frames
returns-clause-frames c leg frame now all =
    let step = full_step leg frame now in has-sent step.leg step.replies (full-sent leg frame now all)

pub returns-clause-orders : goal.returns-clause-orders
returns-clause-orders c leg order now all some few = order-sent leg order now some few all

pub returns-clause-ticks : goal.returns-clause-ticks
returns-clause-ticks c grown leg now all =
    let step = tick_step grown leg now in has-sent step.leg step.replies (tick-sent grown leg now all)

pub returns-clause-calls_in : goal.returns-clause-calls_in
returns-clause-calls_in c rules number frame now challenge =
    let step = open_in_step rules number frame now challenge in
    has-sent step.leg step.replies (opening-sent rules number frame now challenge)

pub returns-clause-calls_out : goal.returns-clause-calls_out
returns-clause-calls_out c rules number called caller format now =
    let step = open_out_step rules number called caller format now in
    has-sent step.leg step.replies (call-sent rules number called caller format now)
