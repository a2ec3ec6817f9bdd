use Rattle.leg_machine.specs.Openings.{open_in_step}
use Rattle.leg_machine.proofs.Answered.{outcome-is}
use Rattle.leg_machine.proofs.leg.Leg.open_in.Goals as goal

pub returns-clause-outcome : goal.returns-clause-outcome
returns-clause-outcome c =
    outcome-is (open_in_step c.args.rules.now c.args.number c.args.frame.now c.args.now c.args.challenge.now)
    c.in_ok-leg.leg.state c.in_ok-leg.heard
    c.open_in_into.new.replies c.onward_if-onward.result c.in_ok-leg.ensures.leg c.in_ok-leg.ensures.replies
    c.in_ok-leg.ensures.heard
    c.onward_if-onward.ensures

pub returns-clause-refines_abstract_leg : goal.returns-clause-refines_abstract_leg
returns-clause-refines_abstract_leg c = (
  c.in_ok-leg.heard.signal,
  c.onward_if-onward.ensures,
  c.in_ok-leg.ensures.refines_abstract_leg,
)
