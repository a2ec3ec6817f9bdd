use Rattle.leg_machine.specs.Steps.{full_step}
use Rattle.leg_machine.proofs.Answered.{outcome-is}
use Rattle.leg_machine.proofs.leg.Leg.full.Goals as goal

pub returns-clause-outcome : goal.returns-clause-outcome
returns-clause-outcome c =
    outcome-is (full_step c.args.self.now.state c.args.frame.now c.args.now) c.full_into.new.self.state c.in_ok-heard.heard
    c.full_into.new.replies
    c.onward_if-onward.result c.in_ok-heard.ensures.leg c.in_ok-heard.ensures.replies c.in_ok-heard.ensures.heard
    c.onward_if-onward.ensures

pub returns-clause-refines_abstract_leg : goal.returns-clause-refines_abstract_leg
returns-clause-refines_abstract_leg c = (
  c.in_ok-heard.heard.signal,
  c.onward_if-onward.ensures,
  c.in_ok-heard.ensures.refines_abstract_leg,
)
