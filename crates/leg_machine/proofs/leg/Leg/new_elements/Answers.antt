use Rattle.std.proofs.Common.{rules}
use Rattle.leg_machine.proofs.leg.Leg.new_elements.Goals as goal

pub returns-clause-elements : goal.returns-clause-elements
returns-clause-elements c = search rules
