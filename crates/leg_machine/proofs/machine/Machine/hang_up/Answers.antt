use Rattle.std.proofs.Common.{rules}
use Rattle.leg_machine.proofs.machine.Machine.hang_up.Goals as goal

pub returns-then-not-grown-clause-leg : goal.returns-then-not-grown-clause-leg
returns-then-not-grown-clause-leg c = search rules

pub returns-clause-leg : goal.returns-clause-leg
returns-clause-leg c = search rules

pub returns-clause-replies : goal.returns-clause-replies
returns-clause-replies c = search rules
