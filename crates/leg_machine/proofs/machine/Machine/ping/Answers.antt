use Rattle.std.proofs.Common.{rules}
use Rattle.leg_machine.proofs.machine.Machine.ping.Goals as goal

pub returns-then-not-grown-clause-leg : goal.returns-then-not-grown-clause-leg
returns-then-not-grown-clause-leg c = search rules
