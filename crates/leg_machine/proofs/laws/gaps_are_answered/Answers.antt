use Rattle.leg_machine.proofs.Gaps.{each-answered, full-anew}
use Rattle.leg_machine.proofs.laws.gaps_are_answered.Goals as goal

pub returns-clause-always : goal.returns-clause-always
returns-clause-always c leg frame message now none = each-answered leg frame message now none

pub returns-clause-another : goal.returns-clause-another
returns-clause-another c leg frame now other = full-anew leg frame now other
