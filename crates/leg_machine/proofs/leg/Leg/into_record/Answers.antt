use Rattle.std.proofs.Common.{rules}
use Rattle.leg_machine.proofs.leg.Leg.into_record.Goals as goal

pub returns-clause-entries : goal.returns-clause-entries
returns-clause-entries c = search rules
