use Rattle.std.proofs.Common.{rules}
use Rattle.leg_machine.proofs.leg.Leg.offered_formats.Goals as goal

pub returns : goal.returns
returns c = search rules
