use Rattle.std.proofs.Common.{rules}
use Rattle.leg_machine.proofs.leg.Leg.caller.Goals as goal

pub returns : goal.returns
returns c = search rules
