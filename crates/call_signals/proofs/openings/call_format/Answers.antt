use Rattle.std.proofs.Common.{rules}
use Rattle.call_signals.proofs.openings.call_format.Goals as goal

pub returns : goal.returns
returns c = search rules
