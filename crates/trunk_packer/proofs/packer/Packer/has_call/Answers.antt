use Rattle.std.proofs.Common.{◌∙◌, ap}
use Rattle.std.specs.Prelude.{nat_lt}
use Rattle.trunk_packer.proofs.WholeLaws.{has_entries}
use Rattle.trunk_packer.proofs.packer.Packer.has_call.Goals as goal

pub returns : goal.returns
returns c = ap (nat_lt 0) c.call_entries.ensures.entries ∙ has_entries c.args.number c.args.self.now
