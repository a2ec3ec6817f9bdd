use Rattle.std.proofs.Common.{◌∙◌, sym}
use Rattle.std.proofs.lemmas.Bool.{lt-leb}
use Rattle.trunk_packer.proofs.WholeLaws.{too_few}
use Rattle.trunk_packer.proofs.packer.Packer.has_entries.Goals as goal

pub returns-else-self-count : goal.returns-else-self-count
returns-else-self-count c =
    lt-leb _ _ c.if-self-count.false
    ∙ sym (too_few _ _ c.args.number _ _ c.self.invariant.1.entries_counted c.self.view_is c.if-self-count.false)
