use Rattle.std.proofs.Common.{length}
use Rattle.trunk_packer.proofs.WholeLaws.{IsCounting}
use Rattle.trunk_packer.proofs.packer.Packer.call_entries.Given as goal

abbrev pub invariant-loop-entry : goal.invariant-loop-entry
invariant-loop-entry l = IsCounting l.number l.initial.left l.left l.entries

abbrev pub decreases-loop-entry : goal.decreases-loop-entry
decreases-loop-entry l = length l.left
