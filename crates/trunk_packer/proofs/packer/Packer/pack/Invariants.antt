use Rattle.std.proofs.Common.{length}
use Rattle.trunk_packer.proofs.PackingLaws.{IsPacking}
use Rattle.trunk_packer.proofs.packer.Packer.pack.Given as goal

abbrev pub invariant-loop-len : goal.invariant-loop-len
invariant-loop-len l = IsPacking l.timed l.now l.initial.left l.left l.out l.entries l.media

abbrev pub decreases-loop-len : goal.decreases-loop-len
decreases-loop-len l = length l.left
