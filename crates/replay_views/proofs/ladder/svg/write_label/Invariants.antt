use Rattle.std.proofs.Common.{length}
use Rattle.replay_views.proofs.ladder.svg.write_label.Given as goal

abbrev pub decreases-loop-rest : goal.decreases-loop-rest
decreases-loop-rest l = length l.rest
