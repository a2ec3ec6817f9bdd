use Rattle.std.proofs.Common.{length}
use Rattle.replay_views.proofs.ladder.elements.write_elements.Given as goal

abbrev pub decreases-loop-number : goal.decreases-loop-number
decreases-loop-number l = length l.rest
