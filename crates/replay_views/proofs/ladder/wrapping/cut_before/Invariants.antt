use Rattle.std.proofs.Common.{◌≤◌, ◌<◌}
use Rattle.replay_views.proofs.ladder.wrapping.cut_before.Given as goal

abbrev pub invariant-loop-i : goal.invariant-loop-i
invariant-loop-i l = record {
  most : l.cut ≤ l.place;
  least : 0 < l.cut;
}
