use Rattle.std.proofs.Common.{◌≡◌}
use Rattle.peer_plan.specs.Plan.{counts_of}
use Rattle.worker_setup.specs.Skipping.{SkippedBefore, stream_at}
use Rattle.worker_setup.proofs.skipping.skip_each.Given as goal

abbrev pub invariant-loop-place : goal.invariant-loop-place
invariant-loop-place g l = record {
  stream : g.G.Rng.stream l.generator ≡ stream_at (counts_of l.exchange.peers) (g.G.Rng.stream l.fn.generator) l.place;
  skipped : SkippedBefore (counts_of l.exchange.peers) (g.G.Rng.stream l.fn.generator) l.place l.fn.pass l.pass;
}
