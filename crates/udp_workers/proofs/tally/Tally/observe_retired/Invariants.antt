use Rattle.std.proofs.Common.{◌≡◌, take}
use Rattle.std.specs.Prelude.{All}
use Rattle.exchange_core.specs.Leaving.{departure_of}
use Rattle.udp_workers.specs.Events.{OnlyRetires}
use Rattle.udp_workers.proofs.tally.Tally.observe_retired.Given as goal

abbrev pub invariant-loop-leg : goal.invariant-loop-leg
invariant-loop-leg g l = record {
  only : OnlyRetires l.fn.self.report l.self.report;
  watch : l.self.watch ≡ l.fn.self.watch;
  given : All (λ leg. g.V.Watch.given l.fn.self.watch.now (departure_of leg)) (take l.leg-index l.legs);
}
