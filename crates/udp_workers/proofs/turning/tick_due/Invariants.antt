use Rattle.std.proofs.Common.{◌≡◌, ◌≤◌, take}
use Rattle.udp_workers.specs.Events.{OnlyRetires}
use Rattle.udp_workers.specs.Handed.{GivesAll}
use Rattle.udp_workers.specs.Ticked.{TicksDue}
use Rattle.udp_workers.proofs.turning.tick_due.Given as goal

abbrev pub invariant-loop-peer : goal.invariant-loop-peer
invariant-loop-peer g l = record {
  steps : l.fn.pass.credit.steps ≤ l.pass.credit.steps;
  ticked : TicksDue l.turn.exchange.now l.turn.time l.turn.all (take l.peer-index l.peers) l.fn.pass l.pass;
  only : OnlyRetires l.fn.tally.report l.tally.report;
  watch : l.tally.watch ≡ l.fn.tally.watch;
  handed : GivesAll (g.V.Watch.given l.fn.tally.watch.now) l.fn.pass l.pass;
}
