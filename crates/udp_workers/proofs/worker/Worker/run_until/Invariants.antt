use Rattle.std.proofs.Common.{◌≡◌, ◌+◌, ◌*◌, ◌≤◌}
use Rattle.udp_wires.specs.Counts.{RisesBy}
use Rattle.udp_workers.specs.Events.{CountsSends, nothing}
use Rattle.udp_workers.specs.Handed.{GivesAll}
use Rattle.udp_workers.specs.Intake.{last_moment}
use Rattle.udp_workers.specs.Runs.{RunsTurns}
use Rattle.udp_workers.specs.Ticked.{IsLater}
use Rattle.udp_workers.proofs.worker.Worker.run_until.Given as goal

abbrev pub invariant-loop-made : goal.invariant-loop-made
invariant-loop-made g l = record {
  received : l.tally.report.received ≤ 64 * l.made;
  refused : l.tally.report.refused ≤ l.tally.report.received;
  emptied : l.tally.report.sent + l.tally.report.lost ≤ 256 * 32 * l.made;
  faults : l.tally.report.faults ≤ l.tally.report.lost + l.made;
  watch : l.tally.watch.now ≡ l.watch;
  given : RisesBy (g.W.Wire.given l.fn.wire) (g.W.Wire.given l.wire) (l.tally.report.sent + l.tally.report.lost);
  failures : RisesBy (g.W.Wire.failures l.fn.wire) (g.W.Wire.failures l.wire) l.tally.report.faults;
  counts : CountsSends nothing l.tally.report (g.W.Wire.went l.fn.wire) (g.W.Wire.went l.wire) (g.W.Wire.sent l.fn.wire)
      (g.W.Wire.sent l.wire);
  wire : g.W.Wire.peers l.wire ≡ g.W.Wire.peers l.fn.wire;
  steps : l.fn.pass.credit.steps + l.tally.report.received ≤ l.pass.credit.steps + l.tally.report.refused;
  later : IsLater l.fn.pass l.pass;
  handed : GivesAll (g.V.Watch.given l.watch) l.fn.pass l.pass;
  place : l.self.place ≡ l.fn.self.place;
  peers : l.self.peers ≡ l.fn.self.peers;
  intake : (run : RunsTurns (g.V.Watch.observed l.watch) g.M.TurnClock.gave g.C.Challenges.gave l.fn.context.moments.now l.moments
      l.fn.context.challenges.now l.challenges l.intake l.exchange l.fn.self.peers l.tally.report.received l.fn.pass l.pass
      (record { came = g.W.Wire.came l.fn.wire; went = g.W.Wire.went l.fn.wire })
      (record { came = g.W.Wire.came l.wire; went = g.W.Wire.went l.wire }))
      × (run.left ≡ l.inbox.datagram) × (l.before ≡ last_moment run.turns);
  turns : RisesBy l.fn.self.turns l.self.turns l.made;
}
