use Rattle.std.proofs.Common.{◌≡◌, ◌+◌, ◌≤◌}
use Rattle.peer_plan.specs.declared.endpoint.Endpoint.{Endpoint}
use Rattle.udp_wires.specs.Counts.{RiseAlike}
use Rattle.udp_workers.specs.Handed.{GivesAll}
use Rattle.udp_workers.specs.Intake.{waiting}
use Rattle.udp_workers.specs.Ticked.{IsLater}
use Rattle.udp_workers.proofs.IntakeLaws.{TakesSoFar}
use Rattle.udp_workers.proofs.receiving.receive_all.Given as goal

abbrev pub invariant-loop : goal.invariant-loop
invariant-loop g l = record {
  received : l.tally.report.received ≤ l.fn.tally.report.received + l.counter;
  more : l.fn.tally.report.received ≤ l.tally.report.received;
  refused : l.tally.report.refused + l.fn.tally.report.received ≤ l.fn.tally.report.refused + l.tally.report.received;
  no_fault : l.tally.report.faults ≡ l.fn.tally.report.faults;
  sent : l.tally.report.sent ≡ l.fn.tally.report.sent;
  lost : l.tally.report.lost ≡ l.fn.tally.report.lost;
  watch : l.tally.watch ≡ l.fn.tally.watch;
  went : g.W.Wire.went l.wire ≡ g.W.Wire.went l.fn.wire;
  wire_sent : g.W.Wire.sent l.wire ≡ g.W.Wire.sent l.fn.wire;
  given : g.W.Wire.given l.wire ≡ g.W.Wire.given l.fn.wire;
  given_to : (to : Endpoint) → g.W.Wire.given_to l.wire to ≡ g.W.Wire.given_to l.fn.wire to;
  failures : RiseAlike (g.W.Wire.failures l.fn.wire) (g.W.Wire.failures l.wire) l.fn.tally.report.faults l.tally.report.faults;
  peers : g.W.Wire.peers l.wire ≡ g.W.Wire.peers l.fn.wire;
  steps : l.fn.pass.credit.steps + l.tally.report.received + l.fn.tally.report.refused ≤ l.pass.credit.steps
      + l.tally.report.refused + l.fn.tally.report.received;
  later : IsLater l.fn.pass l.pass;
  handed : GivesAll (g.V.Watch.given l.fn.tally.watch.now) l.fn.pass l.pass;
  none_lost : RiseAlike l.fn.inbox.given l.inbox.given (l.fn.tally.report.received + waiting l.fn.inbox.datagram)
      (l.tally.report.received + waiting l.inbox.datagram);
  takes : TakesSoFar (g.V.Watch.observed l.fn.tally.watch.now) l.turn.intake l.turn.exchange.now (record {
    stage = l.turn.stage;
    now = l.turn.time;
    challenge = l.turn.challenge.now;
  })
      l.fn.inbox.datagram l.inbox.datagram l.taken l.counter l.fn.tally.report.received l.tally.report.received l.fn.pass l.pass
      (g.W.Wire.came l.fn.wire) (g.W.Wire.came l.wire);
}
