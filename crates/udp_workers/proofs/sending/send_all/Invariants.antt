use Rattle.std.proofs.Common.{◌≡◌, ◌≢◌, ◌+◌, ◌≤◌, ℕ, List, length}
use Rattle.peer_plan.specs.declared.endpoint.Endpoint.{Endpoint}
use Rattle.udp_wires.specs.Counts.{RiseAlike}
use Rattle.udp_workers.specs.Events.{CountsSends}
use Rattle.udp_workers.specs.Emptied.{HandsOut}
use Rattle.udp_workers.proofs.sending.send_all.Given as goal

abbrev pub invariant-loop : goal.invariant-loop
invariant-loop g l = record {
  emptied : l.tally.report.sent + l.tally.report.lost ≤ l.fn.tally.report.sent + l.fn.tally.report.lost + l.counter;
  more : l.fn.tally.report.sent + l.fn.tally.report.lost ≤ l.tally.report.sent + l.tally.report.lost;
  some_lost : l.tally.report.faults + l.fn.tally.report.lost ≤ l.fn.tally.report.faults + l.tally.report.lost;
  few_faults : l.tally.report.faults ≤ l.fn.tally.report.faults + l.counter;
  more_lost : l.fn.tally.report.lost ≤ l.tally.report.lost;
  received : l.tally.report.received ≡ l.fn.tally.report.received;
  refused : l.tally.report.refused ≡ l.fn.tally.report.refused;
  watch : l.tally.watch ≡ l.fn.tally.watch;
  given : RiseAlike (g.W.Wire.given l.fn.wire) (g.W.Wire.given l.wire) (l.fn.tally.report.sent + l.fn.tally.report.lost)
      (l.tally.report.sent + l.tally.report.lost);
  to : RiseAlike (g.W.Wire.given_to l.fn.wire l.to) (g.W.Wire.given_to l.wire l.to)
      (l.fn.tally.report.sent + l.fn.tally.report.lost) (l.tally.report.sent + l.tally.report.lost);
  others : (other : Endpoint) → other ≢ l.to → g.W.Wire.given_to l.wire other ≡ g.W.Wire.given_to l.fn.wire other;
  faults : RiseAlike (g.W.Wire.failures l.fn.wire) (g.W.Wire.failures l.wire) l.fn.tally.report.faults l.tally.report.faults;
  peers : g.W.Wire.peers l.wire ≡ g.W.Wire.peers l.fn.wire;
  counts : CountsSends l.fn.tally.report l.tally.report (g.W.Wire.went l.fn.wire) (g.W.Wire.went l.wire) (g.W.Wire.sent l.fn.wire)
      (g.W.Wire.sent l.wire);
  came : g.W.Wire.came l.wire ≡ g.W.Wire.came l.fn.wire;
  hands : (outs : List (List ℕ)) × (length outs ≡ l.counter) × HandsOut l.peer l.to outs l.fn.pass l.pass
      (g.W.Wire.went l.fn.wire) (g.W.Wire.went l.wire);
}
