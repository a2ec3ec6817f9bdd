use Rattle.std.proofs.Common.{◌≡◌, ◌+◌, ◌*◌, ◌≤◌, length, take}
use Rattle.std.specs.List.{AllWithin}
use Rattle.peer_plan.specs.declared.endpoint.Endpoint.{Endpoint}
use Rattle.udp_wires.specs.Counts.{RiseAlike, RisesByAtMost}
use Rattle.udp_workers.specs.Events.{CountsSends}
use Rattle.udp_workers.specs.Emptied.{EmptiesDue}
use Rattle.udp_workers.proofs.turning.empty_due.Given as goal

abbrev pub invariant-loop-peer : goal.invariant-loop-peer
invariant-loop-peer g l = record {
  emptied : l.tally.report.sent + l.tally.report.lost ≤ l.fn.tally.report.sent + l.fn.tally.report.lost + 256 * l.peer-index;
  some_lost : l.tally.report.faults + l.fn.tally.report.lost ≤ l.fn.tally.report.faults + l.tally.report.lost;
  more : l.fn.tally.report.sent + l.fn.tally.report.lost ≤ l.tally.report.sent + l.tally.report.lost;
  few_faults : l.tally.report.faults ≤ l.fn.tally.report.faults + 256 * l.peer-index;
  received : l.tally.report.received ≡ l.fn.tally.report.received;
  refused : l.tally.report.refused ≡ l.fn.tally.report.refused;
  watch : l.tally.watch ≡ l.fn.tally.watch;
  given : RiseAlike (g.W.Wire.given l.fn.wire) (g.W.Wire.given l.wire) (l.fn.tally.report.sent + l.fn.tally.report.lost)
      (l.tally.report.sent + l.tally.report.lost);
  each : (to : Endpoint) → RisesByAtMost 256 (g.W.Wire.given_to l.fn.wire to) (g.W.Wire.given_to l.wire to);
  ahead : AllWithin (λ to. g.W.Wire.given_to l.wire to ≡ g.W.Wire.given_to l.fn.wire to) (g.W.Wire.peers l.fn.wire) l.peer-index
      (length (g.W.Wire.peers l.fn.wire));
  faults : RiseAlike (g.W.Wire.failures l.fn.wire) (g.W.Wire.failures l.wire) l.fn.tally.report.faults l.tally.report.faults;
  peers : g.W.Wire.peers l.wire ≡ g.W.Wire.peers l.fn.wire;
  counts : CountsSends l.fn.tally.report l.tally.report (g.W.Wire.went l.fn.wire) (g.W.Wire.went l.wire) (g.W.Wire.sent l.fn.wire)
      (g.W.Wire.sent l.wire);
  came : g.W.Wire.came l.wire ≡ g.W.Wire.came l.fn.wire;
  empties : EmptiesDue l.turn.exchange.now l.turn.all (take l.peer-index l.peers) l.fn.pass l.pass (g.W.Wire.went l.fn.wire)
      (g.W.Wire.went l.wire);
}
