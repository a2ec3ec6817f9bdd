use Rattle.std.proofs.Common.{◌≡◌, ◌-◌, replicate, vec_len}
use Rattle.exchange_core.specs.Start.{AreFirstPeers}
use Rattle.exchange_core.proofs.opening.push_cells.Given as goal

abbrev pub invariant-loop-place : goal.invariant-loop-place
invariant-loop-place g l = record {
  octets : l.octets.items ≡ replicate (l.peers - l.place) g.J.LedgerSet.first_octets;
  steps : l.steps.items ≡ replicate (l.peers - l.place) g.J.LedgerSet.first_steps;
  made : vec_len l.cells ≡ l.place;
  first : AreFirstPeers l.plan 0 l.cells.items;
}
