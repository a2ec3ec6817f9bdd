use Rattle.std.proofs.Common.{◌≡◌, ◌+◌, ◌*◌, ◌≤◌, sum, vec_len}
use Rattle.std.specs.Vec.{vec_capacity}
use Rattle.peer_lock.specs.Accounts.{carried}
use Rattle.exchange_core.specs.Sums.{accounts_of}
use Rattle.exchange_core.proofs.shares.part_peers.Given as goal

abbrev pub invariant-loop-cell : goal.invariant-loop-cell
invariant-loop-cell g l = record {
  peers_len : vec_len l.peers + vec_len l.cells ≡ vec_len l.fn.cells;
  octets_len : vec_len l.octets ≡ vec_len l.peers;
  steps_len : vec_len l.steps ≡ vec_len l.peers;
  peers_room : vec_capacity l.peers ≡ vec_capacity l.initial.peers;
  octets_room : vec_capacity l.octets ≡ vec_capacity l.initial.octets;
  steps_room : vec_capacity l.steps ≡ vec_capacity l.initial.steps;
  octets : sum l.octets.items + (accounts_of l.peers.items).accepted ≡ vec_len l.peers * g.J.LedgerSet.first_octets
      + carried (accounts_of l.peers.items);
  steps : sum l.steps.items + (accounts_of l.peers.items).steps ≡ vec_len l.peers * g.J.LedgerSet.first_steps;
  within : (accounts_of l.peers.items).accepted ≤ vec_len l.peers * g.J.LedgerSet.first_octets;
  quelched : (accounts_of l.peers.items).quelched ≤ (accounts_of l.peers.items).dropped;
}

abbrev pub decreases-loop-cell : goal.decreases-loop-cell
decreases-loop-cell g l = vec_len l.cells
