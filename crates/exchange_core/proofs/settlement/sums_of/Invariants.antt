use Rattle.std.proofs.Common.{◌≡◌, take}
use Rattle.exchange_core.specs.Sums.{accounts_of}
use Rattle.exchange_core.proofs.settlement.sums_of.Given as goal

abbrev pub invariant-loop-peer : goal.invariant-loop-peer
invariant-loop-peer g l = record {
  accepted : l.sums.accepted ≡ (accounts_of (take l.peer-index l.peers)).accepted;
  packed : l.sums.packed ≡ (accounts_of (take l.peer-index l.peers)).packed;
  queued : l.sums.queued ≡ (accounts_of (take l.peer-index l.peers)).queued;
  quelched : l.sums.quelched ≡ (accounts_of (take l.peer-index l.peers)).quelched;
  steps : l.sums.steps ≡ (accounts_of (take l.peer-index l.peers)).steps;
}
