use Rattle.std.proofs.Common.{◌≡◌, ℕ, ◌+◌, ◌<◌, List, length, get_or, take, ap, arith}
use Rattle.std.specs.Prelude.{sum_by}
use Rattle.std.proofs.lemmas.List.Sums.{sum_by_more, sum_by_more_le}
use Rattle.peer_lock.specs.Peer.{PeerView}
use Rattle.exchange_core.proofs.settlement.sums_of.Goals as goal

-- one peer more
adds : (f : PeerView → ℕ) (peers : List PeerView) (i before here : ℕ) (peer : PeerView) → i < length peers
    → peer ≡ get_or peers i peer
    → before ≡ sum_by f (take i peers) → here ≡ f peer → before + here ≡ sum_by f (take (i + 1) peers)
adds f peers i before here peer within is sum value =
    let more = sum_by_more f peers i peer within in let same = ap f is in omega (arith, more, same)

-- its sum is within the whole one
fits : (f : PeerView → ℕ) (peers : List PeerView) (i before here most : ℕ) (peer : PeerView) → i < length peers
    → peer ≡ get_or peers i peer
    → before ≡ sum_by f (take i peers) → here ≡ f peer → sum_by f peers < most → before + here < most
fits f peers i before here most peer within is sum value less =
    let more = sum_by_more_le f peers i peer within in let same = ap f is in omega (arith, more, same)

pub overflow_add-sums : goal.overflow_add-sums
overflow_add-sums g c = omega (
  arith,
  fits (λ p. p.accounts.accepted) c.args.peers.now c.loop-peer.peer-index _ _ _
      c.peer-item.result c.loop-peer-test.true c.peer-item.is c.loop-peer.invariant.accepted c.accepted.ensures
      c.requires.accepted,
)

pub overflow_add-sums-in-loop-peer : goal.overflow_add-sums-in-loop-peer
overflow_add-sums-in-loop-peer g c = omega (
  arith,
  fits (λ p. p.accounts.packed) c.args.peers.now c.loop-peer.peer-index _ _ _
      c.peer-item.result c.loop-peer-test.true c.peer-item.is c.loop-peer.invariant.packed c.packed.ensures c.requires.packed,
)

pub overflow_add-sums-in-loop-peer-2 : goal.overflow_add-sums-in-loop-peer-2
overflow_add-sums-in-loop-peer-2 g c = omega (
  arith,
  fits (λ p. p.accounts.queued) c.args.peers.now c.loop-peer.peer-index _ _ _
      c.peer-item.result c.loop-peer-test.true c.peer-item.is c.loop-peer.invariant.queued c.queued.ensures c.requires.queued,
)

pub overflow_add-sums-in-loop-peer-3 : goal.overflow_add-sums-in-loop-peer-3
overflow_add-sums-in-loop-peer-3 g c = omega (
  arith,
  fits (λ p. p.accounts.quelched) c.args.peers.now c.loop-peer.peer-index _ _ _
      c.peer-item.result c.loop-peer-test.true c.peer-item.is c.loop-peer.invariant.quelched c.quelched.ensures.value
      c.requires.quelched,
)

pub overflow_add-sums-in-loop-peer-4 : goal.overflow_add-sums-in-loop-peer-4
overflow_add-sums-in-loop-peer-4 g c = omega (
  arith,
  fits (λ p. p.accounts.steps) c.args.peers.now c.loop-peer.peer-index _ _ _
      c.peer-item.result c.loop-peer-test.true c.peer-item.is c.loop-peer.invariant.steps c.steps.ensures c.requires.steps,
)

pub loop-peer-preserved : goal.loop-peer-preserved
loop-peer-preserved g c =
    let peers = c.args.peers.now in
    let i = c.loop-peer.peer-index in
    let peer = c.peer-item.result in
    let before = c.loop-peer.invariant in record {
      accepted = adds (λ p. p.accounts.accepted) peers i _ _ peer c.loop-peer-test.true c.peer-item.is before.accepted
          c.accepted.ensures;
      packed = adds (λ p. p.accounts.packed) peers i _ _ peer c.loop-peer-test.true c.peer-item.is before.packed c.packed.ensures;
      queued = adds (λ p. p.accounts.queued) peers i _ _ peer c.loop-peer-test.true c.peer-item.is before.queued c.queued.ensures;
      quelched = adds (λ p. p.accounts.quelched) peers i _ _ peer c.loop-peer-test.true c.peer-item.is before.quelched
          c.quelched.ensures.value;
      steps = adds (λ p. p.accounts.steps) peers i _ _ peer c.loop-peer-test.true c.peer-item.is before.steps c.steps.ensures;
    }
