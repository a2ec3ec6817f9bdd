use Rattle.std.proofs.Common.{◌≡◌, ℕ, ◌+◌, ◌*◌, List, [], ◌∷◌, ◌++◌, ap, ◌∙◌, sum, arith}
use Rattle.std.specs.Prelude.{sum_by}
use Rattle.std.proofs.lemmas.List.Sums.{sum_by_push}
use Rattle.peer_lock.specs.Peer.{PeerView}
use Rattle.exchange_core.proofs.shares.part_peers.Goals as goal

-- one peer more
adds : (f : PeerView → ℕ) (peers more : List PeerView) (peer : PeerView) → more ≡ peers ++ peer ∷ []
    → sum_by f more ≡ sum_by f peers + f peer
adds f peers more peer pushed = ap (sum_by f) pushed ∙ sum_by_push f peers peer

pub loop-cell-preserved : goal.loop-cell-preserved
loop-cell-preserved g c =
    let old = c.loop-cell.invariant in
    let peers = c.loop-cell.peers.items in
    let peer = c.part_peer-peer.result.0 in
    let pushed = c.put.ensures.items in
    let accepted = adds (λ (p : PeerView). p.accounts.accepted) peers _ peer pushed in
    let packed = adds (λ (p : PeerView). p.accounts.packed) peers _ peer pushed in
    let queued = adds (λ (p : PeerView). p.accounts.queued) peers _ peer pushed in
    let dropped = adds (λ (p : PeerView). p.accounts.dropped) peers _ peer pushed in
    let quelched = adds (λ (p : PeerView). p.accounts.quelched) peers _ peer pushed in
    let made = adds (λ (p : PeerView). p.accounts.steps) peers _ peer pushed in
    let octets = ap sum c.push_reserved.ensures.items ∙ sum_by_push (λ n. n) c.loop-cell.octets.items c.part_peer-peer.result.1 in
    let steps = ap sum c.push_reserved-in-Some.ensures.items ∙ sum_by_push (λ n. n) c.loop-cell.steps.items
    c.part_peer-peer.result.2 in
    let one_more = c.put.ensures.len in
    let first_octets = ap (λ k. k * g.J.LedgerSet.first_octets) one_more in
    let first_steps = ap (λ k. k * g.J.LedgerSet.first_steps) one_more in
    record {
      peers_len = omega (arith, old.peers_len, one_more, c.in-Some.ensures.cases);
      octets_len = omega (arith, old.octets_len, one_more, c.push_reserved.ensures.len);
      steps_len = omega (arith, old.steps_len, one_more, c.push_reserved-in-Some.ensures.len);
      peers_room = c.put.ensures.capacity ∙ old.peers_room;
      octets_room = c.push_reserved.ensures.capacity ∙ old.octets_room;
      steps_room = c.push_reserved-in-Some.ensures.capacity ∙ old.steps_room;
      octets = omega (
        arith,
        old.octets,
        octets,
        accepted,
        packed,
        queued,
        dropped,
        first_octets,
        c.part_peer-peer.ensures.octets,
      );
      steps = omega (arith, old.steps, steps, made, first_steps, c.part_peer-peer.ensures.steps);
      within = omega (arith, old.within, accepted, first_octets, c.part_peer-peer.ensures.within);
      quelched = omega (arith, old.quelched, quelched, dropped, c.part_peer-peer.ensures.quelched);
    }
