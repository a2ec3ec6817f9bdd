use Rattle.std.proofs.Common.{◌≡◌, rules, length, arith, sym, subst}
use Rattle.exchange_core.specs.Start.{AreFirstPeers, IsFirstPeer}
use Rattle.exchange_core.proofs.Pops.{replicate-less}
use Rattle.exchange_core.proofs.Starting.{first_pushed}
use Rattle.exchange_core.proofs.opening.push_cells.Goals as goal

pub loop-place-preserved : goal.loop-place-preserved
loop-place-preserved g c =
    let plan = c.args.plan.now in
    let peer = c.loop-place.place in
    let cells = c.loop-place.cells.items in
    let count : length cells ≡ peer = search rules in record {
      octets = replicate-less _ _ _ _ (c.last_of-o.ensures.equal _ _ c.loop-place.invariant.octets).1;
      steps = replicate-less _ _ _ _ (c.last_of-s.ensures.equal _ _ c.loop-place.invariant.steps).1;
      made = omega (arith, c.in_ok-push.ensures.len, c.loop-place.invariant.made);
      first = subst (AreFirstPeers plan 0) (sym c.in_ok-push.ensures.items)
          (first_pushed plan 0 peer cells c.new.result c.loop-place.invariant.first (omega (arith, count))
          (subst (IsFirstPeer plan peer) (sym c.new.ensures) (rw c.new-peer.ensures at c.in_ok-state.ensures)));
    }
