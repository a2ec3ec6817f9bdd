use Rattle.std.proofs.Common.{◌≡◌, ◌+◌, ◌-◌, ◌≤◌, Some, sym, ap, ◌∙◌, subst, get_or, arith, take}
use Rattle.std.proofs.lemmas.List.{take_more}
use Rattle.std.proofs.lemmas.Option.{slice_get_within}
use Rattle.std.specs.Prelude.{Contains, slice_get}
use Rattle.udp_workers.specs.Emptied.{EmptiesDue}
use Rattle.udp_workers.specs.Served.{endpoint_at}
use Rattle.udp_workers.proofs.CountLaws.{ahead_next, by_as_much, counts_on, each_next}
use Rattle.udp_workers.proofs.EmptyingLaws.{empties_more}
use Rattle.udp_workers.proofs.ServedLaws.{endpoint_among, endpoint_there}
use Rattle.udp_workers.proofs.turning.empty_due.Goals as goal

pub send_if_due-is_full-requires-clause-to : goal.send_if_due-is_full-requires-clause-to
send_if_due-is_full-requires-clause-to g c κs within =
    let l = c.loop-peer in
    let peers = c.args.peers.now in
    let to = c.endpoint-to.result in
    let at : endpoint_at c.args.turn.now.exchange.now (get_or peers l.peer-index 0) ≡ Some to =
    ap (λ plan. endpoint_at plan (get_or peers l.peer-index 0)) (sym c.plan.ensures)
    ∙ (rw c.new-peer.ensures at c.endpoint-to.ensures) in
    subst (λ ends. Contains ends to) (sym l.invariant.peers) (endpoint_among c.args.turn.now.exchange.now peers _ l.peer-index to
    c.requires.wire c.loop-peer-test.true at)

pub loop-peer-preserved : goal.loop-peer-preserved
loop-peer-preserved g c =
    let l = c.loop-peer in
    let gone = c.send_if_due-is_full in
    let peers = c.args.peers.now in
    let ends = g.W.Wire.peers c.args.wire.now in
    let to = c.endpoint-to.result in
    let at : endpoint_at c.args.turn.now.exchange.now (get_or peers l.peer-index 0) ≡ Some to =
    ap (λ plan. endpoint_at plan (get_or peers l.peer-index 0)) (sym c.plan.ensures)
    ∙ (rw c.new-peer.ensures at c.endpoint-to.ensures) in
    let there : slice_get ends l.peer-index ≡ Some to = endpoint_there c.args.turn.now.exchange.now peers ends l.peer-index to
    c.requires.wire c.loop-peer-test.true at in
    let first = g.W.Wire.given_to c.args.wire.now in
    let before = g.W.Wire.given_to l.wire in
    let after = g.W.Wire.given_to gone.new.wire in
    let was = l.tally.report.sent + l.tally.report.lost in
    let is = gone.new.tally.report.sent + gone.new.tally.report.lost in
    let few : is - was ≤ 256 = omega arith in
    let rises = by_as_much (before to) (after to) was is gone.ensures.to gone.ensures.more in
    let place_within = slice_get_within ends l.peer-index to there in
    record {
      emptied = omega arith;
      some_lost = omega arith;
      more = omega arith;
      few_faults = omega arith;
      received = gone.ensures.received ∙ l.invariant.received;
      refused = gone.ensures.refused ∙ l.invariant.refused;
      watch = gone.ensures.watch ∙ l.invariant.watch;
      given = omega arith;
      each = each_next first before after ends l.peer-index (is - was) to there gone.ensures.others l.invariant.ahead place_within
          few rises l.invariant.each;
      ahead = ahead_next first before after ends l.peer-index (is - was) to there gone.ensures.others l.invariant.ahead
          place_within c.requires.apart;
      faults = omega arith;
      peers = gone.ensures.peers ∙ l.invariant.peers;
      counts = counts_on c.args.tally.now.report l.tally.report gone.new.tally.report _ _ _ _ _ _ l.invariant.counts
          gone.ensures.counts;
      came = gone.ensures.came ∙ l.invariant.came;
      empties =
          subst (λ first. EmptiesDue c.args.turn.now.exchange.now c.args.turn.now.all first c.args.pass.now gone.new.pass
          (g.W.Wire.went c.args.wire.now) (g.W.Wire.went gone.new.wire))
          (sym (take_more peers l.peer-index 0 c.loop-peer-test.true))
          (empties_more c.args.turn.now.exchange.now c.args.turn.now.all (take l.peer-index peers) (get_or peers l.peer-index 0)
          to c.args.pass.now l.pass gone.new.pass
          (g.W.Wire.went c.args.wire.now) (g.W.Wire.went l.wire) (g.W.Wire.went gone.new.wire) l.invariant.empties at
          (rw c.new-peer.ensures at gone.ensures.empties));
    }
