use Rattle.std.proofs.Common.{Bor, ◌∙◌, arith, get_or, subst, sym, take}
use Rattle.std.proofs.lemmas.List.{take_more}
use Rattle.udp_workers.specs.Handed.{GivesAll}
use Rattle.udp_workers.specs.Ticked.{TicksDue}
use Rattle.udp_workers.proofs.HandingLaws.{gives_on}
use Rattle.udp_workers.proofs.TickLaws.{due_more}
use Rattle.udp_workers.proofs.turning.tick_due.Goals as goal

pub loop-peer-preserved : goal.loop-peer-preserved
loop-peer-preserved g c =
    let l = c.loop-peer in
    let plan = c.args.turn.now.exchange.now in
    let now = c.args.turn.now.time in
    let all = c.args.turn.now.all in
    let peers = c.args.peers.now in
    let made = c.tick_if_due-is_ticked in
    let new = made.new.pass in
    let is = made.ensures in
    let ticked = due_more plan now all (take l.peer-index peers) (get_or peers l.peer-index 0) c.args.pass.now l.pass new
    l.invariant.ticked (rw c.new.ensures at made.ensures.ticked) in
    record {
      steps = omega arith;
      ticked = subst (λ first. TicksDue plan now all first c.args.pass.now new)
          (sym (take_more peers l.peer-index 0 c.loop-peer-test.true)) ticked;
      only = record {
        received = is.only.received ∙ l.invariant.only.received;
        refused = is.only.refused ∙ l.invariant.only.refused;
        sent = is.only.sent ∙ l.invariant.only.sent;
        lost = is.only.lost ∙ l.invariant.only.lost;
        faults = is.only.faults ∙ l.invariant.only.faults;
      };
      watch = is.watch ∙ l.invariant.watch;
      handed =
          gives_on (g.V.Watch.given c.args.tally.now.watch.now) c.args.pass.now l.pass new l.invariant.handed
          (subst (λ (w : Bor g.row.V.Denot). GivesAll (g.V.Watch.given w.now) l.pass new) l.invariant.watch is.handed);
    }
