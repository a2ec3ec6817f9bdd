use Rattle.std.proofs.Common.{◌≡◌, ◌∷◌, ◌++◌, ◌+◌, ◌==◌, [], drop, ap, sym, true, false, ◌∙◌, arith}
use Rattle.std.proofs.lemmas.Bool.{eq-eqb, eqb-true}
use Rattle.std.proofs.lemmas.Grind.{common_steps}
use Rattle.udp_workers.specs.Served.{served_of}
use Rattle.udp_workers.proofs.ServedLaws.{served_yes, served_no}
use Rattle.udp_workers.proofs.worker.Worker.new.Goals as goal
use Rattle.udp_workers.proofs.worker.Worker.new.Goals.{then-eq, else-eq}

pub loop-peer-preserved : goal.loop-peer-preserved
loop-peer-preserved c =
    let l = c.loop-peer in
    let rest = served_of (drop (l.peer + 1) c.args.plan.now.peers) (l.peer + 1) c.args.place in
    elim c.if-eq.branch [
      | then-eq w ↦
          let items : c.if-eq.peers.items ≡ l.peers.items ++ l.peer ∷ [] = ap (λ p. p.items) w.peers-is
          ∙ w.push.ensures.items in
          record {
            room = grind (arith, common_steps, items, l.invariant.room);
            served = ap (λ found. found ++ rest) items ∙ served_yes c.args.plan.now.peers l.peer c.args.place c.worker.result
                l.peers.items _ (rw c.new.ensures at c.worker.ensures.value)
                (eqb-true c.worker.result c.args.place (sym w.if-eq.ensures)) l.invariant.served;
          }
      | else-eq w ↦
          let items : c.if-eq.peers.items ≡ l.peers.items = ap (λ p. p.items) w.peers-is in
          let differ : false ≡ (c.worker.result == c.args.place) = w.if-eq.ensures in
          record {
            room = grind (arith, items, l.invariant.room);
            served = ap (λ found. found ++ rest) items ∙ served_no c.args.plan.now.peers l.peer c.args.place c.worker.result
                l.peers.items _ (rw c.new.ensures at c.worker.ensures.value)
                (λ same. let test : (c.worker.result == c.args.place) ≡ true = eq-eqb c.worker.result c.args.place same in cc)
                l.invariant.served;
          }
    ]
