use Rattle.std.specs.Prelude.{All}
use Rattle.std.proofs.Common.{Bor, ◌∙◌, ap, subst}
use Rattle.std.proofs.lemmas.List.{take_all}
use Rattle.std.proofs.lemmas.List.Elements.{All-more}
use Rattle.exchange_core.specs.Leaving.{departure_of}
use Rattle.exchange_core.specs.declared.answers.Retired.{Retired}
use Rattle.udp_workers.specs.declared.report.TurnReport.{TurnReport}
use Rattle.udp_workers.proofs.tally.Tally.observe_retired.Goals as goal

pub loop-leg-preserved : goal.loop-leg-preserved
loop-leg-preserved g c =
    let l = c.loop-leg in
    let counted = c.observe.ensures.counted in
    let watch = c.observe.ensures.watch ∙ l.invariant.watch in
    let given = subst (λ (w : Bor g.row.V.Denot). g.V.Watch.given w.now (departure_of c.leg-item.result)) watch
    c.retire.ensures in
    record {
      only = record {
        received = ap (λ (r : TurnReport). r.received) counted ∙ l.invariant.only.received;
        refused = ap (λ (r : TurnReport). r.refused) counted ∙ l.invariant.only.refused;
        sent = ap (λ (r : TurnReport). r.sent) counted ∙ l.invariant.only.sent;
        lost = ap (λ (r : TurnReport). r.lost) counted ∙ l.invariant.only.lost;
        faults = ap (λ (r : TurnReport). r.faults) counted ∙ l.invariant.only.faults;
      };
      watch = watch;
      given =
          All-more (λ (leg : Retired). g.V.Watch.given c.args.self.now.watch.now (departure_of leg)) c.args.legs.now l.leg-index
          c.leg-item.result
          c.loop-leg-test.true l.invariant.given
          (subst (λ (leg : Retired). g.V.Watch.given c.args.self.now.watch.now (departure_of leg)) c.leg-item.is given);
    }

pub returns-clause-given : goal.returns-clause-given
returns-clause-given g c =
    subst (All (λ (leg : Retired). g.V.Watch.given c.args.self.now.watch.now (departure_of leg)))
    (take_all c.loop-leg.leg-index c.args.legs.now c.loop-leg-test.false) c.loop-leg.invariant.given
