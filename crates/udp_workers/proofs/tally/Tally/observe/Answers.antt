use Rattle.udp_workers.proofs.EventLaws.{tells_more}
use Rattle.udp_workers.proofs.tally.Tally.observe.Goals as goal

pub invariant_of-self : goal.invariant_of-self
invariant_of-self g c =
    let tally = c.args.self.now in
    record {
      observed = tells_more (g.V.Watch.observed tally.watch.now) tally.report c.counted-self.result c.args.event c.observe.ensures
          c.counted-self.ensures tally.observed;
    }
