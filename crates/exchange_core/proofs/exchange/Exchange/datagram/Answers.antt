use Rattle.std.specs.Prelude.{◌≡◌, ◌≢◌, All, map}
use Rattle.std.proofs.Common.{rules, ap, subst}
use Rattle.peer_plan.specs.Plan.{PlanView}
use Rattle.exchange_core.specs.Leaving.{departure_of, nobody}
use Rattle.exchange_core.proofs.Denying.{found_among}
use Rattle.exchange_core.proofs.Leaving.{nobody_left}
use Rattle.exchange_core.proofs.exchange.Exchange.datagram.Goals as goal

pub returns-in_default-clause-retired : goal.returns-in_default-clause-retired
returns-in_default-clause-retired g c = (
  nobody,
  nobody_left c.args.now c.args.pass.now,
  ap (map departure_of) c.new.ensures.items,
)

pub returns-clause-stranger : goal.returns-clause-stranger
returns-clause-stranger g c =
    let plan : c.args.self.now ≡ c.self.inside.plan = search rules in (
      λ is. absurd (c.datagram_of.ensures.known is),
      λ none. absurd (found_among c.self.inside.plan.peers c.in-Some.peer c.args.from c.in-Some.ensures.found
          (subst (λ (p : PlanView). All (λ peer. peer.endpoint ≢ c.args.from) p.peers) plan none)),
    )
