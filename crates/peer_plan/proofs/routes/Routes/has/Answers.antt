use Rattle.std.proofs.Common.{◌∙◌}
use Rattle.peer_plan.proofs.IndexLaws.{has_if_found}
use Rattle.peer_plan.proofs.routes.Routes.has.Goals as goal

pub returns : goal.returns
returns c = c.is_some.ensures ∙ has_if_found c.find.result (λ route. route.now) c.args.self.now c.args.prefix.now c.args.source
    c.find.ensures.found c.find.ensures.none
