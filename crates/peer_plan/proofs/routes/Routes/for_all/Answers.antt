use Rattle.std.proofs.Common.{◌≡◌, ap, sym, ◌∙◌, arith, rules, slice_index_or}
use Rattle.std.proofs.lemmas.Bool.Decides.{nat_tests}
use Rattle.peer_plan.specs.Plan.{is_open_to}
use Rattle.peer_plan.proofs.RouteLaws.{none_for_all}
use Rattle.peer_plan.proofs.routes.Routes.for_all.Goals as goal

pub returns-then-eq-clause-none : goal.returns-then-eq-clause-none
returns-then-eq-clause-none c = λ k d lt prefix source.
    let found = c.in_ok-route.ensures.found in
    let same : c.in_ok-route.route.now.peer ≡ c.args.caller = grind (arith, nat_tests, c.if-eq.ensures) in
    let none = none_for_all c.args.self.now c.args.caller c.in_ok-route.route.now c.requires found.0 found.2 same in
    ap (λ avoids_return. is_open_to avoids_return c.args.caller (slice_index_or c.args.self.now k d)) c.if-avoids_return.true
    ∙ none k d lt (prefix ∙ sym found.1) source
