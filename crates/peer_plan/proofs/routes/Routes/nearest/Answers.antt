use Rattle.std.proofs.Common.{◌≡◌, ◌≤◌, ◌<◌, List, length, All, true, length-take-le, sym, subst, arith}
use Rattle.peer_plan.specs.declared.route.Route.{Route}
use Rattle.peer_plan.specs.Plan.{fits}
use Rattle.peer_plan.proofs.RouteLaws.{fit_within_first, nearest_found, not_so_long, none_fits}
use Rattle.peer_plan.proofs.routes.Routes.nearest.Goals as goal

pub loop-route-init : goal.loop-route-init
loop-route-init c =
    let most = subst (λ (routes : List Route). All (λ route. length route.prefix ≤ c.self.inside.longest) routes) c.self.view_is
    c.self.invariant.most in (
      omega (arith, c.min-length.ensures),
      fit_within_first c.args.avoids_return c.args.self.now c.args.caller c.args.text.now c.self.inside.longest
          c.min-length.result most c.min-length.ensures,
    )

pub slice_bounds-with_prefix-end : goal.slice_bounds-with_prefix-end
slice_bounds-with_prefix-end c = sym (length-take-le c.loop-route.length c.args.text.now c.loop-route.invariant.0)

pub returns-in-Some-clause-found : goal.returns-in-Some-clause-found
returns-in-Some-clause-found c =
    let found = c.in-Some.ensures.found in
    nearest_found c.args.avoids_return c.args.self.now c.args.caller c.args.text.now c.loop-route.length c.in-Some.route.now c.loop-route.invariant.0
    c.loop-route.invariant.1
    (record { listed = found.0; prefix_is = found.1; open_to = found.2; nearest = found.3 })

pub returns-then-length-eq0-clause-none : goal.returns-then-length-eq0-clause-none
returns-then-length-eq0-clause-none c =
    let shorter = not_so_long c.args.avoids_return c.args.self.now c.args.caller c.args.text.now c.loop-route.length c.loop-route.invariant.1
    c.in_default.ensures.none in
    none_fits c.args.avoids_return c.args.self.now c.args.caller c.args.text.now
    (subst (λ n. All (λ route. fits c.args.avoids_return c.args.caller c.args.text.now route ≡ true → length route.prefix < n) c.args.self.now)
    c.if-length-eq0.true shorter)

pub loop-route-preserved : goal.loop-route-preserved
loop-route-preserved c =
    let shorter = not_so_long c.args.avoids_return c.args.self.now c.args.caller c.args.text.now c.loop-route.length c.loop-route.invariant.1
    c.in_default.ensures.none in
    (omega (arith, c.loop-route.invariant.0), λ k d lt fit. let less = shorter k d lt fit in omega (arith, less))
