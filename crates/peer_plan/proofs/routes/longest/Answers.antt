use Rattle.std.proofs.Common.{◌≤◌, length, take, ap, take_all, arith}
use Rattle.std.proofs.lemmas.List.{take_more}
use Rattle.std.proofs.lemmas.List.Elements.{All-push}
use Rattle.peer_plan.proofs.routes.longest.Goals as goal

pub loop-route-preserved : goal.loop-route-preserved
loop-route-preserved c =
    let routes = c.args.routes.now in
    let i = c.loop-route.route-index in
    let route = c.route-item.result in
    let long = ap length c.as_str.ensures.value in
    rw (take_more routes i route c.loop-route-test.true, ← c.route-item.is)
    (All-push (λ route. length route.prefix ≤ c.max-longest.result) (take i routes) route
    (λ k d lt. let le = c.loop-route.invariant k d lt in omega (arith, le, c.max-longest.ensures))
    (omega (arith, long, c.max-longest.ensures)))

pub returns : goal.returns
returns c = rw (take_all c.loop-route.route-index c.args.routes.now c.loop-route-test.false) at c.loop-route.invariant
