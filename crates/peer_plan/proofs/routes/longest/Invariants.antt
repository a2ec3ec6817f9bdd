use Rattle.std.proofs.Common.{◌≤◌, length, All, take}
use Rattle.peer_plan.proofs.routes.longest.Given as goal

abbrev pub invariant-loop-route : goal.invariant-loop-route
invariant-loop-route l = All (λ route. length route.prefix ≤ l.longest) (take l.route-index l.routes)
