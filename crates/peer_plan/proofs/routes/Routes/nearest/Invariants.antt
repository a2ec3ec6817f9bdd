use Rattle.std.proofs.Common.{◌≤◌, length}
use Rattle.peer_plan.proofs.RouteLaws.{FitWithin}
use Rattle.peer_plan.proofs.routes.Routes.nearest.Given as goal

-- the routes with longer prefixes were looked for
abbrev pub invariant-loop-route : goal.invariant-loop-route
invariant-loop-route l = (l.length ≤ length l.text) × FitWithin l.avoids_return l.self l.caller l.text l.length

abbrev pub decreases-loop-route : goal.decreases-loop-route
decreases-loop-route l = l.length
