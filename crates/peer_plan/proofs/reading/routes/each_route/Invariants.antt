use Rattle.std.proofs.Common.{◌≡◌, [], drop}
use Rattle.toml.specs.View.{items_view}
use Rattle.peer_plan.specs.declared.key.Key.TheVariants as key
use Rattle.peer_plan.specs.Fields.{each}
use Rattle.peer_plan.specs.Reading.{route_in}
use Rattle.peer_plan.proofs.RoutesRead.{so_far}
use Rattle.peer_plan.proofs.reading.routes.each_route.Given as goal

-- the routes read so far, and the remaining tables
abbrev pub invariant-loop-item : goal.invariant-loop-item
invariant-loop-item l = each key.Route (route_in l.format l.peers) [] (items_view l.items) ≡ so_far l.format l.peers
    l.routes.items (items_view (drop l.item-index l.items))
