use Rattle.std.proofs.Common.{◌≡◌, [], drop}
use Rattle.toml.specs.View.{items_view}
use Rattle.peer_plan.specs.declared.key.Key.TheVariants as key
use Rattle.peer_plan.specs.Fields.{each}
use Rattle.peer_plan.specs.Reading.{endpoint_in}
use Rattle.peer_plan.proofs.reading.workers.endpoints.Given as goal

-- the workers read so far, and the remaining tables
abbrev pub invariant-loop-item : goal.invariant-loop-item
invariant-loop-item l =
    each key.Worker (λ _. endpoint_in) l.workers.items (items_view (drop l.item-index l.items)) ≡ each key.Worker
    (λ _. endpoint_in) [] (items_view l.items)
