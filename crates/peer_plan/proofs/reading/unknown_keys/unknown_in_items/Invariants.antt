use Rattle.std.proofs.Common.{◌≡◌, drop}
use Rattle.toml.specs.View.{items_view}
use Rattle.peer_plan.specs.UnknownKeys.{unknown_in_items}
use Rattle.peer_plan.proofs.reading.unknown_keys.unknown_in_items.Given as goal

-- none in the tables so far
abbrev pub invariant-loop-item : goal.invariant-loop-item
invariant-loop-item l = unknown_in_items l.section l.format (items_view (drop l.item-index l.items)) ≡ unknown_in_items l.section
    l.format (items_view l.items)
