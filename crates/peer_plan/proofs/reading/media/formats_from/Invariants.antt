use Rattle.std.proofs.Common.{◌≡◌, drop, Some}
use Rattle.toml.specs.View.{items_view}
use Rattle.peer_plan.specs.Reading.{formats_after, formats_from}
use Rattle.peer_plan.proofs.reading.media.formats_from.Given as goal

-- the formats so far, and the names that are left
abbrev pub invariant-loop-item : goal.invariant-loop-item
invariant-loop-item l = formats_after (Some l.formats) (items_view (drop l.item-index l.items)) ≡ formats_from
    (items_view l.items)
