use Rattle.std.proofs.Common.{◌≡◌}
use Rattle.toml.specs.View.{members_view}
use Rattle.peer_plan.specs.UnknownKeys.{unknown_key}
use Rattle.peer_plan.proofs.reading.unknown_keys.unknown_key.Given as goal

-- none among the keys so far
abbrev pub invariant-loop-key : goal.invariant-loop-key
invariant-loop-key l = unknown_key l.section l.format (members_view l.fn.table.entries) ≡ unknown_key l.section l.format
    (members_view l.key-iterator)
