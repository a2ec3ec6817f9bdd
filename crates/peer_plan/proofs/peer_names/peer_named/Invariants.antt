use Rattle.std.proofs.Common.{◌≡◌, ◌+◌, drop}
use Rattle.std.specs.List.{position_or_len}
use Rattle.peer_plan.specs.Reading.{is_named}
use Rattle.peer_plan.proofs.peer_names.peer_named.Given as goal

abbrev pub invariant-loop-place : goal.invariant-loop-place
invariant-loop-place l =
    position_or_len (is_named l.name) l.plan.peers
    ≡ l.place + position_or_len (is_named l.name) (drop l.place l.plan.peers)
