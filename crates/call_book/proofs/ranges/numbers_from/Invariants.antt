use Rattle.std.proofs.Common.{◌≡◌, ◌+◌, ◌-◌, deque_len, deque_capacity}
use Rattle.std.specs.List.{range_with_len}
use Rattle.call_book.proofs.ranges.numbers_from.Given as goal

-- the numbers so far, and the room for all
abbrev pub invariant-loop-number : goal.invariant-loop-number
invariant-loop-number l =
    (l.numbers.items ≡ range_with_len l.first (l.number - l.first)) × (deque_len l.numbers + l.first ≡ l.number) ×
    (deque_capacity l.numbers ≡ l.count)
