use Rattle.std.proofs.Common.{◌≡◌, ◌+◌, ◌*◌, ◌≤◌, map, take}
use Rattle.std.specs.VecDeque.{deque_capacity}
use Rattle.call_book.specs.Ranges.{ranges_from, total_of}
use Rattle.call_book.proofs.book.CallBook.new.Given as goal

-- the ranges so far
abbrev pub invariant-loop-count : goal.invariant-loop-count
invariant-loop-count l =
    (map (λ q. q.items) l.free.items ≡ ranges_from 1 (take l.count-index l.counts)) ×
    (map deque_capacity l.free.items ≡ take l.count-index l.counts)
    × (l.first ≡ 1 + total_of (take l.count-index l.counts)) × (l.first ≤ 1 + 512 * l.count-index)
