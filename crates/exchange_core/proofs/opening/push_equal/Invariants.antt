use Rattle.std.proofs.Common.{◌≡◌, ◌++◌, replicate}
use Rattle.exchange_core.proofs.opening.push_equal.Given as goal

abbrev pub invariant-loop-i : goal.invariant-loop-i
invariant-loop-i l = l.amounts.items ≡ l.initial.amounts.items ++ replicate l._i l.amount
