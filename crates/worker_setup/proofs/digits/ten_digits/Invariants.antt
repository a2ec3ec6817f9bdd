use Rattle.std.proofs.Common.{ℕ, ◌≤◌, ◌<◌, get_or}
use Rattle.worker_setup.proofs.digits.ten_digits.Given as goal

abbrev pub invariant-loop-digit : goal.invariant-loop-digit
invariant-loop-digit g l = (k : ℕ) → k < l.digit-index → (48 ≤ get_or l.digit-items k 0) × (get_or l.digit-items k 0 ≤ 57)
