use Rattle.std.proofs.Common.{◌≡◌, ◌-◌, ◌*◌, ◌^◌, ◌≤◌, take}
use Rattle.std.specs.Prelude.{sum_by}
use Rattle.seq_window.specs.RecordFields.{counted_by}
use Rattle.seq_window.proofs.history.count_in.Given as goal

abbrev pub invariant-loop-head : goal.invariant-loop-head
invariant-loop-head l = (l.count ≡ sum_by (counted_by l.counted) (take l.head-index l.heads)) ×
    (l.count ≤ (2 ^ 32 - 1) * l.head-index)
