use Rattle.std.proofs.Common.{ℕ, ◌<◌}
use Rattle.peer_plan.specs.Plan.{IsInRange, counts_of, range_of}
use Rattle.peer_plan.proofs.plan.Plan.owner_of.Given as goal

-- no peer so far has the number
abbrev pub invariant-loop-place : goal.invariant-loop-place
invariant-loop-place l = (peer : ℕ) → peer < l.place → IsInRange (range_of (counts_of l.self.peers) peer) l.number → ⊥
