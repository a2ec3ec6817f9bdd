use Rattle.std.proofs.Common.{◌≡◌}
use Rattle.udp_workers.proofs.waking.wake_others.Given as goal

abbrev pub invariant-loop-place : goal.invariant-loop-place
invariant-loop-place g l = l.pass ≡ l.fn.pass
