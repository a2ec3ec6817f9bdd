use Rattle.std.proofs.Common.{◌≡◌, take}
use Rattle.leg_machine.proofs.Idle.{due_at}
use Rattle.leg_machine.proofs.machine.Machine.due_from.Given as goal

abbrev pub invariant-loop-place : goal.invariant-loop-place
invariant-loop-place l = l.first ≡ due_at l.self.rules.retry_ms (take l.place l.self.window.state.sendings)
