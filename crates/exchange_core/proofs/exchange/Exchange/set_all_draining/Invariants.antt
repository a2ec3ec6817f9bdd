use Rattle.std.proofs.Common.{◌≡◌}
use Rattle.exchange_core.specs.Draining.{drained}
use Rattle.exchange_core.proofs.exchange.Exchange.set_all_draining.Given as goal

abbrev pub invariant-loop-place : goal.invariant-loop-place
invariant-loop-place g l = l.pass ≡ drained l.place l.drains l.initial.pass
