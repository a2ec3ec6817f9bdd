-- The refusals of a leg, under the names that they have here.
use Rattle.std.proofs.Common.{◌≡◌, ◌∙◌, Option, None, Some, ap}
use Rattle.call_signals.specs.declared.order.OrderError.{OrderError as LegError}
use Rattle.leg_machine.specs.OrderTable.{IsRefusal}
use Rattle.peer_lock.specs.Errors.{from_leg}
use Rattle.peer_lock.specs.Orders.{IsOrderRefusal, from_leg_due}
use Rattle.peer_lock.specs.declared.errors.OrderError.{OrderError}

pub refusal_becomes : (due : Option LegError) (error : LegError) → IsRefusal due error → (e : OrderError) → e ≡ from_leg error
    → IsOrderRefusal (from_leg_due due) e
refusal_becomes None error is e from = from ∙ ap from_leg is
refusal_becomes (Some due) error is e from = from ∙ ap from_leg is
