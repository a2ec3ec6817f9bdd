use Rattle.std.specs.Prelude.{Option, None, Some, Result, Ok, Err, IfErr}
use Rattle.std.specs.Result.{IsErrAnd}
use Rattle.std.proofs.Common.{◌≡◌, ◌∙◌, ap}
use Rattle.call_signals.specs.declared.order.OrderError.{OrderError as LegError}
use Rattle.leg_machine.specs.OrderTable.{IsRefusal, order_refused}
use Rattle.peer_legs.specs.Legs.{leg_at}
use Rattle.peer_lock.specs.Errors.{from_leg}
use Rattle.peer_lock.specs.Orders.{from_leg_due, IsOrderRefusal}
use Rattle.peer_lock.specs.Peer.{PeerView}
use Rattle.peer_lock.specs.declared.errors.OrderError.{OrderError}
use Rattle.peer_lock.proofs.Kept.{legs_kept, kept_after}
use Rattle.peer_lock.proofs.state.PeerState.obey.Goals as goal

pub invariant_of-self : goal.invariant_of-self
invariant_of-self g c = legs_kept _ _ _ c.self.invariant c.order.ensures.step.ruled

pub invariant_of-self-2 : goal.invariant_of-self-2
invariant_of-self-2 g c =
    kept_after _ c.is_ahead-goes.result _ _ _ _ c.self.invariant c.order.ensures.step.ruled c.flush_if.ensures.queue
    c.flush_if.ensures.account

-- a leg's refusal, as it is named here
refused_as : (due : Option LegError) (error : LegError) (given : OrderError) → IsRefusal due error → given ≡ from_leg error
    → IsOrderRefusal (from_leg_due due) given
refused_as (Some due) error given is same = same ∙ ap from_leg is
refused_as None error given is same = same ∙ ap from_leg is

refused_so : (result : Result (Unit {0}) OrderError) (due : Option LegError) (error : LegError) → IsRefusal due error
    → IsErrAnd result (λ e. e ≡ from_leg error)
    → IfErr result (IsOrderRefusal (from_leg_due due))
refused_so (Ok done) due error is same = tt
refused_so (Err given) due error is same = refused_as due error given is same

pub returns-in_err-order-clause-refused : goal.returns-in_err-order-clause-refused
returns-in_err-order-clause-refused g c = λ named at.
    let here : leg_at c.self.inside.legs c.args.name.number ≡ Some named = ap (λ (v : PeerView). leg_at v.legs c.args.name.number)
    c.self.view_is ∙ at in
    refused_so c.from_residual.result (order_refused named.leg c.args.order.now c.args.now) c.in_err-order.field-0.0
    (c.in_err-order.ensures.answer named here).refused
    c.from_residual.ensures.1
