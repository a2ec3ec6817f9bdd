use Rattle.std.proofs.Common.{◌≡◌, ◌∙◌, ap, subst, rules}
use Rattle.std.specs.Prelude.{IfErr}
use Rattle.leg_machine.specs.OrderTable.{IsRefusal, media_refused}
use Rattle.peer_legs.specs.Legs.{leg_at}
use Rattle.peer_lock.specs.Errors.{from_leg}
use Rattle.peer_lock.specs.Orders.{IsOrderRefusal, from_leg_due}
use Rattle.peer_lock.specs.Peer.{PeerView}
use Rattle.peer_lock.specs.declared.errors.OrderError.{OrderError}
use Rattle.peer_lock.proofs.LegRefusals.{refusal_becomes}
use Rattle.peer_lock.proofs.Kept.{legs_kept, kept_after}
use Rattle.peer_lock.proofs.state.PeerState.send_media.Goals as goal

pub invariant_of-self : goal.invariant_of-self
invariant_of-self g c = legs_kept _ _ _ c.self.invariant c.media.ensures.step.ruled

pub invariant_of-self-2 : goal.invariant_of-self-2
invariant_of-self-2 g c =
    kept_after _ c.is_ahead-goes.result _ _ _ _ c.self.invariant c.media.ensures.step.ruled c.flush_if.ensures.queue
    c.flush_if.ensures.account

pub returns-in_err-sent-clause-refused : goal.returns-in_err-sent-clause-refused
returns-in_err-sent-clause-refused g c = λ named is.
    let answer = c.media.ensures.answer named (ap (λ (v : PeerView). leg_at v.legs c.args.name.number) c.self.view_is ∙ is) in
    let due = media_refused named.leg c.args.now in
    let refused : IsRefusal due c.in_err-sent.field-0.0 = subst (λ r. IfErr r (IsRefusal due)) c.in_err-sent.was answer.refused in
    let becomes : (e : OrderError) → e ≡ from_leg c.in_err-sent.field-0.0 → IsOrderRefusal (from_leg_due due) e =
    refusal_becomes due c.in_err-sent.field-0.0 refused in
    search (rules, becomes)
