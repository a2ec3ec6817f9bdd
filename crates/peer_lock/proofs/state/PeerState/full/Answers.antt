use Rattle.std.specs.Prelude.{Result, IfErr}
use Rattle.std.proofs.Common.{◌≡◌, Some, subst}
use Rattle.peer_lock.specs.Delivery.{Delivery, Reaches, NeedsNumber, NoToken, Gets, Pongs, NoCall, closed_to_calls}
use Rattle.peer_lock.specs.Delivery.{delivery_refused, legless}
use Rattle.peer_lock.specs.declared.errors.PeerError.{PeerError}
use Rattle.peer_lock.specs.declared.errors.PeerError.TheVariants as errors
use Rattle.peer_lock.specs.declared.steps.Step.{Step}
use Rattle.peer_lock.proofs.state.PeerState.full.Goals as goal

-- want of memory is no refusal that is due
never_due : (delivery : Delivery) → Some errors.Memory ≡ delivery_refused delivery → ⊥
never_due (Reaches named) due = cc
never_due NeedsNumber due = cc
never_due NoToken due = cc
never_due (Gets answer) due = cc
never_due Pongs due = cc
never_due NoCall due = cc

pub returns-in-None-clause-no_memory : goal.returns-in-None-clause-no_memory
returns-in-None-clause-no_memory g c = λ is.
    let peer = c.args.self.now in
    let none = legless (closed_to_calls peer) peer.rules peer.pokes c.args.frame.now c.args.now in
    absurd (never_due none
    (subst (λ (r : Result Step PeerError). IfErr r (λ e. Some e ≡ delivery_refused none)) is c.come_to_none.ensures.refused))

pub returns-in-None-clause-memory : goal.returns-in-None-clause-memory
returns-in-None-clause-memory g c = λ is.
    let peer = c.args.self.now in
    let none = legless (closed_to_calls peer) peer.rules peer.pokes c.args.frame.now c.args.now in
    absurd (never_due none
    (subst (λ (r : Result Step PeerError). IfErr r (λ e. Some e ≡ delivery_refused none)) is c.come_to_none.ensures.refused))
