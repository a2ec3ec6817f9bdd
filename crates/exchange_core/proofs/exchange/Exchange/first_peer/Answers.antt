use Rattle.std.proofs.Common.{◌<◌, ◌∙◌, arith, ap, get_or, length, subst, sym}
use Rattle.std.proofs.Math.Logic.{∥∥₁_map}
use Rattle.step_log.specs.Notes.{Peer}
use Rattle.peer_plan.specs.Plan.{PlanView}
use Rattle.exchange_core.specs.Start.{IsFirstPeer}
use Rattle.exchange_core.proofs.Starting.{first_at}
use Rattle.exchange_core.proofs.exchange.Exchange.first_peer.Goals as goal

pub returns : goal.returns
returns g c =
    let plan : PlanView = c.self.inside.plan in
    let at = c.index.result in
    let found : Peer = get_or c.self.inside.peers.items at c.index-2.result.now in
    let within : at < length c.self.inside.peers.items =
    omega (arith, c.index.ensures, c.requires, c.self.invariant.0, ap (λ (p : PlanView). length p.peers) c.self.view_is) in
    ∥∥₁_map c.self.invariant.7 (λ are.
    subst (λ p. IsFirstPeer p c.args.peer c.first.result.now.value) c.self.view_is
    (subst (IsFirstPeer plan c.args.peer) (sym (c.first.ensures ∙ c.index-2.ensures))
    (subst (λ n. IsFirstPeer plan n found) (omega (arith, c.index.ensures))
    (first_at plan 0 at c.self.inside.peers.items c.index-2.result.now are within))))
