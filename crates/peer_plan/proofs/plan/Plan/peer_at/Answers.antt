use Rattle.std.proofs.Common.{sym, ◌∙◌}
use Rattle.peer_plan.proofs.PeerLaws.{found_at, none_at}
use Rattle.peer_plan.proofs.plan.Plan.peer_at.Goals as goal

pub returns-in_err-place-clause-none : goal.returns-in_err-place-clause-none
returns-in_err-place-clause-none c =
    let none = none_at (λ peer. peer.endpoint) c.args.endpoint c.self.inside.peers.items c.deref.result.now
    (c.deref.ensures.value ∙ c.self.invariant.endpoints) (sym c.in_err-place.ensures.place) in
    rw (c.from_residual.ensures, ← c.self.view_is) none

pub returns-clause-found : goal.returns-clause-found
returns-clause-found c =
    let found = found_at (λ peer. peer.endpoint) c.args.endpoint c.self.inside.peers.items c.deref.result.now c.in_ok-place.place
    (c.deref.ensures.value ∙ c.self.invariant.endpoints) (sym c.in_ok-place.ensures.place) in
    rw (c.new.ensures, ← c.self.view_is) found
