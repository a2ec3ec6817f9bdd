use Rattle.std.proofs.Common.{rules, subst, sym}
use Rattle.peer_legs.specs.Legs.{IsLegOf}
use Rattle.peer_lock.specs.Peer.{PeerView}
use Rattle.peer_lock.proofs.state.PeerState.seat.Goals as goal

pub invariant_of-self : goal.invariant_of-self
invariant_of-self g c = record {
  rules = c.self.invariant.rules;
  ruled = c.insert.ensures.ruled c.self.inside.rules c.self.invariant.ruled
      (subst (λ (v : PeerView). IsLegOf v.rules c.args.leg.state) (sym c.self.view_is) c.requires.ruled);
  queued = search rules;
  one_frame = c.self.invariant.one_frame;
  few_of_call = c.self.invariant.few_of_call;
}
