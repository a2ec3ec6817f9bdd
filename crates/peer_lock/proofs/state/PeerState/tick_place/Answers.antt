use Rattle.std.proofs.Common.{◌≡◌, Option, Some, slice_get, rules}
use Rattle.peer_legs.specs.Legs.{NamedLeg}
use Rattle.peer_lock.specs.Ticks.{place_tick}
use Rattle.peer_lock.proofs.Ticking.{few_at}
use Rattle.peer_lock.proofs.Kept.{kept_after}
use Rattle.peer_lock.proofs.state.PeerState.tick_place.Goals as goal

pub returns-clause-few : goal.returns-clause-few
returns-clause-few g c =
    let is : (place : Option NamedLeg) → slice_get c.args.self.now.legs.places c.args.index ≡ Some place
    → c.tick-skipped.result ≡ (place_tick c.tick-skipped.result place c.args.now).skipped = search rules in
    few_at c.args.self.now.legs.places c.args.index c.tick-skipped.result c.args.now c.requires is

pub invariant_of-self : goal.invariant_of-self
invariant_of-self g c =
    kept_after _ c.is_ahead_at_tick-goes.result _ _ _ _ c.self.invariant c.tick-skipped.ensures.ruled c.flush_if.ensures.queue
    c.flush_if.ensures.account
