use Rattle.std.proofs.Common.{◌≡◌, None, Some, slice_get, sym, ap, ◌∙◌}
use Rattle.peer_legs.specs.Legs.{NamedLeg, PeerLegs, filled}
use Rattle.peer_legs.specs.LegsInside.{legs_of}
use Rattle.peer_legs.proofs.LegIndex.{placed}
use Rattle.peer_legs.proofs.LegSearch.{leg_read}
use Rattle.peer_legs.proofs.LegChanges.{AreIndexed, removed}
use Rattle.peer_legs.proofs.RuleChanges.{placed_legs_of}
use Rattle.peer_legs.proofs.AtRest.{rest_gone}
use Rattle.peer_legs.proofs.peer_legs.PeerLegs.take.Goals as goal

at : (c : goal.After-note) → slice_get c.self.inside.places.items c.place_of-index.result ≡ Some (Some c.in-Some.named)
at c =
    leg_read (legs_of c.self.inside) c.args.self.now c.place_of-index.result c.index_mut.result.now c.in-Some.named c.self.view_is
    c.place_of-index.ensures.within c.index_mut.ensures.value (sym c.in-Some.ensures.value)

all : (c : goal.After-note) → AreIndexed (placed (legs_of c.self.inside) c.place_of-index.result c.take.new.self) c.note.new.self
all c =
    rw c.take.ensures.after
    (removed (legs_of c.self.inside) c.place_of-index.result c.in-Some.named c.self.inside.by_remote c.note.new.self
    c.remote.result (at c)
    (record { legs_are = c.self.invariant.legs; index_is = c.self.invariant.index; most = c.self.invariant.most })
    (c.remote.ensures ∙ ap (λ (n : NamedLeg). n.leg.remote) c.named.view_is)
    c.note.ensures.index c.note.ensures.within)

pub invariant_of-self : goal.invariant_of-self
invariant_of-self c = let is = all c in record {
  legs = is.legs_are;
  index = is.index_is;
  most = is.most;
  rest = rw c.take.ensures.after
      (rest_gone c.self.inside.rest_until c.self.inside.places.items c.place_of-index.result c.self.invariant.rest);
}

pub returns-clause-leg : goal.returns-clause-leg
returns-clause-leg c =
    sym c.place_of-index.ensures.leg ∙ ap (λ (v : PeerLegs). filled (slice_get v.places c.place_of-index.result))
    (sym c.self.view_is) ∙ ap filled (at c)

pub returns-clause-sound : goal.returns-clause-sound
returns-clause-sound c = (all c).legs_are

pub returns-clause-ruled : goal.returns-clause-ruled
returns-clause-ruled c = λ rules ruled.
    rw c.take.ensures.after (placed_legs_of (legs_of c.self.inside) c.args.self.now c.place_of-index.result None rules
    c.self.view_is ruled (λ other never. cc))
