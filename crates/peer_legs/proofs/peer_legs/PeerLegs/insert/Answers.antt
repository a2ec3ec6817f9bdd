use Rattle.std.proofs.Common.{◌≡◌, rules, Some, ap, subst, ◌∙◌}
use Rattle.peer_legs.specs.Legs.{NamedLeg, PeerLegs, IsLegOf, leg_at}
use Rattle.peer_legs.specs.LegsInside.{legs_of}
use Rattle.peer_legs.proofs.LegIndex.{placed}
use Rattle.peer_legs.proofs.LegChanges.{AreIndexed, inserted}
use Rattle.peer_legs.proofs.RuleChanges.{placed_legs_of}
use Rattle.peer_legs.proofs.AtRest.{rest_placed}
use Rattle.peer_legs.proofs.PlaceLaws.{placed_there}
use Rattle.peer_legs.proofs.peer_legs.PeerLegs.insert.Goals as goal
use Rattle.peer_legs.proofs.peer_legs.PeerLegs.insert.Goals.{Joined-index_mut}

all : (c : Joined-index_mut)
    → AreIndexed (placed (legs_of c.self.inside) c.from.result (Some (record { name = c.args.lease; leg = c.args.leg.state })))
    c.note.new.self
all c =
    inserted (legs_of c.self.inside) c.args.self.now c.from.result c.args.lease c.args.leg.state c.self.inside.by_remote
    c.note.new.self c.remote.result c.name-number.result.number
    c.self.view_is (record { legs_are = c.self.invariant.legs; index_is = c.self.invariant.index; most = c.self.invariant.most })
    (record {
      peer = c.requires.peer;
      first = c.requires.first;
      within = c.requires.within;
      number = c.requires.number;
      empty = c.requires.empty;
      remote = c.requires.remote;
    })
    c.from.ensures (ap (λ n. n.number) c.name-number.ensures) c.remote.ensures c.note.ensures.index c.note.ensures.within

pub invariant_of-self : goal.invariant_of-self
invariant_of-self c = let is = all c in record {
  legs = is.legs_are;
  index = is.index_is;
  most = is.most;
  rest = rw c.min-self-inside.ensures
      (rest_placed c.self.inside.rest_until c.rest_until.result c.self.inside.places.items c.from.result
      (Some (record { name = c.args.lease; leg = c.args.leg.state })) c.self.invariant.rest c.rest_until.ensures);
}

pub returns-clause-sound : goal.returns-clause-sound
returns-clause-sound c = (all c).legs_are

pub returns-clause-legs : goal.returns-clause-legs
returns-clause-legs c = search rules

pub returns-clause-there : goal.returns-clause-there
returns-clause-there c =
    ap (λ (legs : PeerLegs). leg_at legs c.args.lease.number) (returns-clause-legs c)
    ∙ placed_there c.args.self.now c.args.lease.number (Some (record { name = c.args.lease; leg = c.args.leg.state }))
    c.requires.first c.requires.within

pub returns-clause-ruled : goal.returns-clause-ruled
returns-clause-ruled c = λ rules ruled goes.
    placed_legs_of (legs_of c.self.inside) c.args.self.now c.from.result
    (Some (record { name = c.args.lease; leg = c.args.leg.state })) rules c.self.view_is ruled
    (λ other e. let is : record { name = c.args.lease; leg = c.args.leg.state } ≡ other = cc in subst
    (λ (n : NamedLeg). IsLegOf rules n.leg) is goes)
