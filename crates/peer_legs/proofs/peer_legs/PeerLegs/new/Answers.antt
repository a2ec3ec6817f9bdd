use Rattle.std.proofs.Common.{List, Option, subst, sym}
use Rattle.peer_legs.specs.Legs.{NamedLeg, AreLegsOf}
use Rattle.peer_legs.proofs.LegChanges.{AreIndexed, fresh}
use Rattle.peer_legs.proofs.RuleChanges.{fresh_legs_of}
use Rattle.peer_legs.proofs.AtRest.{rest_never}
use Rattle.peer_legs.proofs.peer_legs.PeerLegs.new.Goals as goal

all : (c : goal.In_ok-new)
    → AreIndexed (record { peer = c.args.peer; first = c.args.first; places = c.in_ok-no_legs.field-0.items }) c.in_ok-new.field-0
all c =
    subst (λ (places : List (Option NamedLeg)). AreIndexed (record { peer = c.args.peer; first = c.args.first; places = places })
    c.in_ok-new.field-0)
    (sym c.in_ok-no_legs.ensures.places)
    (fresh c.args.peer c.args.first c.args.count c.in_ok-new.field-0 c.requires.first c.requires.within c.requires.most
    c.in_ok-new.ensures.none)

pub invariant_of-result : goal.invariant_of-result
invariant_of-result c = let are = all c in record {
  legs = are.legs_are;
  index = are.index_is;
  most = are.most;
  rest = rest_never c.in_ok-no_legs.field-0.items;
}

pub returns-clause-sound : goal.returns-clause-sound
returns-clause-sound c = (all c).legs_are

pub returns-clause-ruled : goal.returns-clause-ruled
returns-clause-ruled c = λ rules.
    subst (λ (places : List (Option NamedLeg)). AreLegsOf rules (record {
      peer = c.args.peer;
      first = c.args.first;
      places = places;
    }))
    (sym c.in_ok-no_legs.ensures.places) (fresh_legs_of c.args.peer c.args.first c.args.count rules)
