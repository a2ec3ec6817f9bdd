use Rattle.peer_legs.specs.LegsInside.{legs_of}
use Rattle.peer_legs.proofs.LegSearch.{found_or_none, none_or_found}
use Rattle.peer_legs.proofs.peer_legs.PeerLegs.of_remote.Goals as goal

pub returns-clause-found : goal.returns-clause-found
returns-clause-found c = rw (← c.self.view_is) (found_or_none (legs_of c.self.inside) c.self.inside.by_remote
    c.self.invariant.index c.args.remote c.get.result c.get.ensures)

pub returns-clause-none : goal.returns-clause-none
returns-clause-none c = rw (← c.self.view_is) (none_or_found (legs_of c.self.inside) c.self.inside.by_remote
    c.self.invariant.index c.args.remote c.get.result c.get.ensures)
