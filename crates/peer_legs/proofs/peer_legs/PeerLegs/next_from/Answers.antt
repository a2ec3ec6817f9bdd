use Rattle.peer_legs.proofs.NextLegs.{next_there, next_later, next_least, next_none}
use Rattle.peer_legs.proofs.peer_legs.PeerLegs.next_from.Goals as goal

pub returns-clause-there : goal.returns-clause-there
returns-clause-there c = next_there c.args.self.now c.args.number c.next_leg.ensures.sound c.next_leg.result
    c.next_leg.ensures.next

pub returns-clause-from : goal.returns-clause-from
returns-clause-from c = next_later c.args.self.now c.args.number c.next_leg.ensures.sound c.next_leg.result
    c.next_leg.ensures.next

pub returns-clause-least : goal.returns-clause-least
returns-clause-least c = next_least c.args.self.now c.args.number c.next_leg.ensures.sound c.next_leg.result
    c.next_leg.ensures.next

pub returns-clause-none : goal.returns-clause-none
returns-clause-none c = next_none c.args.self.now c.args.number c.next_leg.ensures.sound c.next_leg.result c.next_leg.ensures.next
