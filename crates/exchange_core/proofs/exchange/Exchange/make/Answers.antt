use Rattle.std.proofs.Common.{None, refl, sym, subst}
use Rattle.exchange_core.specs.Leaving.{Leaves, leaving_of}
use Rattle.exchange_core.specs.declared.retired_legs.RetiredLegs.{RetiredLegs}
use Rattle.exchange_core.proofs.Leaving.{none_leave}
use Rattle.exchange_core.proofs.exchange.Exchange.make.Goals as goal

pub returns-in-Datagram-clause-left : goal.returns-in-Datagram-clause-left
returns-in-Datagram-clause-left g c = none_leave _ _ _ _ _ _ (c.datagram_given.ensures.noted None) refl c.args.given.now.now
    (leaving_of c.args.resources.now.retired_legs)

pub returns-in-RejectNew-clause-left : goal.returns-in-RejectNew-clause-left
returns-in-RejectNew-clause-left g c = none_leave _ _ _ _ _ _ (c.reject_given.ensures.noted None) refl c.args.given.now.now
    (leaving_of c.args.resources.now.retired_legs)

pub returns-in-OpenIn-clause-left : goal.returns-in-OpenIn-clause-left
returns-in-OpenIn-clause-left g c =
    let before = leaving_of c.args.resources.now.retired_legs in
    subst (λ (legs : RetiredLegs). Leaves c.args.given.now.now c.args.pass.now c.open_given.new.pass before (leaving_of legs))
    (sym c.open_given.ensures.rest.1)
    (none_leave _ _ _ _ _ _ (c.open_given.ensures.noted None) refl c.args.given.now.now before)

pub returns-in-Order-clause-left : goal.returns-in-Order-clause-left
returns-in-Order-clause-left g c = none_leave _ _ _ _ _ _ (c.act.ensures.noted None) refl c.args.given.now.now
    (leaving_of c.args.resources.now.retired_legs)

pub returns-in-Tick-clause-left : goal.returns-in-Tick-clause-left
returns-in-Tick-clause-left g c = none_leave _ _ _ _ _ _ (c.tick_given.ensures.noted None) refl c.args.given.now.now
    (leaving_of c.args.resources.now.retired_legs)

pub returns-in-Look-clause-left : goal.returns-in-Look-clause-left
returns-in-Look-clause-left g c =
    none_leave _ _ _ _ _ _ (c.status_at.ensures.noted c.args.given.now None) refl c.args.given.now.now
    (leaving_of c.args.resources.now.retired_legs)

pub returns-in-Reserve-clause-left : goal.returns-in-Reserve-clause-left
returns-in-Reserve-clause-left g c =
    let before = leaving_of c.args.resources.now.retired_legs in
    subst (λ (legs : RetiredLegs). Leaves c.args.given.now.now c.args.pass.now c.reserve_into.new.pass before (leaving_of legs))
    (sym c.reserve_into.ensures.rest.0)
    (none_leave _ _ _ _ _ _ (c.reserve_into.ensures.noted c.args.given.now None) refl c.args.given.now.now before)

pub returns-in-Route-clause-left : goal.returns-in-Route-clause-left
returns-in-Route-clause-left g c =
    none_leave _ _ _ _ _ _ (c.route_noted.ensures.noted c.args.given.now) refl c.args.given.now.now
    (leaving_of c.args.resources.now.retired_legs)
