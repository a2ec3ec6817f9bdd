use Rattle.service_api.specs.Calls.{Walks}
use Rattle.service_api.proofs.showing.push_calls.Given as goal

abbrev pub invariant-loop-legs : goal.invariant-loop-legs
invariant-loop-legs g l =
    Walks l.exchange l.peer l.now l._legs
    (record { pass = l.initial.pass; rows = l.initial.rows; next = l.initial.next })
    (record { pass = l.pass; rows = l.rows; next = l.next })
