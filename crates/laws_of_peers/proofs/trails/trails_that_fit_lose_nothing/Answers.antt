use Rattle.laws_of_peers.proofs.Fitting.{follow_puts}
use Rattle.laws_of_peers.proofs.trails.trails_that_fit_lose_nothing.Goals as goal

pub returns-clause-puts : goal.returns-clause-puts
returns-clause-puts c trail old new follow place first last at_first at_last =
    let law = c.loads_that_fit_lose_nothing.ensures in
    follow_puts law.datagrams law.calls_in law.rejected_calls law.calls_out law.orders law.ticks law.retiring law.none
    law.together
    trail old new follow place first last at_first at_last

pub returns-clause-outboxes : goal.returns-clause-outboxes
returns-clause-outboxes c trail old new follow place first last at_first at_last =
    let law = c.loads_that_fit_lose_nothing.ensures in
    (follow_puts law.datagrams law.calls_in law.rejected_calls law.calls_out law.orders law.ticks law.retiring law.none
    law.together
    trail old new follow place first last at_first at_last).sent

pub returns-clause-queues : goal.returns-clause-queues
returns-clause-queues c trail old new follow place first last at_first at_last =
    let law = c.loads_that_fit_lose_nothing.ensures in
    (follow_puts law.datagrams law.calls_in law.rejected_calls law.calls_out law.orders law.ticks law.retiring law.none
    law.together
    trail old new follow place first last at_first at_last).queued
