use Rattle.laws_of_peers.proofs.SeenArrivals.{datagram_seen}
use Rattle.laws_of_peers.proofs.SeenSteps.{call_in_seen, call_out_seen, order_seen, refusal_seen, tick_seen, retiring_seen}
use Rattle.laws_of_peers.proofs.peers.steps_are_seen.Goals as goal

pub returns-clause-datagrams : goal.returns-clause-datagrams
returns-clause-datagrams c first peer datagram now are = datagram_seen c.steps_are_seen.ensures.frames first peer datagram now are

pub returns-clause-calls_in : goal.returns-clause-calls_in
returns-clause-calls_in c peer name frame now challenge are some free =
    call_in_seen c.steps_are_seen.ensures.calls_in peer name frame now challenge some free

pub returns-clause-calls_out : goal.returns-clause-calls_out
returns-clause-calls_out c peer name called caller format now are free =
    call_out_seen c.steps_are_seen.ensures.calls_out peer name called caller format now free

pub returns-clause-orders : goal.returns-clause-orders
returns-clause-orders c peer credit name order now are none = order_seen c.steps_are_seen.ensures.orders peer credit name order
    now none

pub returns-clause-refusals : goal.returns-clause-refusals
returns-clause-refusals c peer credit name order now error are refused wants =
    refusal_seen c.steps_are_seen.ensures.wrong_stages peer credit name order now error refused wants

pub returns-clause-ticks : goal.returns-clause-ticks
returns-clause-ticks c old new now report are ticks = tick_seen c.steps_are_seen.ensures.ticks old new now report ticks

pub returns-clause-retiring : goal.returns-clause-retiring
returns-clause-retiring c legs name are done = retiring_seen legs name done
