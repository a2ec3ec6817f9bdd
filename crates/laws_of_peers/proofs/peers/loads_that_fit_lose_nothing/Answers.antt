use Rattle.laws_of_peers.proofs.Room.{none_put, ordered_puts, then_puts}
use Rattle.laws_of_peers.proofs.RoomSteps.{call_in_puts, call_out_puts, datagram_puts, rejection_puts, retiring_puts, tick_puts}
use Rattle.laws_of_peers.proofs.peers.loads_that_fit_lose_nothing.Goals as goal

pub returns-clause-datagrams : goal.returns-clause-datagrams
returns-clause-datagrams c first peer datagram now = datagram_puts first peer datagram now

pub returns-clause-calls_in : goal.returns-clause-calls_in
returns-clause-calls_in c peer name frame now challenge = call_in_puts peer name frame now challenge

pub returns-clause-calls_out : goal.returns-clause-calls_out
returns-clause-calls_out c peer name called caller format now = call_out_puts peer name called caller format now

pub returns-clause-rejected_calls : goal.returns-clause-rejected_calls
returns-clause-rejected_calls c peer frame = rejection_puts peer frame

pub returns-clause-orders : goal.returns-clause-orders
returns-clause-orders c peer name order now short = ordered_puts peer name order now short

pub returns-clause-ticks : goal.returns-clause-ticks
returns-clause-ticks c old now report new ticks = tick_puts old now report new ticks

pub returns-clause-retiring : goal.returns-clause-retiring
returns-clause-retiring c peer name = retiring_puts peer name

pub returns-clause-none : goal.returns-clause-none
returns-clause-none c peer = none_put peer

pub returns-clause-together : goal.returns-clause-together
returns-clause-together c one other old mid new first second = then_puts one other old mid new first second
