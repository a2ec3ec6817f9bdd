use Rattle.laws_of_peers.proofs.Orderly.{keeps_none, keeps_then}
use Rattle.laws_of_peers.proofs.OrderlySteps.{call_in_carries, call_out_carries, datagram_carries, order_carries}
use Rattle.laws_of_peers.proofs.OrderlySteps.{rejection_carries}
use Rattle.laws_of_peers.proofs.OrderlySteps.{retiring_carries}
use Rattle.laws_of_peers.proofs.OrderlyTicks.{tick_carries}
use Rattle.laws_of_peers.proofs.peers.steps_keep_their_order.Goals as goal

pub returns-clause-datagrams : goal.returns-clause-datagrams
returns-clause-datagrams c = datagram_carries

pub returns-clause-calls_in : goal.returns-clause-calls_in
returns-clause-calls_in c = call_in_carries

pub returns-clause-rejected_calls : goal.returns-clause-rejected_calls
returns-clause-rejected_calls c = rejection_carries

pub returns-clause-calls_out : goal.returns-clause-calls_out
returns-clause-calls_out c = call_out_carries

pub returns-clause-orders : goal.returns-clause-orders
returns-clause-orders c = order_carries

pub returns-clause-ticks : goal.returns-clause-ticks
returns-clause-ticks c = tick_carries

pub returns-clause-retiring : goal.returns-clause-retiring
returns-clause-retiring c = retiring_carries

pub returns-clause-none : goal.returns-clause-none
returns-clause-none c = keeps_none

pub returns-clause-together : goal.returns-clause-together
returns-clause-together c = keeps_then
