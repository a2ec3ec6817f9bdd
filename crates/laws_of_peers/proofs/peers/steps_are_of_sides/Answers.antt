use Rattle.laws_of_peers.proofs.Sides.{datagram_side, call_in_side, call_out_side, order_side}
use Rattle.laws_of_peers.proofs.SidesTicks.{tick_side}
use Rattle.laws_of_peers.proofs.peers.steps_are_of_sides.Goals as goal

pub returns-clause-datagrams : goal.returns-clause-datagrams
returns-clause-datagrams c first peer datagram now sound =
    datagram_side c.steps_take_turns.ensures.frames c.steps_send_as_sides.ensures.frames first peer datagram now sound

pub returns-clause-calls_in : goal.returns-clause-calls_in
returns-clause-calls_in c peer name frame now challenge free =
    call_in_side c.steps_take_turns.ensures.calls_in c.steps_send_as_sides.ensures.calls_in peer name frame now challenge free

pub returns-clause-calls_out : goal.returns-clause-calls_out
returns-clause-calls_out c peer name called caller format now free =
    call_out_side c.steps_take_turns.ensures.calls_out c.steps_send_as_sides.ensures.calls_out peer name called caller format now
    free

pub returns-clause-orders : goal.returns-clause-orders
returns-clause-orders c peer credit name order now sound none =
    order_side c.steps_take_turns.ensures.orders c.steps_send_as_sides.ensures.orders peer credit name order now sound none

pub returns-clause-ticks : goal.returns-clause-ticks
returns-clause-ticks c old new now report sound ticks =
    tick_side c.steps_take_turns.ensures.ticks c.steps_send_as_sides.ensures.ticks old new now report sound ticks
