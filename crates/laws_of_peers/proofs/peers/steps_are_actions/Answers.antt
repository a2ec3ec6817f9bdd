use Rattle.laws_of_peers.proofs.SidesEvents.{frame_events, order_events, tick_events, call_in_events, call_out_events}
use Rattle.laws_of_peers.proofs.SidesSent.{datagrams_out}
use Rattle.laws_of_peers.proofs.peers.steps_are_actions.Goals as goal

pub returns-clause-frames : goal.returns-clause-frames
returns-clause-frames c old new frame turn sound own other is which sending at bears =
    frame_events c.steps_are_events.ensures.history old new frame turn sound own other is which sending at bears

pub returns-clause-orders : goal.returns-clause-orders
returns-clause-orders c old new name sends sound own other is = order_events old new name sends sound own other is

pub returns-clause-ticks : goal.returns-clause-ticks
returns-clause-ticks c old new sends sound number named after was is datagrams sendings own other side =
    tick_events old new sends sound number named after was is datagrams sendings own other side

pub returns-clause-calls_in : goal.returns-clause-calls_in
returns-clause-calls_in c old new name frame takes sound is_one other which sending at bears =
    call_in_events c.steps_are_events.ensures.history old new name frame takes sound is_one other which sending at bears

pub returns-clause-calls_out : goal.returns-clause-calls_out
returns-clause-calls_out c old new name sends sound other = call_out_events old new name sends sound other

pub returns-clause-sendings : goal.returns-clause-sendings
returns-clause-sendings c rules leg goes own other side datagrams sends = datagrams_out rules leg goes other own datagrams side
    sends
