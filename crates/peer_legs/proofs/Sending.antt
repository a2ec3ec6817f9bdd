-- A peer's legs may go to another thread.
use denote.Param.Send.{IsSend, sendable}
use Rattle.leg_machine.proofs.Sending.{leg_send}
use Rattle.std.proofs.Crossing.{crosses}
use Rattle.peer_legs.specs.contracts.peer_legs.PeerLegs.{the_row}

pub legs_send : IsSend the_row
legs_send = search (leg_send, sendable, crosses) parts 8 depth 40 fits 50000
