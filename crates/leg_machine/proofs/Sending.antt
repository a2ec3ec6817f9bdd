-- A leg may go to another thread.
use denote.Param.Send.{IsSend, sendable}
use Rattle.seq_window.proofs.Sending.{window_send}
use Rattle.std.proofs.Crossing.{crosses}
use Rattle.leg_machine.specs.contracts.leg.Leg.{the_row}

pub leg_send : IsSend the_row
leg_send = search (window_send, sendable, crosses) parts 8 depth 40 fits 50000
