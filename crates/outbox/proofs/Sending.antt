-- An outbox may go to another thread.
use denote.Param.Send.{IsSend, sendable}
use Rattle.circular_buffer.proofs.Crosses.{Cells-send, Deed-send}
use Rattle.std.proofs.Crossing.{crosses}
use Rattle.outbox.specs.contracts.outbox.Outbox.{the_row}

pub outbox_send : IsSend the_row
outbox_send = search (Cells-send, Deed-send, sendable, crosses) parts 8 depth 40 fits 50000
