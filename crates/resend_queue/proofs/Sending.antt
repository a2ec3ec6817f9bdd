-- A queue may go to another thread.
use denote.Param.Send.{IsSend, sendable}
use denote.RattleType.{RattleType}
use Rattle.circular_buffer.proofs.Crosses.{Cells-send, Deed-send}
use Rattle.std.proofs.Crossing.{crosses}
use Rattle.resend_queue.specs.contracts.queue.Resend.{the_row}

pub queue_send : (T : RattleType) → IsSend T → IsSend (the_row T)
queue_send T s = search (Cells-send, Deed-send, sendable, crosses) parts 8 depth 40 fits 50000
