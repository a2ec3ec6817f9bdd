-- A window may go to another thread.
use denote.Param.Send.{IsSend, sendable}
use Rattle.resend_queue.proofs.Sending.{queue_send}
use Rattle.std.proofs.Crossing.{crosses}
use Rattle.seq_window.specs.contracts.sliding_window.Window.{the_row}

pub window_send : IsSend the_row
window_send = search (queue_send, sendable, crosses) parts 8 depth 40 fits 50000
