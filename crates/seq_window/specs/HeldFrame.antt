-- A held frame that is borrowed from the record, as a contract sees it.
use Rattle.iax_frames.specs.declared.stored_frame.Frame.{Frame}
use Rattle.resend_queue.specs.declared.held_frame.Held.{Held}
use Rattle.seq_window.specs.declared.history.FrameView.{FrameView}
use Rattle.seq_window.specs.Record.{frame_of}

abbrev pub held_of : Held FrameView → Held Frame
held_of h = record { number = h.number; frame = frame_of h.frame; last = h.last; tries = h.tries }
