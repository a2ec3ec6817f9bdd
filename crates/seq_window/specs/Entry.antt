-- One entry of a record.
use Rattle.std.specs.Prelude.{ℕ}
use Rattle.iax_frames.specs.declared.stored_frame.Frame.{Frame}

pub data Entry : Type 0 where
  -- this frame was sent with the next sequence number
  Sent : (frame : Frame) → Entry
  -- this number of held frames was acknowledged
  Acked : (count : ℕ) → Entry
  -- this frame of the other side was taken
  Taken : (frame : Frame) → Entry
