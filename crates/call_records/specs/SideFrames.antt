-- The frames that the two sides of a leg sent each other.
use Rattle.std.specs.Prelude.{List, [], ◌∷◌}
use Rattle.iax_frames.specs.FullFrame.{subclass_meaning}
use Rattle.iax_frames.specs.declared.stored_frame.Frame.{Frame}
use Rattle.call_signals.specs.Message.{message_by}
use Rattle.call_signals.specs.declared.message.Message.{Message}
use Rattle.seq_window.specs.Entry.{Entry, Sent, Acked, Taken}
use Rattle.seq_window.specs.Record.{frame_of}
use Rattle.call_records.specs.declared.side.Side.{Side}
use Rattle.call_records.specs.declared.side.Side.TheVariants.{Peer, Exchange}
use Rattle.call_records.specs.declared.side_frames.SideFrameView.{SideFrameView}

-- a frame, and the side that sent it
pub record SideFrame : Type 0 where
  pub by : Side
  pub frame : Frame

-- The frames of both sides in the order of the record: its sent frames are the exchange's, its taken frames the peer's.
abbrev pub frames_of : List Entry → List SideFrame
frames_of [] = []
frames_of (Sent frame ∷ entries) = record { by = Exchange; frame = frame } ∷ frames_of entries
frames_of (Acked count ∷ entries) = frames_of entries
frames_of (Taken frame ∷ entries) = record { by = Peer; frame = frame } ∷ frames_of entries

-- the message of a frame
abbrev pub meaning_of : SideFrame → Message
meaning_of f = message_by f.frame.kind (subclass_meaning f.frame.subclass)

-- the frame that is looked at
abbrev pub side_frame_of : SideFrameView → SideFrame
side_frame_of v = record { by = v.by; frame = frame_of v.frame }
