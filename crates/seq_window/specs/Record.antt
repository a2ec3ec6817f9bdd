-- A record, as a contract sees it.
use Rattle.std.specs.Prelude.{ℕ, List, [], Option, Some}
use Rattle.iax_frames.specs.declared.stored_frame.Frame.{Frame}
use Rattle.seq_window.specs.declared.history.FrameView.{FrameView}
use Rattle.seq_window.specs.declared.history.EntryView.{EntryView}
use Rattle.seq_window.specs.declared.history.EntryView.TheVariants as view
use Rattle.seq_window.specs.Entry.{Entry, Sent, Acked, Taken}

pub record RecordState : Type 0 where
  -- from the first
  pub entries : List Entry
  -- the number of entries that it takes without further memory
  pub spare : ℕ

-- the frame of a view
abbrev pub frame_of : FrameView → Frame
frame_of v = record { ts = v.ts; kind = v.kind; subclass = v.subclass; payload = v.payload.now }

-- it is the entry of a frame that was sent
abbrev pub IsSent : Option Entry → Type 0
IsSent (Some (Sent frame)) = Unit {0}
IsSent _ = ⊥

-- the entry of a view
abbrev pub entry_of : EntryView → Entry
entry_of (view.Sent v) = Sent (frame_of v)
entry_of (view.Acked count) = Acked count
entry_of (view.Taken v) = Taken (frame_of v)

-- the octets of a view's frame, if it has one
abbrev pub octets_of : EntryView → List ℕ
octets_of (view.Sent v) = v.payload.now
octets_of (view.Acked count) = []
octets_of (view.Taken v) = v.payload.now
