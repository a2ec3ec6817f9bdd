-- A record's layout in memory.
use Rattle.std.specs.Prelude.{◌≡◌, ℕ, ◌+◌, ◌*◌, ◌≤◌, List, length, map, All, slice_range, sum_by}
use Rattle.std.specs.Vec.{vec_capacity}
use Rattle.iax_frames.specs.declared.stored_frame.Frame.{Frame}
use Rattle.seq_window.specs.declared.history.Count.{Count}
use Rattle.seq_window.specs.declared.history.Count.TheVariants as counts
use Rattle.seq_window.specs.declared.history.Head.{Head}
use Rattle.seq_window.specs.declared.history.Head.TheVariants as head
use Rattle.seq_window.specs.declared.history.FrameHead.{FrameHead}
use Rattle.seq_window.specs.declared.history.Record.TheInside.{Inside}
use Rattle.seq_window.specs.Entry.{Entry, Sent, Acked, Taken}
use Rattle.seq_window.specs.Record.{RecordState}

-- the frame of a head among the octets of all frames
abbrev pub frame_at : List ℕ → FrameHead → Frame
frame_at octets h =
    record { ts = h.ts; kind = h.kind; subclass = h.subclass; payload = slice_range octets h.start (h.start + h.len) }

abbrev pub entry_at : List ℕ → Head → Entry
entry_at octets (head.Sent h) = Sent (frame_at octets h)
entry_at octets (head.Acked count) = Acked count
entry_at octets (head.Taken h) = Taken (frame_at octets h)

abbrev pub entries_in : List ℕ → List Head → List Entry
entries_in octets heads = map (entry_at octets) heads

-- the number that a head adds to the count of sent, acknowledged or taken frames
abbrev pub counted_by : Count → Head → ℕ
counted_by counts.Sent (head.Sent h) = 1
counted_by counts.Acked (head.Acked count) = count
counted_by counts.Taken (head.Taken h) = 1
counted_by _ _ = 0

-- the octets of data of a head's frame
abbrev pub head_len : Head → ℕ
head_len (head.Sent h) = h.len
head_len (head.Acked count) = 0
head_len (head.Taken h) = h.len

abbrev pub record_of : Inside → RecordState
record_of r = record { entries = entries_in r.octets.items r.heads.items; spare = r.spare }

-- the octets of a head are below this, and are no more than a frame carries
abbrev pub EndsBelow : ℕ → Head → Type 0
EndsBelow len (head.Sent h) = (h.start + h.len ≤ len) × (h.len ≤ 1388)
EndsBelow len (head.Acked count) = Unit {0}
EndsBelow len (head.Taken h) = (h.start + h.len ≤ len) × (h.len ≤ 1388)

pub record IsRecord (r : Inside) : Type 0 where
  pub within : All (EndsBelow (length r.octets.items)) r.heads.items
  pub whole : length r.octets.items ≡ sum_by head_len r.heads.items
  pub short : length r.octets.items ≤ 1388 * length r.heads.items
  pub few : length r.heads.items ≤ 65536
  pub head_room : length r.heads.items + r.spare ≤ vec_capacity r.heads
  pub octet_room : length r.octets.items + 1388 * r.spare ≤ vec_capacity r.octets
