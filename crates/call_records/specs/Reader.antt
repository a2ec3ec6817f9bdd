-- How far the frames of a record are read.
use Rattle.std.specs.Prelude.{◌≤◌, List, length, drop}
use Rattle.call_records.specs.SideFrames.{SideFrame, frames_of}
use Rattle.call_records.specs.declared.side_frames.SideFrames.TheInside.{Inside}

-- the frames that are left
abbrev pub frames_left : Inside → List SideFrame
frames_left r = frames_of (drop r.place r.history.now.entries)

pub record IsReader (r : Inside) : Type 0 where
  pub within : r.place ≤ length r.history.now.entries
  pub few : length r.history.now.entries ≤ 65536
