use Rattle.std.proofs.Common.{◌≡◌, ◌≤◌, ◌-◌, length, drop}
use Rattle.call_records.specs.SideFrames.{frames_of}
use Rattle.call_records.proofs.side_frames.SideFrames.next.Given as goal

-- only entries without a frame were passed
abbrev pub invariant-loop-entry : goal.invariant-loop-entry
invariant-loop-entry l =
    (frames_of (drop l.self-inside.place l.self-inside.history.now.entries) ≡ l.fn.self)
    × (l.self-inside.place ≤ length l.self-inside.history.now.entries)
    × (length l.self-inside.history.now.entries ≤ 65536)

abbrev pub decreases-loop-entry : goal.decreases-loop-entry
decreases-loop-entry l = length l.self-inside.history.now.entries - l.self-inside.place
