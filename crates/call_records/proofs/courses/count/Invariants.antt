use Rattle.std.proofs.Common.{◌≡◌, ◌≤◌, ◌+◌, length, count_by}
use Rattle.call_records.specs.SideFrames.{frames_of}
use Rattle.call_records.specs.Courses as course
use Rattle.call_records.proofs.courses.count.Given as goal

-- those counted so far and those that are left are all of them
abbrev pub invariant-loop-frame : goal.invariant-loop-frame
invariant-loop-frame l =
    (l.count + count_by (course.is_by l.kind l.side) l.frames ≡ count_by (course.is_by l.kind l.side)
    (frames_of l.history.entries))
    × (l.count + length l.frames ≤ 65536)

abbrev pub decreases-loop-frame : goal.decreases-loop-frame
decreases-loop-frame l = length l.frames
