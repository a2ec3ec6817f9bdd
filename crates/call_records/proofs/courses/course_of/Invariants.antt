use Rattle.std.proofs.Common.{◌≡◌, length, is_some, Option, Some, None}
use Rattle.call_records.specs.SideFrames.{frames_of}
use Rattle.call_records.specs.declared.leg_moment.LegMoment.{LegMoment}
use Rattle.call_records.specs.Courses as course
use Rattle.call_records.proofs.courses.course_of.Given as goal

-- the known moment, or otherwise that of the remaining frames
abbrev pub or_else : Option LegMoment → Option LegMoment → Option LegMoment
or_else (Some moment) later = Some moment
or_else None later = later

-- the moments known so far, with those of the remaining frames, are the moments of all
abbrev pub invariant-loop-frame : goal.invariant-loop-frame
invariant-loop-frame l =
    (or_else l.accepted (course.accepted_of l.opener l.frames) ≡ course.accepted_of l.opener (frames_of l.history.entries))
    × (or_else l.answered (course.answered_from l.opener (is_some l.accepted) l.frames)
    ≡ course.answered_of l.opener (frames_of l.history.entries))
    × (course.end_from l.opener (is_some l.accepted) l.frames ≡ course.end_of l.opener (frames_of l.history.entries))

abbrev pub decreases-loop-frame : goal.decreases-loop-frame
decreases-loop-frame l = length l.frames
