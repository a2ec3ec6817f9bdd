use Rattle.call_records.proofs.Moments.{accept-found, accepted-where, both-found, both-where, end-found, not_hung_up}
use Rattle.std.proofs.Common.{false}
use Rattle.call_records.proofs.laws.moments_are_those_of_frames.Goals as goal

pub returns-clause-accepted : goal.returns-clause-accepted
returns-clause-accepted c opener frames = (accept-found opener frames, accepted-where opener frames)

pub returns-clause-answered : goal.returns-clause-answered
returns-clause-answered c opener frames = (both-found opener frames, both-where opener frames)

pub returns-clause-accepted_first : goal.returns-clause-accepted_first
returns-clause-accepted_first c opener frames answered =
    accepted-where opener frames (both-found opener frames answered).accepted

pub returns-clause-not_hung_up : goal.returns-clause-not_hung_up
returns-clause-not_hung_up c opener frames ended = not_hung_up opener false frames ended

pub returns-clause-ended : goal.returns-clause-ended
returns-clause-ended c opener frames end is = end-found opener false frames end is
