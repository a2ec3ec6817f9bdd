use Rattle.std.proofs.Common.{arith}
use Rattle.call_records.proofs.Frames.{length-frames_of}
use Rattle.call_records.proofs.side_frames.SideFrames.of.Goals as goal

pub returns-clause-few : goal.returns-clause-few
returns-clause-few c = omega (arith, length-frames_of c.args.history.now.entries, c.len-most.ensures.most, c.len-most.ensures.len)
