use Rattle.leg_machine.proofs.FrameMedia.{frame-media}
use Rattle.leg_machine.proofs.laws.media_is_the_frames.Goals as goal

pub returns : goal.returns
returns c leg frame now = frame-media leg frame now
