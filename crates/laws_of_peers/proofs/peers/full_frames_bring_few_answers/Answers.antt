use Rattle.laws_of_peers.proofs.FewAgain.{vnak_few}
use Rattle.laws_of_peers.proofs.RoomSteps.{full_frame_few}
use Rattle.laws_of_peers.proofs.peers.full_frames_bring_few_answers.Goals as goal

pub returns-clause-others : goal.returns-clause-others
returns-clause-others c peer frame now other = full_frame_few peer frame now other

pub returns-clause-vnaks : goal.returns-clause-vnaks
returns-clause-vnaks c peer frame now sound = vnak_few peer frame now sound
