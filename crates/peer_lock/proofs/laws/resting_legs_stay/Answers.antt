use Rattle.peer_lock.proofs.Ticking.{resting_places}
use Rattle.peer_lock.proofs.laws.resting_legs_stay.Goals as goal

pub returns : goal.returns
returns c skips now places all = resting_places c.idle_legs_stay.ensures skips now places all
