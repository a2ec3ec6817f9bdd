-- Peers of a plan that follow the notes of a turn, if no one else makes steps.
use Rattle.std.specs.Prelude.{◌≡◌, ◌++◌, List}
use Rattle.laws_of_peers.specs.Followed.{AreSound, Follow}
use Rattle.step_log.specs.Notes.{Noted}
use Rattle.step_log.specs.declared.made.Made.{Made}
use Rattle.peer_lock.specs.Peer.{PeerView}

-- the notes made meanwhile are the steps of these peers, each of which was in a state that its lock leaves
pub record FollowNotes (old new : Noted) (before after : List PeerView) : Type 0 where
  pub trail : List Made
  pub noted : new.made ≡ old.made ++ trail
  pub follow : Follow trail before after
  pub sound : AreSound before
