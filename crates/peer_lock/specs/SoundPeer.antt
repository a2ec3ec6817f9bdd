-- The invariant of a peer's lock.
use Rattle.std.specs.Prelude.{◌≡◌, ◌≤◌, ℕ, true}
use Rattle.call_signals.specs.PeerRules.{IsPeerRules}
use Rattle.peer_legs.specs.Legs.{AreLegs, AreLegsOf}
use Rattle.peer_lock.specs.Peer.{PeerView}
use Rattle.peer_lock.specs.Trunks.{most_entries, waits}
use Rattle.trunk_packer.specs.Queue.{call_entries, media_octets, trunk_octets}

-- The rules are those of a valid plan, and each leg has these rules. The octets counted as queued are in the queue. Media
-- that waits for a frame to fill fits in one, which has no more entries of a call than it may have.
pub record IsKept (peer : PeerView) : Type 0 where
  pub rules : IsPeerRules peer.rules
  pub ruled : AreLegsOf peer.rules peer.legs
  pub queued : peer.accounts.queued ≡ media_octets peer.queue
  pub one_frame : waits peer.rules ≡ true → trunk_octets peer.rules.trunk_timestamps peer.queue ≤ 1400
  pub few_of_call : waits peer.rules ≡ true → (number : ℕ)
      → call_entries number peer.queue ≤ most_entries peer.rules.trunk_timestamps

-- and no two legs have one remote number, nor one local number
pub record IsSoundPeer (peer : PeerView) : Type 0 where
  pub legs : AreLegs peer.legs
  pub kept : IsKept peer
