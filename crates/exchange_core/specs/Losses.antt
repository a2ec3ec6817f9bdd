-- The losses on the way to a peer.
use Rattle.std.specs.Prelude.{◌≡◌, ℕ, ◌+◌, ◌%◌, ◌^◌}
use Rattle.outbox.specs.declared.losses.Losses.{Losses}
use Rattle.peer_accounts.specs.declared.sums.Sums.{Sums}
use Rattle.step_log.specs.Notes.{Noted, note}
use Rattle.step_log.specs.declared.made.Made.TheVariants as mades
use Rattle.exchange_core.specs.declared.losses.PeerLosses.{PeerLosses}

-- the frames of all kinds, modulo 2 ^ 64
abbrev pub frames_of : Losses → ℕ
frames_of lost = (lost.full + lost.mini + lost.trunk) % 2 ^ 64

-- these losses are what two queries of the peer showed, which are noted
pub record LooksForLosses (peer : ℕ) (losses : PeerLosses) (old new : Noted) : Type 0 where
  pub sums : Sums
  pub noted : new ≡ note (mades.ShowLost peer losses.outbox) (note (mades.ShowSums peer sums) old)
  pub queue : losses.queue + sums.quelched ≡ sums.dropped
