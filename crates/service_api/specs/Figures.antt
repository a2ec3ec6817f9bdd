-- The figures of a peer for a scrape.
use Rattle.std.specs.Prelude.{◌≡◌, ℕ, Some, option_map, slice_get}
use Rattle.peer_accounts.specs.declared.sums.Sums.{Sums}
use Rattle.peer_lock.specs.declared.pokes.Pokes.{Pokes}
use Rattle.peer_plan.specs.Plan.{PlanView, counts_of, range_of}
use Rattle.service_state.specs.declared.figures.PeerFigures.{PeerFigures}
use Rattle.step_log.specs.Notes.{Noted, note}
use Rattle.step_log.specs.declared.made.Made.TheVariants as mades

-- the figures are the answers of the exchange to three queries, and those of the plan
pub record ShowsFigures (plan : PlanView) (peer : ℕ) (figures : PeerFigures) (old new : Noted) : Type 0 where
  pub sums : Sums
  pub pokes : Pokes
  pub noted : new ≡ note (mades.ShowPokes peer pokes) (note (mades.ShowSums peer sums) (note (mades.CountLegs peer figures.legs)
      old))
  pub name : option_map (λ peer. peer.name) (slice_get plan.peers peer) ≡ Some figures.name.now
  pub numbers : figures.numbers ≡ (range_of (counts_of plan.peers) peer).count
  pub round_trip : figures.round_trip_ms ≡ pokes.round_trip
  pub accepted : figures.accepted ≡ sums.accepted
  pub packed : figures.packed ≡ sums.packed
  pub queued : figures.queued ≡ sums.queued
  pub dropped : figures.dropped ≡ sums.dropped
  pub quelched : figures.quelched ≡ sums.quelched
