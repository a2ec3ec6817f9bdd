-- The rows of peers (GET /peers).
use Rattle.std.specs.Prelude.{◌≡◌, ℕ, zero, suc, List, [], length, codes, string_bytes, Some, option_map, slice_get}
use Rattle.control_requests.specs.Rows.{followed, list_text, peer_data}
use Rattle.control_requests.specs.declared.response.Response.{Response}
use Rattle.control_requests.specs.declared.response.StatusCode.TheVariants as status
use Rattle.control_requests.specs.declared.views.PeerRow.{PeerRow}
use Rattle.exchange_core.specs.Losses.{LooksForLosses, frames_of}
use Rattle.peer_plan.specs.Plan.{PlanView, counts_of, range_of}
use Rattle.serde_json.specs.Written.{compact_text}
use Rattle.step_log.specs.Notes.{Noted, note}
use Rattle.step_log.specs.declared.made.Made.TheVariants as mades
use Rattle.service_api.specs.declared.peer_rows.Counted.{Counted}

-- a peer was asked for its legs, its losses and its POKEs, in this order, with these answers
pub record AsksPeer (peer : ℕ) (counted : Counted) (old new : Noted) : Type 0 where
  pub mid : Noted
  pub losses : LooksForLosses peer counted.losses (note (mades.CountLegs peer counted.legs) old) mid
  pub pokes : new ≡ note (mades.ShowPokes peer counted.pokes) mid

-- the row of a peer, as far as the plan and the exchange's answers give it
pub record IsPeerRow (plan : PlanView) (peer : ℕ) (counted : Counted) (row : PeerRow) : Type 0 where
  pub name : option_map (λ peer. peer.name) (slice_get plan.peers peer) ≡ Some row.name.now
  pub worker : option_map (λ peer. peer.worker) (slice_get plan.peers peer) ≡ Some row.worker
  pub numbers : row.numbers ≡ (range_of (counts_of plan.peers) peer).count
  pub legs : row.legs ≡ counted.legs
  pub outbox_lost : row.outbox_lost ≡ frames_of counted.losses.outbox
  pub queue_dropped : row.queue_dropped ≡ counted.losses.queue
  pub round_trip : row.round_trip_ms ≡ counted.pokes.round_trip

-- the row of a peer was added behind the others
pub record AddsPeer (plan : PlanView) (peer : ℕ) (counted : Counted) (rows more : List ℕ) : Type 0 where
  pub row : PeerRow
  pub shows : IsPeerRow plan peer counted row
  pub added : more ≡ followed rows (compact_text (peer_data row))

-- a peer was asked, and its row was added
pub record TellsPeer (plan : PlanView) (peer : ℕ) (old new : Noted) (rows more : List ℕ) : Type 0 where
  pub counted : Counted
  pub asks : AsksPeer peer counted old new
  pub adds : AddsPeer plan peer counted rows more

-- the peers before a place, one after another: each was asked, and has one row
abbrev pub TellsPeers : PlanView → (count : ℕ) → (old new : Noted) → (rows more : List ℕ) → Type 0
TellsPeers plan zero old new rows more = (new ≡ old) × (more ≡ rows)
TellsPeers plan (suc place) old new rows more =
    (mid : Noted) × (so_far : List ℕ) × TellsPeers plan place old mid rows so_far
    × TellsPeer plan place mid new so_far more

-- an answer to GET /peers
pub record ShowsPeers (plan : PlanView) (answer : Response) (old new : Noted) : Type 0 where
  pub rows : List ℕ
  pub tells : TellsPeers plan (length plan.peers) old new [] rows
  pub status_is : answer.status ≡ status.Ok
  pub body : string_bytes answer.body ≡ list_text (codes "peers") rows
