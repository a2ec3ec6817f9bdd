-- The rows of call legs (GET /calls, GET /calls/<number>).
use Rattle.std.specs.Prelude.{◌≡◌, ◌<◌, ◌≤◌, ◌⊎◌, ℕ, zero, suc, ◌+◌, ◌-◌, min, List, [], length, codes, string_bytes}
use Rattle.std.specs.Prelude.{Option, None, Some, option_map, slice_get}
use Rattle.call_book.specs.declared.leg_name.LegName.{LegName}
use Rattle.control_requests.specs.Rows.{call_data, followed, list_text}
use Rattle.control_requests.specs.declared.response.Response.{Response}
use Rattle.control_requests.specs.declared.response.StatusCode.TheVariants as status
use Rattle.control_requests.specs.declared.views.CallEntry.{CallEntry}
use Rattle.exchange_core.specs.PrintedNames.{stage_text}
use Rattle.peer_lock.specs.declared.descriptions.Description.{Description}
use Rattle.peer_plan.specs.FormatNames.{format_name}
use Rattle.peer_plan.specs.Plan.{IsInRange, PlanView, counts_of, range_of}
use Rattle.serde_json.specs.Written.{compact_text}
use Rattle.step_log.specs.Notes.{Noted, note}
use Rattle.step_log.specs.declared.made.Made.TheVariants as mades
use Rattle.service_api.specs.Refused.{IsNoLeg}
use Rattle.service_api.specs.declared.showing.ShownLeg.{ShownLeg}

-- the row of a leg of a peer, by the answers of the exchange
pub record IsCallRow (plan : PlanView) (peer now : ℕ) (leg : Description) (partner : Option LegName) (row : CallEntry)
    : Type 0 where
  pub number : row.number ≡ leg.status.name.number
  pub serial : row.serial ≡ leg.status.name.serial
  pub owner : option_map (λ peer. peer.name) (slice_get plan.peers peer) ≡ Some row.peer.now
  pub stage : row.stage.now ≡ stage_text (Some leg.status.stage)
  pub format : row.format.now ≡ format_name leg.format
  pub age : row.age_ms ≡ now - leg.opened
  pub partner_is : row.partner ≡ option_map (λ name. name.number) partner
  pub held : row.held ≡ leg.status.held
  pub entries : row.entries ≡ leg.status.entries

-- the book was asked for the partner of a leg
pub record LooksUpPartner (leg : Description) (found : ShownLeg) (old new : Noted) : Type 0 where
  pub leg_is : found.leg ≡ leg
  pub noted : new ≡ note (mades.Partner leg.status.name found.partner) old

-- a leg was looked up by its number, and then its partner
abbrev pub LooksUp : (peer number : ℕ) → Option ShownLeg → Noted → Noted → Type 0
LooksUp peer number None old new = new ≡ note (mades.Describe peer number None) old
LooksUp peer number (Some found) old new =
    LooksUpPartner found.leg found (note (mades.Describe peer number (Some found.leg)) old) new

-- a leg's partner was looked up, and then its row was added behind the others
pub record AddsCall (plan : PlanView) (peer now : ℕ) (leg : Description) (old new : Noted) (rows more : List ℕ) : Type 0 where
  pub partner : Option LegName
  pub noted : new ≡ note (mades.Partner leg.status.name partner) old
  pub row : CallEntry
  pub shows : IsCallRow plan peer now leg partner row
  pub added : more ≡ followed rows (compact_text (call_data row))

-- the progress of a walk over the legs of a peer: the notes, the rows, and the least number that the next leg may have
pub record Walk : Type 0 where
  pub pass : Noted
  pub rows : List ℕ
  pub next : ℕ

-- The first leg from a number on was found, and its row was added. The walk continues from the number behind it.
pub record TellsCall (plan : PlanView) (peer now : ℕ) (old new : Walk) : Type 0 where
  pub leg : Description
  pub behind : old.next ≤ leg.status.name.number
  pub adds : AddsCall plan peer now leg (note (mades.DescribeFrom peer old.next (Some leg)) old.pass) new.pass old.rows new.rows
  pub next : new.next ≡ min (leg.status.name.number + 1) 65535

-- no leg was found from a number on
pub record FindsNone (peer : ℕ) (old : Walk) (new : Noted) (rows : List ℕ) : Type 0 where
  pub noted : new ≡ note (mades.DescribeFrom peer old.next None) old.pass
  pub same : rows ≡ old.rows

-- one step of a walk, which returns the number to continue from
abbrev pub Continues : PlanView → (peer now : ℕ) → Walk → Option ℕ → Noted → List ℕ → Type 0
Continues plan peer now old None new rows = FindsNone peer old new rows
Continues plan peer now old (Some next) new rows = TellsCall plan peer now old (record { pass = new; rows = rows; next = next })

-- so many legs were told, one after another, each from the number behind the one before it
abbrev pub Walks : PlanView → (peer now legs : ℕ) → Walk → Walk → Type 0
Walks plan peer now zero old new = new ≡ old
Walks plan peer now (suc legs) old new = (mid : Walk) × Walks plan peer now legs old mid × TellsCall plan peer now mid new

-- the walk ends once as many legs were told as the peer has numbers, or once no leg is found
abbrev pub Ends : (peer count legs : ℕ) → Walk → Noted → List ℕ → Type 0
Ends peer count legs last new rows =
    ((legs ≡ count) × (new ≡ last.pass) × (rows ≡ last.rows)) ⊎ ((legs < count) × FindsNone peer last new rows)

-- a walk over the legs of a peer, from the first of its numbers on
pub record TellsCalls (plan : PlanView) (peer now : ℕ) (old new : Noted) (rows more : List ℕ) : Type 0 where
  pub legs : ℕ
  pub last : Walk
  pub walks : Walks plan peer now legs
      (record { pass = old; rows = rows; next = (range_of (counts_of plan.peers) peer).first }) last
  pub ends : Ends peer (range_of (counts_of plan.peers) peer).count legs last new more

-- the walks over the legs of each peer before a place, one after another
abbrev pub TellsAllCalls : PlanView → (now count : ℕ) → (old new : Noted) → (rows more : List ℕ) → Type 0
TellsAllCalls plan now zero old new rows more = (new ≡ old) × (more ≡ rows)
TellsAllCalls plan now (suc place) old new rows more =
    (mid : Noted) × (so_far : List ℕ) × TellsAllCalls plan now place old mid rows so_far
    × TellsCalls plan place now mid new so_far more

-- an answer to GET /calls
pub record ShowsCalls (plan : PlanView) (now : ℕ) (answer : Response) (old new : Noted) : Type 0 where
  pub rows : List ℕ
  pub tells : TellsAllCalls plan now (length plan.peers) old new [] rows
  pub status_is : answer.status ≡ status.Ok
  pub body : string_bytes answer.body ≡ list_text (codes "calls") rows

-- the answer is the row of a leg that was looked up by its number
pub record ShowsLeg (plan : PlanView) (peer number now : ℕ) (answer : Response) (old new : Noted) : Type 0 where
  pub leg : Description
  pub partner : Option LegName
  pub noted : new ≡ note (mades.Partner leg.status.name partner) (note (mades.Describe peer number (Some leg)) old)
  pub row : CallEntry
  pub shows : IsCallRow plan peer now leg partner row
  pub status_is : answer.status ≡ status.Ok
  pub body : string_bytes answer.body ≡ compact_text (call_data row)

-- the answer by the peer that has the number: the leg, or none
abbrev pub ShowsOwned : PlanView → (peer number now : ℕ) → Response → Noted → Noted → Type 0
ShowsOwned plan peer number now answer old new =
    ShowsLeg plan peer number now answer old new
    ⊎ (IsNoLeg answer × (new ≡ note (mades.Describe peer number None) old))

-- an answer to GET /calls/<number>
abbrev pub ShowsCall : PlanView → (number now : ℕ) → Response → Noted → Noted → Type 0
ShowsCall plan number now answer old new =
    ((peer : ℕ) × IsInRange (range_of (counts_of plan.peers) peer) number × ShowsOwned plan peer number now answer old new)
    ⊎ (IsNoLeg answer × (new ≡ old) × ((peer : ℕ) → peer < length plan.peers
    → IsInRange (range_of (counts_of plan.peers) peer) number → ⊥))
