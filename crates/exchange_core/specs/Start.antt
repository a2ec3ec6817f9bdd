-- The state of an exchange when it is opened, as the law over many calls has it.
use Rattle.std.specs.Prelude.{◌≡◌, ℕ, suc, ◌+◌, List, [], ◌∷◌, None, Some, length, option_map, replicate, slice_get}
use Rattle.call_book.specs.Book.{Book, fresh_book}
use Rattle.step_log.specs.Notes.{Noted, Peer}
use Rattle.peer_lock.specs.Accounts.{no_accounts}
use Rattle.peer_lock.specs.Legs.{PeerLegs}
use Rattle.peer_lock.specs.Outbox.{no_losses}
use Rattle.peer_plan.specs.Plan.{PlanView, counts_of, range_of}
use Rattle.call_control.specs.Law.{IsOpened}
use Rattle.call_control.specs.Sees.{Sees}
use Rattle.call_control.specs.Work.{ended}
use Rattle.call_control.specs.World.{Caller, World}

-- every number is free, and the next leg gets this serial
abbrev pub first_book : PlanView → ℕ → Book
first_book plan serial = fresh_book (counts_of plan.peers) serial

-- a peer has no leg
abbrev pub first_legs : PlanView → ℕ → PeerLegs
first_legs plan peer = record {
  peer = peer;
  first = (range_of (counts_of plan.peers) peer).first;
  places = replicate (range_of (counts_of plan.peers) peer).count None;
}

-- the book of these ranges before the first call, whatever serial it begins with
abbrev pub IsFirstBook : PlanView → Book → Type 0
IsFirstBook plan book = (serial : ℕ) × (book ≡ first_book plan serial)

-- The peer at this place of the plan before the first call: its rules are the plan's, and it has its range of numbers and no
-- leg. No datagram and no media waits, and nothing is counted, so its shares are those that peers begin with.
pub record IsFirstPeer (plan : PlanView) (place : ℕ) (peer : Peer) : Type 0 where
  pub number : peer.number ≡ place
  pub rules : option_map (λ peer. peer.rules) (slice_get plan.peers place) ≡ Some peer.state.rules
  pub legs : peer.state.legs ≡ first_legs plan place
  pub outbox : peer.state.outbox ≡ record { waiting = []; lost = no_losses }
  pub queue : peer.state.queue ≡ []
  pub accounts : peer.state.accounts ≡ no_accounts

-- these are the plan's peers before the first call, in its order, from this place on
abbrev pub AreFirstPeers : PlanView → ℕ → List Peer → Type 0
AreFirstPeers plan place [] = Unit {0}
AreFirstPeers plan place (peer ∷ peers) = IsFirstPeer plan place peer × AreFirstPeers plan (suc place) peers

-- ---- what an opening takes and gives

-- a ledger's blank, by the ledger's name and number of parts and by its own: it has a part for each peer and each pass
abbrev pub IsBlankFor : PlanView → ℕ → ℕ → ℕ → ℕ → Type 0
IsBlankFor plan name parts blank_name blank_parts =
    (blank_name ≡ name) × (blank_parts ≡ parts) × (blank_parts ≡ length plan.peers + plan.passes)

-- a pass has no credit
abbrev pub HasNoCredit : Noted → Type 0
HasNoCredit pass = (pass.credit.octets ≡ 0) × (pass.credit.steps ≡ 0)

-- a pass has no steps
abbrev pub HasNoSteps : Noted → Type 0
HasNoSteps pass = (pass.begun ≡ 0) × (pass.made ≡ [])

-- a caller without a call
abbrev pub idle : Caller
idle = record { work = ended; leases = [] }

-- one caller for each pass
abbrev pub first_world : PlanView → ℕ → World
first_world plan serial = record { book = first_book plan serial; legs = []; callers = replicate plan.passes idle }

-- that world is the one at the opening, with each peer's legs
pub record IsStart (plan : PlanView) (serial : ℕ) : Type 0 where
  pub opened : IsOpened (first_world plan serial)
  pub sees : (peer : ℕ) → Sees (first_world plan serial).legs (first_legs plan peer)
