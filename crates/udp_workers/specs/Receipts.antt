-- The events that are reported of a received datagram.
use Rattle.std.specs.Prelude.{◌≡◌, ◌≢◌, ◌↔◌, ℕ, ◌⊎◌, Bool, IsTrue, List, None, Some, All}
use Rattle.exchange_core.specs.Denial.{refused_since}
use Rattle.exchange_core.specs.Rejections.{rejected_since}
use Rattle.exchange_core.specs.declared.answers.Refusal.{Refusal}
use Rattle.exchange_core.specs.declared.watch.Event.{Event}
use Rattle.exchange_core.specs.declared.watch.Event.TheVariants as events
use Rattle.exchange_core.specs.declared.watch.ServiceStage.{ServiceStage}
use Rattle.step_log.specs.Notes.{Noted}
use Rattle.peer_lock.specs.declared.steps.Rejection.{Rejection}
use Rattle.peer_plan.specs.Plan.{PlanView}
use Rattle.udp_wires.specs.Parcels.{Parcel}
use Rattle.udp_workers.specs.Draining.{IsTurnedAway}
use Rattle.udp_workers.specs.FullFrames.{IsIax, SpellsKind}
use Rattle.udp_workers.specs.Served.{endpoint_at}

-- the octets spell a full frame of type IAX
abbrev pub SpellsIax : List ℕ → Type 0
SpellsIax octets = SpellsKind IsIax octets

-- a datagram is a sign of life: its steps have no refusal, or its octets spell a full frame of type IAX
abbrev pub IsSignOfLife : List ℕ → Noted → Noted → Type 0
IsSignOfLife octets old new = (refused_since old new ≡ None) ⊎ SpellsIax octets

-- What is reported of a datagram of a peer, at a moment: its receipt, with whether it is a sign of life. Then that it is turned
-- away, or the refusal or the rejection that its steps gave. All of that is reported of this peer.
pub record ReportsOf (observed : Event → Type 0) (peer : ℕ) (stage : ServiceStage) (now : ℕ) (octets : List ℕ) (old new : Noted)
    : Type 0 where
  pub is_alive : Bool
  pub sign : IsTrue is_alive ↔ IsSignOfLife octets old new
  pub received : observed (events.Received peer now is_alive)
  pub away : IsTurnedAway stage octets → observed (events.TurnedAway peer)
  pub refused : (refusal : Refusal) → refused_since old new ≡ Some refusal → observed (events.Refused peer refusal)
  pub rejected : (rejection : Rejection) → rejected_since old new ≡ Some rejection → observed (events.Rejected peer rejection)

-- of a datagram from an endpoint: that a stranger sent it, or what is reported of the peer with this endpoint
abbrev pub Reports : (Event → Type 0) → PlanView → ServiceStage → ℕ → Parcel → Noted → Noted → Type 0
Reports observed plan stage now arrival old new =
    (All (λ peer. peer.endpoint ≢ arrival.endpoint) plan.peers × observed (events.Stranger arrival.endpoint))
    ⊎ ((peer : ℕ) × (endpoint_at plan peer ≡ Some arrival.endpoint) × ReportsOf observed peer stage now arrival.octets old new)
