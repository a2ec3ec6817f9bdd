-- The datagrams that a turn takes out of the outboxes of its peers and gives to its wire.
use Rattle.std.specs.Prelude.{◌≡◌, ℕ, ◌<◌, ◌⊎◌, Bool, false, List, [], ◌∷◌, ◌++◌, None, Some, length}
use Rattle.step_log.specs.Notes.{Noted, note}
use Rattle.step_log.specs.declared.made.Made.TheVariants as mades
use Rattle.peer_plan.specs.Plan.{PlanView}
use Rattle.peer_plan.specs.declared.endpoint.Endpoint.{Endpoint}
use Rattle.udp_wires.specs.Parcels.{Parcel}
use Rattle.udp_workers.specs.Served.{endpoint_at}

-- These datagrams were taken out of a peer's outbox one after another, and each was given to the wire, whole, for the
-- peer's endpoint; the list has the last one first.
abbrev pub HandsOut : ℕ → Endpoint → List (List ℕ) → Noted → Noted → List Parcel → List Parcel → Type 0
HandsOut peer to [] old new before after = (new ≡ old) × (after ≡ before)
HandsOut peer to (out ∷ earlier) old new before after =
    (mid : Noted) × (sent : List Parcel) × HandsOut peer to earlier old mid before sent ×
    (new ≡ note (mades.TakeOut peer (Some out)) mid) × (after ≡ sent ++ record { endpoint = to; octets = out } ∷ [])

-- 256 datagrams were taken out, or fewer, and then none waited
abbrev pub HasEmptied : ℕ → ℕ → Noted → Noted → Type 0
HasEmptied peer taken mid new =
    ((taken ≡ 256) × (new ≡ mid)) ⊎ ((taken < 256) × (new ≡ note (mades.TakeOut peer None) mid))

-- the datagrams of a peer's outbox were handed out until none waited or 256 were, and nothing else was done
pub record Empties (peer : ℕ) (to : Endpoint) (old new : Noted) (before after : List Parcel) : Type 0 where
  pub outs : List (List ℕ)
  pub mid : Noted
  pub hands : HandsOut peer to outs old mid before after
  pub ended : HasEmptied peer (length outs) mid new

-- an outbox was emptied; a turn that doesn't empty all may leave it as it is
abbrev pub EmptiesIfDue : Bool → ℕ → Endpoint → Noted → Noted → List Parcel → List Parcel → Type 0
EmptiesIfDue all peer to old new before after =
    Empties peer to old new before after ⊎ ((all ≡ false) × (new ≡ old) × (after ≡ before))

-- the outbox of each of these peers, in their order, each for the endpoint of its peer
abbrev pub EmptiesDue : PlanView → Bool → List ℕ → Noted → Noted → List Parcel → List Parcel → Type 0
EmptiesDue plan all [] old new before after = (new ≡ old) × (after ≡ before)
EmptiesDue plan all (peer ∷ rest) old new before after =
    (mid : Noted) × (sent : List Parcel) × (to : Endpoint) × (endpoint_at plan peer ≡ Some to) ×
    EmptiesIfDue all peer to old mid before sent × EmptiesDue plan all rest mid new sent after
