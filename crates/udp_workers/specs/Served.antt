-- The peers that a worker serves.
use Rattle.std.specs.Prelude.{◌≡◌, ℕ, ◌+◌, List, [], ◌∷◌, map, Option, Some, option_map, slice_get, if◌then◌else◌, ◌==◌}
use Rattle.peer_plan.specs.Plan.{PlanView}
use Rattle.peer_plan.specs.declared.endpoint.Endpoint.{Endpoint}
use Rattle.peer_plan.specs.declared.peer.Peer.{Peer}

-- A worker: its place among the workers of the plan, its peers by their places in the plan, and the number of its turns,
-- modulo 2 ^ 64.
pub record WorkerView : Type 0 where
  pub place : ℕ
  pub peers : List ℕ
  pub turns : ℕ

-- of these peers, the first of which has this place, those that a worker serves, by their places
abbrev pub served_of : List Peer → ℕ → ℕ → List ℕ
served_of [] first worker = []
served_of (peer ∷ peers) first worker =
    if peer.worker == worker then first ∷ served_of peers (first + 1) worker else served_of peers (first + 1) worker

-- the peers of a plan that a worker serves, in the plan's order
abbrev pub peers_of : PlanView → ℕ → List ℕ
peers_of plan worker = served_of plan.peers 0 worker

-- the endpoint of a peer of a plan
abbrev pub endpoint_at : PlanView → ℕ → Option Endpoint
endpoint_at plan peer = option_map (λ peer. peer.endpoint) (slice_get plan.peers peer)

-- these are the endpoints of these peers, in their order
abbrev pub AreEndpoints : PlanView → List ℕ → List Endpoint → Type 0
AreEndpoints plan peers endpoints = map (endpoint_at plan) peers ≡ map (λ endpoint. Some endpoint) endpoints
