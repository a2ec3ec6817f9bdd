-- Laws of the peers that a worker serves, and of their endpoints.
use Rattle.std.proofs.Common.{◌≡◌, ◌≢◌, ℕ, ◌+◌, ◌<◌, ◌≤◌, ◌++◌, List, [], ◌∷◌, length, drop, get_or, refl, sym, ap, ◌∙◌, arith}
use Rattle.std.proofs.Common.{rules, append_assoc, if◌then◌else◌, Option, Some, None, true, false, ◌==◌}
use Rattle.std.proofs.lemmas.Bool.{eq-eqb}
use Rattle.std.proofs.lemmas.List.{drop_more}
use Rattle.std.proofs.lemmas.List.Elements.{All-nil, All-cons}
use Rattle.std.proofs.lemmas.List.Kept.{AllPairs-cons}
use Rattle.std.proofs.lemmas.Option.{slice_get-map, slice_get_within, get_or_from_slice_get, slice_get-get_or}
use Rattle.std.specs.Prelude.{option_map, slice_get, All, AllPairs, Contains}
use Rattle.peer_plan.specs.Plan.{PlanView, IsPlan}
use Rattle.peer_plan.specs.declared.endpoint.Endpoint.{Endpoint}
use Rattle.peer_plan.specs.declared.peer.Peer.{Peer}
use Rattle.udp_workers.specs.Served.{served_of, peers_of, endpoint_at, AreEndpoints}

-- ---- the peers that are served

-- those are among the peers looked at
served_below : (peers : List Peer) (first worker bound : ℕ) → first + length peers ≤ bound
    → All (λ peer. peer < bound) (served_of peers first worker)
served_below [] first worker bound fits = All-nil (λ peer. peer < bound)
served_below (peer ∷ peers) first worker bound fits =
    elim (peer.worker == worker) as (λ b. All (λ peer. peer < bound) (if b then first ∷ served_of peers (first + 1) worker
    else served_of peers (first + 1) worker)) [
      | true ↦ All-cons (λ peer. peer < bound) first (served_of peers (first + 1) worker) (omega arith)
          (served_below peers (first + 1) worker bound (omega arith))
      | false ↦ served_below peers (first + 1) worker bound (omega arith)
    ]

pub peers_below : (plan : PlanView) (worker : ℕ) → All (λ peer. peer < length plan.peers) (peers_of plan worker)
peers_below plan worker = served_below plan.peers 0 worker (length plan.peers) (omega arith)

-- none of them comes before the first peer considered
served_from : (peers : List Peer) (first worker least : ℕ) → least ≤ first
    → All (λ peer. least ≤ peer) (served_of peers first worker)
served_from [] first worker least low = All-nil (λ peer. least ≤ peer)
served_from (peer ∷ peers) first worker least low =
    elim (peer.worker == worker) as (λ b. All (λ peer. least ≤ peer) (if b then first ∷ served_of peers (first + 1) worker
    else served_of peers (first + 1) worker)) [
      | true ↦ All-cons (λ peer. least ≤ peer) first (served_of peers (first + 1) worker) low
          (served_from peers (first + 1) worker least (omega arith))
      | false ↦ served_from peers (first + 1) worker least (omega arith)
    ]

-- they are in the plan's order
served_rising : (peers : List Peer) (first worker : ℕ) → AllPairs (λ one other. one < other) (served_of peers first worker)
served_rising [] first worker = λ i j d below within. absurd (omega arith)
served_rising (peer ∷ peers) first worker =
    elim (peer.worker == worker) as (λ b. AllPairs (λ one other. one < other) (if b then first ∷ served_of peers (first + 1)
    worker else served_of peers (first + 1) worker)) [
      | true ↦
          let above : All (λ other. first < other) (served_of peers (first + 1) worker) = λ k d within. let more =
          served_from peers (first + 1) worker (first + 1) (omega arith) k d within in omega arith in
          AllPairs-cons (λ one other. one < other) first (served_of peers (first + 1) worker) above
          (served_rising peers (first + 1) worker)
      | false ↦ served_rising peers (first + 1) worker
    ]

-- the worker of the peer at a place
peer_with : (o : Option Peer) (result : ℕ) → option_map (λ peer. peer.worker) o ≡ Some result → (peer : Peer) × (o ≡ Some peer) ×
    (peer.worker ≡ result)
peer_with None result is = absurd (cc)
peer_with (Some peer) result is = (peer, refl, cc)

-- the next peer is served, or not
served_next : (peers : List Peer) (n worker result : ℕ) → option_map (λ peer. peer.worker) (slice_get peers n) ≡ Some result
    → served_of (drop n peers) n worker ≡ (if result == worker then n ∷ served_of (drop (n + 1) peers) (n + 1) worker
    else served_of (drop (n + 1) peers) (n + 1) worker)
served_next peers n worker result is =
    let found = peer_with (slice_get peers n) result is in
    let within = slice_get_within peers n found.0 found.1 in
    let rest : drop n peers ≡ found.0 ∷ drop (n + 1) peers = drop_more peers n found.0 within
    ∙ ap (λ peer. peer ∷ drop (n + 1) peers) (get_or_from_slice_get peers n found.0 found.0 found.1) in
    ap (λ l. served_of l n worker) rest ∙ ap (λ r. if r == worker then n ∷ served_of (drop (n + 1) peers) (n + 1) worker
    else served_of (drop (n + 1) peers) (n + 1) worker) found.2

not_same : (a b : ℕ) → (a ≡ b → ⊥) → (a == b) ≡ false
not_same a b differ = search rules

-- a peer that is served follows those found so far
pub served_yes : (peers : List Peer) (n worker result : ℕ) (found all : List ℕ)
    → option_map (λ peer. peer.worker) (slice_get peers n) ≡ Some result → result ≡ worker
    → found ++ served_of (drop n peers) n worker ≡ all → (found ++ n ∷ []) ++ served_of (drop (n + 1) peers) (n + 1) worker ≡ all
served_yes peers n worker result found all is same so_far =
    let next : served_of (drop n peers) n worker ≡ n ∷ served_of (drop (n + 1) peers) (n + 1) worker =
    served_next peers n worker result is ∙ ap (λ b. if b then n ∷ served_of (drop (n + 1) peers) (n + 1) worker
    else served_of (drop (n + 1) peers) (n + 1) worker) (eq-eqb result worker same) in
    append_assoc found (n ∷ []) (served_of (drop (n + 1) peers) (n + 1) worker) ∙ sym (ap (λ l. found ++ l) next) ∙ so_far

-- a peer of another worker doesn't
pub served_no : (peers : List Peer) (n worker result : ℕ) (found all : List ℕ)
    → option_map (λ peer. peer.worker) (slice_get peers n) ≡ Some result → (result ≡ worker → ⊥)
    → found ++ served_of (drop n peers) n worker ≡ all → found ++ served_of (drop (n + 1) peers) (n + 1) worker ≡ all
served_no peers n worker result found all is differ so_far =
    let next : served_of (drop n peers) n worker ≡ served_of (drop (n + 1) peers) (n + 1) worker =
    served_next peers n worker result is ∙ ap (λ b. if b then n ∷ served_of (drop (n + 1) peers) (n + 1) worker
    else served_of (drop (n + 1) peers) (n + 1) worker) (not_same result worker differ) in
    sym (ap (λ l. found ++ l) next) ∙ so_far

-- ---- endpoints

some_some : {X : Type 0} (o : Option X) (x : X) → option_map (λ e. Some e) o ≡ Some (Some x) → o ≡ Some x
some_some None x is = absurd (cc)
some_some (Some y) x is = cc

-- the endpoint at a place is that of the peer at this place
pub endpoint_there : (plan : PlanView) (peers : List ℕ) (endpoints : List Endpoint) (i : ℕ) (to : Endpoint)
    → AreEndpoints plan peers endpoints → i < length peers → endpoint_at plan (get_or peers i 0) ≡ Some to
    → slice_get endpoints i ≡ Some to
endpoint_there plan peers endpoints i to are within at =
    some_some (slice_get endpoints i) to
    (sym (slice_get-map (λ e. Some e) endpoints i) ∙ ap (λ l. slice_get l i) (sym are) ∙ slice_get-map (endpoint_at plan) peers i
    ∙ ap (option_map (endpoint_at plan)) (slice_get-get_or peers i 0 within) ∙ ap (λ o. Some o) at)

-- the endpoint of one of these peers is among theirs
pub endpoint_among : (plan : PlanView) (peers : List ℕ) (endpoints : List Endpoint) (i : ℕ) (to : Endpoint)
    → AreEndpoints plan peers endpoints → i < length peers → endpoint_at plan (get_or peers i 0) ≡ Some to → Contains endpoints to
endpoint_among plan peers endpoints i to are within at =
    let is = endpoint_there plan peers endpoints i to are within at in
    (i, slice_get_within endpoints i to is, get_or_from_slice_get endpoints i to to is)

-- a peer of the plan with an endpoint
peer_there : (o : Option Peer) (to : Endpoint) → option_map (λ peer. peer.endpoint) o ≡ Some to → (peer : Peer) ×
    (o ≡ Some peer) × (peer.endpoint ≡ to)
peer_there None to is = absurd (cc)
peer_there (Some peer) to is = (peer, refl, cc)

-- peers at two places of a plan have two endpoints
peers_apart : (plan : PlanView) (one other : ℕ) (to : Endpoint) → IsPlan plan → one < other → endpoint_at plan one ≡ Some to
    → endpoint_at plan other ≡ Some to → ⊥
peers_apart plan one other to sound lower at_one at_other =
    let first = peer_there (slice_get plan.peers one) to at_one in
    let second = peer_there (slice_get plan.peers other) to at_other in
    let same_first : get_or plan.peers one first.0 ≡ first.0 = get_or_from_slice_get plan.peers one first.0 first.0 first.1 in
    let same_second : get_or plan.peers other first.0 ≡ second.0 = get_or_from_slice_get plan.peers other second.0 first.0
    second.1 in
    sound.endpoints one other first.0 lower (slice_get_within plan.peers other second.0 second.1)
    (ap (λ (peer : Peer). peer.endpoint) same_first ∙ first.2 ∙ sym second.2
    ∙ sym (ap (λ (peer : Peer). peer.endpoint) same_second))

-- the peer whose endpoint is at a place
served_there : (plan : PlanView) (peers : List ℕ) (endpoints : List Endpoint) (i : ℕ) (d : Endpoint)
    → AreEndpoints plan peers endpoints → i < length endpoints → (i < length peers) ×
    (endpoint_at plan (get_or peers i 0) ≡ Some (get_or endpoints i d))
served_there plan peers endpoints i d are within =
    let ends : option_map (endpoint_at plan) (slice_get peers i) ≡ Some (Some (get_or endpoints i d)) =
    sym (slice_get-map (endpoint_at plan) peers i) ∙ ap (λ l. slice_get l i) are ∙ slice_get-map (λ e. Some e) endpoints i
    ∙ ap (option_map (λ e. Some e)) (slice_get-get_or endpoints i d within) in
    go (slice_get peers i) refl ends
  where
    go : (o : Option ℕ) → slice_get peers i ≡ o → option_map (endpoint_at plan) o ≡ Some (Some (get_or endpoints i d))
        → (i < length peers) × (endpoint_at plan (get_or peers i 0) ≡ Some (get_or endpoints i d))
    go None is ends = absurd (cc)
    go (Some peer) is ends =
        let at : endpoint_at plan peer ≡ Some (get_or endpoints i d) = cc in
        (slice_get_within peers i peer is, ap (endpoint_at plan) (get_or_from_slice_get peers i peer 0 is) ∙ at)

-- no two peers of a worker have one endpoint
pub endpoints_apart : (plan : PlanView) (worker : ℕ) (endpoints : List Endpoint) → IsPlan plan
    → AreEndpoints plan (peers_of plan worker) endpoints → AllPairs (λ one other. one ≢ other) endpoints
endpoints_apart plan worker endpoints sound are i j d below within same =
    let peers = peers_of plan worker in
    let first = served_there plan peers endpoints i d are (omega arith) in
    let second = served_there plan peers endpoints j d are within in
    peers_apart plan (get_or peers i 0) (get_or peers j 0) (get_or endpoints i d) sound (served_rising plan.peers 0 worker i j 0
    below second.0) first.1 (second.1 ∙ sym (ap (λ e. Some e) same))
