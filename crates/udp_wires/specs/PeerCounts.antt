-- A count for each peer of a wire.
use Rattle.std.specs.Prelude.{ℕ, List, option_map, position, slice_index, unwrap_or}
use Rattle.peer_plan.specs.Reading.{is_endpoint}
use Rattle.peer_plan.specs.declared.endpoint.Endpoint.{Endpoint}
use Rattle.udp_wires.specs.declared.peer_counts.PeerCounts as code

-- the count at the first place of this endpoint among the peers, 0 if they don't have it
abbrev pub count_for : List Endpoint → List ℕ → Endpoint → ℕ
count_for peers counts to = unwrap_or (option_map (slice_index counts) (position (λ peer. is_endpoint peer to) peers)) 0

-- the count of an endpoint
abbrev pub count_of : code.PeerCounts → Endpoint → ℕ
count_of counts to = count_for counts.endpoints.items counts.counts.items to
