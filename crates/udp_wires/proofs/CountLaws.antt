-- Laws of the counts for each endpoint.
use Rattle.std.proofs.Common.{◌≡◌, ◌≢◌, ℕ, ◌<◌, ◌≤◌, Bool, List, length, get_or, set, Option, Some, None, refl, sym, ap, ◌∙◌}
use Rattle.std.proofs.Common.{arith}
use Rattle.std.proofs.lemmas.Bool.Decides.{nat_tests}
use Rattle.std.proofs.lemmas.Grind.{common_steps}
use Rattle.std.proofs.lemmas.List.Quantifiers.{position-Some}
use Rattle.std.proofs.lemmas.List.Sums.{fails_before_first}
use Rattle.std.specs.List.{position_or_len}
use Rattle.std.specs.Prelude.{Contains, option_map, position, slice_index, unwrap_or}
use Rattle.peer_plan.specs.Reading.{is_endpoint}
use Rattle.peer_plan.specs.declared.endpoint.Endpoint.{Endpoint}
use Rattle.udp_wires.specs.PeerCounts.{count_for}
use Rattle.peer_plan.proofs.EndpointLaws.{other_endpoint, same_endpoint}

-- an endpoint that the peers have is found
pub found_there : (peers : List Endpoint) (to : Endpoint) → Contains peers to → position (λ peer. is_endpoint peer to) peers
    ≡ None → ⊥
found_there peers to there none =
    let test : Endpoint → Bool = λ peer. is_endpoint peer to in
    let past : length peers ≤ position_or_len test peers = grind (arith, nat_tests, none) in
    let within : there.0 < position_or_len test peers = omega (arith, there.1) in
    other_endpoint (get_or peers there.0 to) to (fails_before_first test peers there.0 to within) there.2

-- another endpoint isn't found at the same place, so its count stays
pub others_kept : (peers : List Endpoint) (counts : List ℕ) (to other : Endpoint) (place count : ℕ)
    → position (λ peer. is_endpoint peer to) peers ≡ Some place → other ≢ to
    → count_for peers (set counts place count) other ≡ count_for peers counts other
others_kept peers counts to other place count at differ = go (position (λ peer. is_endpoint peer other) peers) refl
  where
    here : get_or peers place to ≡ to
    here = same_endpoint (get_or peers place to) to (position-Some (λ peer. is_endpoint peer to) peers place to at).1

    go : (found : Option ℕ) → position (λ peer. is_endpoint peer other) peers ≡ found
        → unwrap_or (option_map (slice_index (set counts place count)) found) 0 ≡ unwrap_or
        (option_map (slice_index counts) found) 0
    go None is = refl
    go (Some found) is =
        let there : get_or peers found to ≡ other = same_endpoint (get_or peers found to) other
        (position-Some (λ peer. is_endpoint peer other) peers found to is).1 in
        let apart : place ≡ found → ⊥ = λ same. differ (sym there ∙ sym (ap (λ n. get_or peers n to) same) ∙ here) in
        grind (arith, common_steps, apart)
