-- The place of the first peer of a name, peer by peer.
use Rattle.std.proofs.Common.{◌≡◌, ℕ, zero, suc, ◌+◌, List, [], ◌∷◌, Option, Some, None, cond, drop, slice_get, option_map, arith}
use native.Mathlib.Numerals.{unary_clauses}
use Rattle.std.specs.List.{position_or_len}
use Rattle.std.specs.Str.{bytes_eq}
use Rattle.peer_plan.specs.Reading.{is_named}
use Rattle.peer_plan.specs.declared.peer.Peer.{Peer}

named : (name found : List ℕ) (peers : List Peer) (i : ℕ) → option_map (λ peer. peer.name) (slice_get peers i) ≡ Some found
    → position_or_len (is_named name) (drop i peers)
    ≡ cond (bytes_eq found name) 0 (1 + position_or_len (is_named name) (drop (suc i) peers))
named name found [] zero is = cc
named name found [] (suc i) is = cc
named name found (peer ∷ peers) zero is = grind arith
named name found (peer ∷ peers) (suc i) is = named name found peers i is

pub named_at : (name found : List ℕ) (peers : List Peer) (i : ℕ)
    → option_map (λ peer. peer.name) (slice_get peers i) ≡ Some found
    → position_or_len (is_named name) (drop i peers)
    ≡ cond (bytes_eq found name) 0 (1 + position_or_len (is_named name) (drop (i + 1) peers))
named_at name found peers i is = simp unary_clauses (named name found peers i is)
