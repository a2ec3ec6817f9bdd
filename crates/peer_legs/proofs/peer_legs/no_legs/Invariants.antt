use Rattle.std.proofs.Common.{◌≡◌, None, replicate, vec_len, vec_capacity}
use Rattle.peer_legs.proofs.peer_legs.no_legs.Given as goal

-- the places so far, and the room for all
abbrev pub invariant-loop : goal.invariant-loop
invariant-loop l = (l.places.items ≡ replicate l.counter None) × (vec_len l.places ≡ l.counter) ×
    (vec_capacity l.places ≡ l.count)
