use Rattle.std.proofs.Common.{◌≡◌, ◌≤◌, take, count_by, is_some}
use Rattle.peer_legs.proofs.peer_legs.PeerLegs.leg_count.Given as goal

-- those counted are the legs of the places so far
abbrev pub invariant-loop-place : goal.invariant-loop-place
invariant-loop-place l =
    (l.legs ≡ count_by is_some (take l.place-index l.self.places)) × (l.legs ≤ l.place-index)
