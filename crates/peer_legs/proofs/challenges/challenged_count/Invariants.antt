use Rattle.std.proofs.Common.{◌≡◌, ◌≤◌, take, count_by}
use Rattle.peer_legs.specs.Challenges.{is_challenged}
use Rattle.peer_legs.proofs.challenges.challenged_count.Given as goal

-- those counted are the legs that wait at the places so far
abbrev pub invariant-loop-place : goal.invariant-loop-place
invariant-loop-place l =
    (l.count ≡ count_by is_challenged (take l.place-index l.places)) × (l.count ≤ l.place-index)
