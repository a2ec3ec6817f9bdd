use Rattle.std.proofs.Common.{◌≡◌, drop}
use Rattle.peer_legs.specs.Finding.{first_leg}
use Rattle.peer_legs.proofs.finding.first_leg.Given as goal

-- no leg is at a place so far
abbrev pub invariant-loop-place : goal.invariant-loop-place
invariant-loop-place l = first_leg (drop l.place-index l.places) ≡ first_leg l.places
