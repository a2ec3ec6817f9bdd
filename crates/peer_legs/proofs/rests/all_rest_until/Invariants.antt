use Rattle.std.proofs.Common.{take}
use Rattle.peer_legs.specs.LegsInside.{RestUntil}
use Rattle.peer_legs.proofs.rests.all_rest_until.Given as goal

abbrev pub invariant-loop-place : goal.invariant-loop-place
invariant-loop-place l = RestUntil l.until (take l.place-index l.places)
