use Rattle.service_api.specs.Orders.{CountsLegs}
use Rattle.service_api.proofs.legs.count_all.Given as goal

abbrev pub invariant-loop-place : goal.invariant-loop-place
invariant-loop-place g l = CountsLegs l.place l.legs l.initial.pass l.pass
