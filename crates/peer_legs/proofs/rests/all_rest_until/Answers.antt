use Rattle.std.proofs.Common.{◌≡◌, List, Option, true, refl, sym, subst, arith}
use Rattle.std.proofs.lemmas.List.{take_all}
use Rattle.peer_legs.specs.Legs.{NamedLeg}
use Rattle.peer_legs.specs.LegsInside.{RestUntil}
use Rattle.peer_legs.specs.Rests.{is_resting}
use Rattle.peer_legs.proofs.AtRest.{rest_more}
use Rattle.peer_legs.proofs.rests.all_rest_until.Goals as goal
use Rattle.peer_legs.proofs.rests.all_rest_until.Goals.{in-Some, in_default}

pub loop-place-preserved : goal.loop-place-preserved
loop-place-preserved c = elim c.match-place.branch [
  | in-Some w ↦
      rest_more c.loop-place.until c.match-place.until c.args.places.now c.loop-place.place-index c.place-item.result
      c.loop-place-test.true c.place-item.is
      (omega (arith, w.until-is, w.min-until.ensures)) c.loop-place.invariant
      (λ now before. subst (λ (place : Option NamedLeg). is_resting place now ≡ true) (sym w.in-Some.is)
      (w.rest_until.ensures now (omega (arith, before, w.until-is, w.min-until.ensures))))
  | in_default w ↦
      rest_more c.loop-place.until c.match-place.until c.args.places.now c.loop-place.place-index c.place-item.result
      c.loop-place-test.true c.place-item.is
      (omega (arith, w.until-is)) c.loop-place.invariant (λ now before. rw w.in_default.is refl)
]

pub returns : goal.returns
returns c =
    subst (λ (places : List (Option NamedLeg)). RestUntil c.loop-place.until places)
    (take_all c.loop-place.place-index c.args.places.now c.loop-place-test.false) c.loop-place.invariant
