-- The steps of a trail, and of one more note.
use Rattle.std.specs.Prelude.{◌≡◌, List, [], ◌∷◌, ◌++◌, ◌+◌}
use Rattle.std.proofs.Common.{arith}
use Rattle.step_log.specs.Notes.{steps_in, steps_of}
use Rattle.step_log.specs.declared.made.Made.{Made}

pub steps_in_longer : (trail : List Made) (made : Made) → steps_in (trail ++ made ∷ []) ≡ steps_in trail + steps_of made
steps_in_longer [] made = omega arith
steps_in_longer (first ∷ trail) made = let e = steps_in_longer trail made in omega arith
