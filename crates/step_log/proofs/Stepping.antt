-- At which peers steps were made, and at one more.
use Rattle.std.specs.Prelude.{◌≡◌, Bool, List, [], ◌∷◌, ◌++◌}
use Rattle.std.proofs.Common.{refl}
use Rattle.step_log.specs.Stepped.{with_all, with_made}
use Rattle.step_log.specs.declared.made.Made.{Made}

pub with_longer : (peers : List Bool) (trail : List Made) (made : Made) → with_all peers (trail ++ made ∷ []) ≡ with_made made
    (with_all peers trail)
with_longer peers [] made = refl
with_longer peers (first ∷ trail) made = with_longer (with_made first peers) trail made
