-- The answer to a scrape that is kept.
use Rattle.std.specs.Prelude.{◌≡◌, ℕ, ◌-◌, nat_lt, Bool, false, Option, Some, None}
use Rattle.service_api.specs.declared.kept_answer.KeptAnswer.{KeptAnswer}

-- an answer is given for less than 1,000 milliseconds after it was made
abbrev pub is_fresh : Option ℕ → ℕ → Bool
is_fresh None now = false
is_fresh (Some made) now = nat_lt (now - made) 1000

-- the kept answer is as it was, whatever was made of the next one
pub record KeepsAnswer (old new : KeptAnswer) : Type 0 where
  pub octets : new.octets ≡ old.octets
  pub made : new.made ≡ old.made
