-- Rows that one thread hands over to another.
use Rattle.std.specs.Prelude.{ℕ, List, ◌++◌, refl}
use Rattle.std.specs.Coded.{Coded, code_by, coded×, coded_list, coded_ℕ}

pub record Handed (T : Type 0) : Type 0 where
  -- the rows that went into the ring, the oldest first
  pub gone : List T
  -- the rows for which the ring had no room, and which are kept
  pub kept : List T
  -- the greatest number of rows that are kept
  pub room : ℕ

module _ {T : Type 0} where
  abbrev pub handed_code : Coded T → Coded (Handed T)
  handed_code c =
      code_by (List T × (List T × ℕ)) (coded× (coded_list c) (coded× (coded_list c) coded_ℕ)) (λ h. (h.gone, (h.kept, h.room)))
      (λ p. record { gone = p.0; kept = p.1.0; room = p.1.1 }) (λ _. refl)

  -- all that was handed over and isn't lost, in its order
  abbrev pub all_of : Handed T → List T
  all_of h = h.gone ++ h.kept
