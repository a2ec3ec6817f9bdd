-- Rows that wait, in bounded memory.
use Rattle.std.specs.Prelude.{ℕ, ◌+◌, ◌%◌, ◌^◌, nat_lt, List, [], ◌∷◌, ◌++◌, length, drop, refl, if◌then◌else◌}
use Rattle.std.specs.Coded.{Coded, code_by, coded×, coded_list, coded_ℕ}

pub record BacklogState (T : Type 0) : Type 0 where
  -- the oldest first
  pub waiting : List T
  -- the greatest number of rows
  pub capacity : ℕ
  -- the number of lost rows, modulo 2 ^ 64
  pub lost : ℕ

module _ {T : Type 0} where
  abbrev pub backlog_code : Coded T → Coded (BacklogState T)
  backlog_code c =
      code_by (List T × (ℕ × ℕ)) (coded× (coded_list c) (coded× coded_ℕ coded_ℕ)) (λ b. (b.waiting, (b.capacity, b.lost)))
      (λ p. record { waiting = p.0; capacity = p.1.0; lost = p.1.1 }) (λ _. refl)

  -- with one more row at the end; without room the row is lost
  abbrev pub with_row : BacklogState T → T → BacklogState T
  with_row b row =
      if nat_lt (length b.waiting) b.capacity
      then record { waiting = b.waiting ++ row ∷ []; capacity = b.capacity; lost = b.lost }
      else record { waiting = b.waiting; capacity = b.capacity; lost = (b.lost + 1) % 2 ^ 64 }

  -- without its oldest
  abbrev pub without_front : BacklogState T → BacklogState T
  without_front b = record { waiting = drop 1 b.waiting; capacity = b.capacity; lost = b.lost }
