-- When a held frame is sent again, and what is noted then ("Message Transport").
use Rattle.std.specs.Prelude.{ℕ, zero, suc, ◌+◌, ◌-◌, ◌^◌, ◌&&◌, Bool, List, [], ◌∷◌, nat_le, min}
use Rattle.resend_queue.specs.declared.held_frame.Held.{Held}

module _ {F : Type 0} where
  -- it was last sent this long ago
  abbrev pub is_due : ℕ → ℕ → Held F → Bool
  is_due now retry_ms held = nat_le held.last now && nat_le retry_ms (now - held.last)

  -- sent again as one more try, of at most 2 ^ 32 - 1
  abbrev pub marked : ℕ → Held F → Held F
  marked now held = record held { last = now; tries = min (held.tries + 1) (2 ^ 32 - 1) }

  -- sent again, with one try fewer, so that the next try replaces one before
  abbrev pub hastened : ℕ → Held F → Held F
  hastened moment held = record held { last = moment; tries = held.tries - 1 }

  -- sent again, which is no try
  abbrev pub touched : ℕ → Held F → Held F
  touched now held = record held { last = now }

  -- the one at that place changed
  abbrev pub changed_at : (Held F → Held F) → ℕ → List (Held F) → List (Held F)
  changed_at change place [] = []
  changed_at change zero (held ∷ others) = change held ∷ others
  changed_at change (suc place) (held ∷ others) = held ∷ changed_at change place others
