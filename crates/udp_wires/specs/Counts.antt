-- Counts of 64 bits that wrap.
use Rattle.std.specs.Prelude.{◌≡◌, ◌≤◌, ℕ, ◌+◌, ◌%◌, ◌^◌}

-- the count went up by n, modulo 2 ^ 64
abbrev pub RisesBy : ℕ → ℕ → ℕ → Type 0
RisesBy old new n = new % 2 ^ 64 ≡ (old + n) % 2 ^ 64

-- the count went up by at most this number, modulo 2 ^ 64
abbrev pub RisesByAtMost : ℕ → ℕ → ℕ → Type 0
RisesByAtMost most old new = (n : ℕ) × (n ≤ most) × RisesBy old new n

-- two counts went up by as much, modulo 2 ^ 64
abbrev pub RiseAlike : ℕ → ℕ → ℕ → ℕ → Type 0
RiseAlike old new other_old other_new = (new + other_old) % 2 ^ 64 ≡ (old + other_new) % 2 ^ 64
