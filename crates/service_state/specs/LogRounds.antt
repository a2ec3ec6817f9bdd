-- When lines with counts are due.
use Rattle.std.specs.Prelude.{ℕ, ◌-◌, nat_le, Option, Some, None, if◌then◌else◌}

-- the length of the round, if it is over
abbrev pub due : ℕ → ℕ → ℕ → Option ℕ
due period since now = if nat_le period (now - since) then Some (now - since) else None

-- the start of the current round after that moment
abbrev pub begun : ℕ → ℕ → ℕ → ℕ
begun period since now = if nat_le period (now - since) then now else since
