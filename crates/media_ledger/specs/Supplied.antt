-- the supply of a ledger
use Rattle.std.specs.Prelude.{ℕ}

-- the number of shares, and their sum
pub record Supplied : Type 0 where
  pub shares : ℕ
  pub amount : ℕ
