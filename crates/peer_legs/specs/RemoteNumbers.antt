-- Local numbers by remote number.
use Rattle.std.specs.Prelude.{◌≢◌, ℕ, List, Option, None, Some, slice_get, slice_set}

-- no leg has a remote number
abbrev pub AreNone : List (Option ℕ) → Type 0
AreNone numbers = (remote number : ℕ) → slice_get numbers remote ≢ Some (Some number)

-- The numbers once the leg of a local number, or none, has this remote number, if it is known.
abbrev pub noted : List (Option ℕ) → Option ℕ → Option ℕ → List (Option ℕ)
noted numbers None number = numbers
noted numbers (Some remote) number = slice_set numbers remote number
