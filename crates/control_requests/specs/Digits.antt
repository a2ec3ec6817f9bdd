-- Numbers in decimal digits.
use Rattle.std.specs.Prelude.{ℕ, ◌+◌, ◌-◌, ◌*◌, ◌==◌, nat_le, List, [], ◌∷◌, length, Option, Some, None, if◌then◌else◌}
use Rattle.std.specs.Char.{is_ascii_digit}

-- the number spelled by the digits that follow those of n; nothing if one of these octets is no digit
abbrev pub number_after : ℕ → List ℕ → Option ℕ
number_after n [] = Some n
number_after n (d ∷ ds) = if is_ascii_digit d then number_after (10 * n + (d - 48)) ds else None

-- the number spelled by one digit or more
abbrev pub number_of : List ℕ → Option ℕ
number_of ds = if length ds == 0 then None else number_after 0 ds

-- n, or one more than the limit where n is greater
abbrev pub up_to : ℕ → ℕ → ℕ
up_to limit n = if nat_le n limit then n else limit + 1
