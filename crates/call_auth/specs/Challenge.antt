-- "CHALLENGE"
use Rattle.std.specs.Prelude.{ℕ, List, length, ◌≤◌}
use Rattle.std.specs.List.{AllPass}
use Rattle.std.specs.Char.{is_ascii_graphic}

-- a challenge that this exchange sends: 1 to 32 octets of 0x21 to 0x7e, printable ASCII without the space
abbrev pub IsChallenge : List ℕ → Type 0
IsChallenge text = (1 ≤ length text) × (length text ≤ 32) × AllPass is_ascii_graphic text
