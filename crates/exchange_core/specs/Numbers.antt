-- Numbers that are called from outside.
use Rattle.std.specs.Prelude.{ℕ, List, length, ◌≤◌}
use Rattle.std.specs.List.{AllPass}
use Rattle.std.specs.Char.{is_ascii_graphic}

-- 1 to 64 octets of 0x21 to 0x7e, printable ASCII without the space
abbrev pub IsCalled : List ℕ → Type 0
IsCalled text = (1 ≤ length text) × (length text ≤ 64) × AllPass is_ascii_graphic text
