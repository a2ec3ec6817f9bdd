-- Octets as printable characters of ASCII.
use Rattle.std.specs.Prelude.{ℕ, List, [], ◌∷◌, ◌+◌, ◌/◌, ◌%◌, if◌then◌else◌, ◌==◌, nat_lt, nat_le}

-- a digit of base 16
abbrev pub digit_of : ℕ → ℕ
digit_of value = if nat_lt value 10 then 48 + value else 87 + value

-- an octet as `\x` and two digits
abbrev pub escaped : ℕ → List ℕ
escaped octet = 92 ∷ 120 ∷ digit_of (octet / 16) ∷ digit_of (octet % 16) ∷ []

-- a printable octet but the backslash as it is, any other as `\x` and two digits
abbrev pub printable_octet : ℕ → List ℕ
printable_octet octet =
    if nat_lt octet 32 then escaped octet else (
    if nat_lt 126 octet then escaped octet else (
    if octet == 92 then escaped octet else octet ∷ []))
