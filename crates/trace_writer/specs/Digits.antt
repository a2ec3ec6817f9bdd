-- Which datagrams are digits, and what a trace shows of them ("Frame Type", "DTMF Media Frames").
use Rattle.std.specs.Prelude.{ℕ, List, length, set, get_or, nat_le, Bool, not, ◌&&◌, ◌||◌, ◌==◌, bit_and, if◌then◌else◌}

-- a full frame of one of the two types of digits
abbrev pub spells_digit : List ℕ → Bool
spells_digit octets =
    nat_le 12 (length octets) && nat_le 0x80 (get_or octets 0 0)
    && (bit_and (get_or octets 10 0) 0x7f == 1 || bit_and (get_or octets 10 0) 0x7f == 12)

-- the subclass is the digit 0
abbrev pub hidden : List ℕ → List ℕ
hidden octets = set octets 11 0x30

-- the octets that a trace shows of a datagram
abbrev pub shown : Bool → List ℕ → List ℕ
shown shows_digits octets = if shows_digits || not (spells_digit octets) then octets else hidden octets
