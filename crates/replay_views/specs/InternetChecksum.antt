-- The one's complement sum of octets, and the checksum of it (RFC 1071).
use Rattle.std.specs.Prelude.{ℕ, ◌+◌, ◌-◌, ◌*◌, ◌%◌, ◌==◌, List, [], ◌∷◌, nat_lt, if◌then◌else◌}

-- the sum of the words of 16 bits, the higher octet of each first; an odd octet at the end is the higher one of a last word
abbrev pub word_sum : List ℕ → ℕ
word_sum [] = 0
word_sum (high ∷ []) = 256 * high
word_sum (high ∷ low ∷ octets) = 256 * high + low + word_sum octets

-- A sum kept to 16 bits: a carry out of the highest bit is added at the lowest. That is arithmetic modulo 65,535, except
-- that only the sum 0 is kept as 0.
abbrev pub ones_complement : ℕ → ℕ
ones_complement sum = if sum == 0 then 0 else (sum - 1) % 65535 + 1

-- two words are added, and the carry comes in at the lowest bit
abbrev pub end_around : ℕ → ℕ → ℕ
end_around word other = if nat_lt (word + other) 65536 then word + other else word + other - 65535

-- the one's complement of the one's complement sum
abbrev pub checksum : List ℕ → ℕ
checksum octets = 65535 - ones_complement (word_sum octets)
