-- The size of a request for memory.
use Rattle.std.specs.Prelude.{ℕ, ◌*◌}

-- The most octets that a request of the exchange asks for: those of a window's record, 65,536 payloads of 1,388 octets, and of
-- one payload more. A greater request is a fault, and isn't made.
abbrev pub most_octets : ℕ
most_octets = 1388 * 65537
