-- A user's name or a secret, as a plan has them.
use Rattle.std.specs.Prelude.{◌≡◌, ℕ, ◌≤◌, ◌&&◌, Bool, true, List, length, nat_le}
use Rattle.std.specs.List.{list_all}

-- printable ASCII, the space included
abbrev pub is_printable : ℕ → Bool
is_printable octet = nat_le 0x20 octet && nat_le octet 0x7e

-- 1 to 64 octets of printable ASCII
abbrev pub IsCredential : List ℕ → Type 0
IsCredential octets = (1 ≤ length octets) × (length octets ≤ 64) × (list_all is_printable octets ≡ true)
