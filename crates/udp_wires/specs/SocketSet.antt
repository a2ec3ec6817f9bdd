-- Which sockets of a wire may have a datagram, by their places: there are 64 places.
use Rattle.std.specs.Prelude.{◌≡◌, ◌+◌, ◌-◌, ◌%◌, ◌<◌, ◌≤◌, ℕ}
use Rattle.std.specs.Int.{bit_at}
use Rattle.udp_wires.specs.declared.socket_set.SocketSet.{SocketSet}

-- the place is in the set
abbrev pub Has : SocketSet → ℕ → Type 0
Has set place = bit_at set.bits place ≡ 1

-- no place is in the set
abbrev pub IsEmpty : SocketSet → Type 0
IsEmpty set = (place : ℕ) → place < 64 → Has set place → ⊥

-- the number of steps from one place to another, going up, and from the last place on to the first
abbrev pub steps_from : ℕ → ℕ → ℕ
steps_from from place = (place + 64 - from) % 64

-- the place of the set that is met first, going round from that place on: none of the set is passed over
pub record IsFirstFrom (set : SocketSet) (from place : ℕ) : Type 0 where
  pub there : Has set place
  pub within : place < 64
  pub first : (other : ℕ) → other < 64 → Has set other → steps_from from place ≤ steps_from from other
