-- The layout of an outbox: its datagrams, one after another. A ring has the length of each.
use Rattle.std.specs.Prelude.{◌≡◌, ℕ, ◌≤◌, List, [], ◌∷◌, length, take, drop, sum}
use Rattle.std.specs.List.{AllByRecursion}
use Rattle.iax_frames.specs.Datagram.{IsFrame}

-- the datagrams of these lengths in the octets
abbrev pub datagrams_in : List ℕ → List ℕ → List (List ℕ)
datagrams_in [] octets = []
datagrams_in (len ∷ lens) octets = take len octets ∷ datagrams_in lens (drop len octets)

-- the octets spell a frame, and are at most 1,400
abbrev pub IsDatagram : List ℕ → Type 0
IsDatagram octets = IsFrame octets × (length octets ≤ 1400)

-- the octets are at most 256 datagrams of these lengths
pub record HoldsDatagrams (lens octets : List ℕ) : Type 0 where
  pub each : AllByRecursion IsDatagram (datagrams_in lens octets)
  pub whole : sum lens ≡ length octets
  pub few : length lens ≤ 256
