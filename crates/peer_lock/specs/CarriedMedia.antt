-- The media of a datagram that is handed up: its place, and its number of octets ("Mini Frames", "Meta Frames").
use Rattle.std.specs.Prelude.{◌≡◌, ℕ, ◌+◌, ◌≤◌, true, List, [], ◌∷◌}
use Rattle.std.specs.List.{AllByRecursion}
use Rattle.call_book.specs.declared.leg_name.LegName.{LegName}
use Rattle.leg_machine.specs.LegTable.{is_media}
use Rattle.leg_machine.specs.Signal.{span_len}
use Rattle.call_signals.specs.declared.signal.Signal.{Signal}
use Rattle.call_signals.specs.declared.signal.Signal.TheVariants.{Media}
use Rattle.peer_lock.specs.Peer.{PeerStep}

-- media is within a datagram of len octets, and has 1 to 1,380 of them
abbrev pub LiesWithin : ℕ → LegName × Signal → Type 0
LiesWithin len (name, Media span) = (span.start ≤ span.end) × (span.end ≤ len) × (is_media (span_len span) ≡ true)
LiesWithin len (name, signal) = Unit {0}

abbrev pub signal_octets : Signal → ℕ
signal_octets (Media span) = span_len span
signal_octets signal = 0

-- the octets of all media among these
abbrev pub handed_octets : List (LegName × Signal) → ℕ
handed_octets [] = 0
handed_octets (up ∷ signals) = signal_octets up.1 + handed_octets signals

-- the step hands up media of the datagram alone, and takes credit for all of it
pub record CarriesItsOwn (len : ℕ) (step : PeerStep) : Type 0 where
  pub within : AllByRecursion (LiesWithin len) step.signals
  pub octets : handed_octets step.signals ≡ step.octets
