-- The media of a call: it is within its datagram, and the pass has the credit for it.
use Rattle.std.specs.Prelude.{◌≡◌, ℕ, ◌+◌, ◌≤◌, List}
use Rattle.std.specs.List.{AllByRecursion}
use Rattle.call_book.specs.declared.leg_name.LegName.{LegName}
use Rattle.call_signals.specs.declared.signal.Signal.{Signal}
use Rattle.peer_lock.specs.Accounts.{Credit}
use Rattle.peer_lock.specs.CarriedMedia.{LiesWithin, handed_octets}

-- all media among these is within a datagram of len octets, 1 to 1,380 octets each, and there is credit for all of it
pub record IsCovered (len credit : ℕ) (signals : List (LegName × Signal)) : Type 0 where
  pub within : AllByRecursion (LiesWithin len) signals
  pub octets : handed_octets signals ≤ credit

-- .. and the pass took credit for exactly that
pub record TakesCredit (len : ℕ) (old new : Credit) (signals : List (LegName × Signal)) : Type 0 where
  pub within : AllByRecursion (LiesWithin len) signals
  pub octets : new.octets ≡ old.octets + handed_octets signals
