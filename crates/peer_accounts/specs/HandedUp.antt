-- The signals that the legs of a peer hand up in one step.
use Rattle.std.specs.Prelude.{◌≡◌, ℕ, List, [], Option, None}
use Rattle.call_book.specs.declared.leg_name.LegName.{LegName}
use Rattle.call_signals.specs.declared.signal.Signal.{Signal}
use Rattle.peer_accounts.specs.declared.onwards.Offer.{Offer}

pub record HandedUp : Type 0 where
  -- in order, each with the name of its leg
  pub signals : List (LegName × Signal)
  -- the offer of an offered call
  pub offer : Option Offer
  -- the room for further signals
  pub room : ℕ

abbrev pub nothing : ℕ → HandedUp
nothing room = record { signals = []; offer = None; room = room }

-- nothing is handed up
pub record IsNothing (onwards : HandedUp) : Type 0 where
  pub signals : onwards.signals ≡ []
  pub offer : onwards.offer ≡ None
