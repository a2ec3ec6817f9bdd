-- The result of reading a datagram.
use Rattle.std.specs.Prelude.{◌≡◌, ℕ, List, Result, Ok, Err, MatchResult}
use Rattle.iax_frames.specs.Datagram.{Spells, Refuses}
use Rattle.iax_frames.specs.declared.datagram.Datagram.{Datagram}
use Rattle.iax_frames.specs.declared.datagram.FrameError.{FrameError}

-- reading these octets has this result: the datagram that they spell, or the reason why they spell none
pub record IsReading (octets : List ℕ) (answer : Result Datagram FrameError) : Type 0 where
  pub exact : MatchResult answer (Spells octets) (Refuses octets)
  pub only : (d : Datagram) → Spells octets d → answer ≡ Ok d
  pub only_error : (e : FrameError) → Refuses octets e → answer ≡ Err e
