-- A datagram that opens a leg ("NEW").
use Rattle.std.specs.Prelude.{ℕ, List}
use Rattle.iax_frames.specs.FullFrame.{FullFrame, SpellsFull}
use Rattle.peer_lock.specs.Openings.{IsOpening}

-- the octets spell a NEW that opens a leg
pub record SpellsOpening (octets : List ℕ) : Type 0 where
  pub frame : FullFrame
  pub spelled : SpellsFull octets frame
  pub opening : IsOpening frame
