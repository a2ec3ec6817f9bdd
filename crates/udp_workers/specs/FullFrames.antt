-- The full frames that a worker looks for in octets.
use Rattle.std.specs.Prelude.{◌≡◌, ℕ, List}
use Rattle.call_signals.specs.Codes.{FRAME_IAX}
use Rattle.iax_frames.specs.FullFrame.{FullFrame, SpellsFull}

-- a full frame of type IAX ("Frame Type")
abbrev pub IsIax : FullFrame → Type 0
IsIax frame = frame.head.frame_type ≡ FRAME_IAX

-- the octets spell a full frame of this kind
pub record SpellsKind (kind : FullFrame → Type 0) (octets : List ℕ) : Type 0 where
  pub frame : FullFrame
  pub spelled : SpellsFull octets frame
  pub is : kind frame
