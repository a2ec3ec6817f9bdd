-- "Mini Frames"
use Rattle.std.specs.Prelude.{◌≡◌, ℕ, ◌<◌, ◌^◌, List, ◌++◌, drop}
use Rattle.std.specs.Int.{w16, to_be_bytes}
use Rattle.iax_frames.specs.Octets.{u16_at}

-- a mini frame, without its place in memory
pub record MiniFrame : Type 0 where
  pub source : ℕ
  pub timestamp : ℕ
  pub media : List ℕ

-- the octets of a mini frame
abbrev pub mini_spelling : MiniFrame → List ℕ
mini_spelling m = to_be_bytes w16 m.source ++ to_be_bytes w16 m.timestamp ++ m.media

-- the octets spell this mini frame
pub record SpellsMini (bytes : List ℕ) (m : MiniFrame) : Type 0 where
  pub some_source : 0 < m.source
  pub source : m.source < 2 ^ 15
  pub timestamp : m.timestamp < 2 ^ 16
  pub whole : bytes ≡ mini_spelling m

-- the mini frame that four octets and more spell, if they begin with 1 to 32767
abbrev pub mini_at : List ℕ → MiniFrame
mini_at bytes = record { source = u16_at bytes 0; timestamp = u16_at bytes 2; media = drop 4 bytes }
