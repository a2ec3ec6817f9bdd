-- A queue of held frames, as a contract sees it ("Message Transport").
use Rattle.std.specs.Prelude.{ℕ, List}
use Rattle.resend_queue.specs.declared.held_frame.Held.{Held}

pub record Queue (F : Type 0) : Type 0 where
  -- the oldest first
  pub held : List (Held F)
  -- the greatest number of frames
  pub width : ℕ
