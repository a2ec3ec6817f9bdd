-- The notes of a drain of all peers.
use Rattle.std.specs.Prelude.{ℕ, zero, suc, Bool}
use Rattle.step_log.specs.Notes.{Noted, note}
use Rattle.step_log.specs.declared.made.Made.TheVariants as mades

-- the pass once each peer before a place was told, one after another, whether it drains
abbrev pub drained : ℕ → Bool → Noted → Noted
drained zero drains pass = pass
drained (suc place) drains pass = note (mades.SetDraining place drains) (drained place drains pass)
