-- The order in which the media of a datagram is handed up ("Mini Frames", "Meta Frames").
use Rattle.std.specs.Prelude.{ℕ, ◌≤◌, List, [], ◌∷◌}
use Rattle.call_book.specs.declared.leg_name.LegName.{LegName}
use Rattle.call_signals.specs.declared.signal.Signal.{Signal}
use Rattle.call_signals.specs.declared.signal.Signal.TheVariants.{Media}

-- Media begins at this place or behind it, and each further piece at the end of the one before it or behind. So no octet is in
-- two pieces.
abbrev pub Ascends : ℕ → List (LegName × Signal) → Type 0
Ascends at [] = Unit {0}
Ascends at ((name, Media span) ∷ others) = (at ≤ span.start) × (span.start ≤ span.end) × Ascends span.end others
Ascends at ((name, signal) ∷ others) = Ascends at others

-- a signal that isn't media
abbrev pub HasNoSpan : LegName × Signal → Type 0
HasNoSpan (name, Media span) = ⊥
HasNoSpan (name, signal) = Unit {0}
