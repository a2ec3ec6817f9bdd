-- The rows of the tables, and their effect on a leg.
pub use Rattle.call_signals.specs.Effects.{row, marking, no_effect, reply_alone, hung_up, rejected, goes_on, unless_over}
pub use Rattle.call_signals.specs.Effects.{is_reply}
use Rattle.std.specs.Prelude.{true, false}
use Rattle.leg_machine.specs.Leg.{LegState}
use Rattle.call_signals.specs.declared.effects.Mark.{Mark}
use Rattle.call_signals.specs.declared.effects.Mark.TheVariants.{Nothing, Quelches, Unquelches, Authenticates}

abbrev pub marked : LegState → Mark → LegState
marked leg Nothing = leg
marked leg Quelches = record leg { quelched = true }
marked leg Unquelches = record leg { quelched = false }
marked leg Authenticates = record leg { authenticated = true }
