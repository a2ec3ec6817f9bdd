-- The moments at which the legs of a peer have nothing to do.
use Rattle.std.specs.Prelude.{ℕ, ◌&&◌, not, Bool, true, Option, None, Some}
use Rattle.leg_machine.specs.Stage.{is_ended}
use Rattle.leg_machine.specs.Ticks.{is_idle}
use Rattle.peer_legs.specs.Legs.{NamedLeg}

-- at this place no leg has ended and none owes: there is nothing to be finished
abbrev pub is_quiet : Option NamedLeg → Bool
is_quiet None = true
is_quiet (Some named) = not (is_ended named.leg.stage) && not named.leg.owes

-- at this place there is nothing to be finished, and a tick has nothing to do
abbrev pub is_resting : Option NamedLeg → ℕ → Bool
is_resting None now = true
is_resting (Some named) now = is_quiet (Some named) && is_idle named.leg now
