-- A leg with the facts of its call, as the exchange reports them.
use Rattle.std.specs.Prelude.{ℕ, Option, option_map}
use Rattle.call_signals.specs.NewElements.{new_elements}
use Rattle.leg_machine.specs.Openings.{new_data}
use Rattle.peer_legs.specs.Finding.{next_leg}
use Rattle.peer_legs.specs.Legs.{NamedLeg, PeerLegs}
use Rattle.peer_lock.specs.Statuses.{status_of}
use Rattle.peer_lock.specs.declared.descriptions.Description.{Description}

abbrev pub description_of : NamedLeg → Description
description_of named = record {
  status = status_of named;
  format = named.leg.format;
  remote = named.leg.remote;
  opened = named.leg.opened;
  called = (new_elements (new_data named.leg.window.history)).called;
  calling = (new_elements (new_data named.leg.window.history)).calling;
}

-- the leg with the least local number that is at least this one
abbrev pub description_from : PeerLegs → ℕ → Option Description
description_from legs number = option_map description_of (next_leg legs number)
