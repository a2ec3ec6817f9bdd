-- The legs that wait for the answer to a challenge ("AUTHREQ").
use Rattle.std.specs.Prelude.{ℕ, ◌*◌, nat_le, Bool, false, Option, None, Some, count_by, length}
use Rattle.call_signals.specs.Stage.{is_stage}
use Rattle.call_signals.specs.declared.stage.Stage.TheVariants.{Challenged}
use Rattle.peer_legs.specs.Legs.{PeerLegs, NamedLeg}

-- at this place a leg waits for the answer to its challenge
abbrev pub is_challenged : Option NamedLeg → Bool
is_challenged None = false
is_challenged (Some named) = is_stage Challenged named.leg.stage

-- legs that wait so have at least half of the peer's numbers
abbrev pub is_crowded : PeerLegs → Bool
is_crowded legs = nat_le (length legs.places) (2 * count_by is_challenged legs.places)
