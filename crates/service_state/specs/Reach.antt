-- Whether a peer is there.
use Rattle.std.specs.Prelude.{ℕ, ◌-◌, nat_lt, List, codes, Option, Some, None, if◌then◌else◌}
use Rattle.service_state.specs.declared.reach.Reach.{Reach}
use Rattle.service_state.specs.declared.reach.Reach.TheVariants as reach

-- By when its last sign of life came, and when the last run of POKEs without an answer began: one after that shows that the
-- peer is there. An unreachable peer is so since its last sign of life, or since the moment 0.
abbrev pub reach_of : Option ℕ → Option ℕ → Reach
reach_of None None = reach.Unknown
reach_of (Some heard) None = reach.Up
reach_of None (Some since) = reach.Unreachable 0
reach_of (Some heard) (Some since) = if nat_lt since heard then reach.Up else reach.Unreachable heard

-- milliseconds since it is unreachable
abbrev pub unreachable_ms : Reach → ℕ → Option ℕ
unreachable_ms (reach.Unreachable since) now = Some (now - since)
unreachable_ms _ now = None

-- as clients see it
abbrev pub name_of : Reach → List ℕ
name_of reach.Unknown = codes "unknown"
name_of reach.Up = codes "up"
name_of (reach.Unreachable since) = codes "unreachable"
