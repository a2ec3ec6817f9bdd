-- The leg of a peer that gets a full frame ("Full Frames"), and the leg with the next number.
use Rattle.std.specs.Prelude.{◌≡◌, ℕ, ◌-◌, ◌<◌, ◌≤◌, ◌==◌, Bool, false, List, [], ◌∷◌, drop, Option, None, Some, if◌then◌else◌}
use Rattle.iax_frames.specs.FullFrame.{FullFrame}
use Rattle.peer_legs.specs.Legs.{PeerLegs, NamedLeg, leg_at, leg_of_remote, is_from}

-- the leg's remote number is the source, or is unknown while no leg has that one
abbrev pub is_reached : PeerLegs → ℕ → NamedLeg → Bool
is_reached legs source named = is_from legs named.leg.remote source

-- a full frame from this source may reach the leg under a number
abbrev pub can_reach : PeerLegs → ℕ → Option NamedLeg → Bool
can_reach legs source None = false
can_reach legs source (Some named) = is_reached legs source named

abbrev pub if_reached : PeerLegs → ℕ → Option NamedLeg → Option NamedLeg
if_reached legs source None = None
if_reached legs source (Some named) = if is_reached legs source named then Some named else None

-- with a destination the leg of that number, otherwise the leg with that remote number
abbrev pub found : PeerLegs → FullFrame → Option NamedLeg
found legs frame =
    if frame.head.destination == 0
    then leg_of_remote legs frame.head.source
    else if_reached legs frame.head.source (leg_at legs frame.head.destination)

-- ---- the legs in the order of their numbers

-- the first leg of these places
abbrev pub first_leg : List (Option NamedLeg) → Option NamedLeg
first_leg [] = None
first_leg (None ∷ places) = first_leg places
first_leg (Some named ∷ places) = Some named

-- the leg with the least local number that is at least this one
abbrev pub next_leg : PeerLegs → ℕ → Option NamedLeg
next_leg legs number = first_leg (drop (number - legs.first) legs.places)

-- no leg has a number from this one on
abbrev pub AreFreeFrom : PeerLegs → ℕ → Type 0
AreFreeFrom legs from = (number : ℕ) → from ≤ number → leg_at legs number ≡ None

-- no leg has a number from one on and below another
abbrev pub AreFreeBetween : PeerLegs → ℕ → ℕ → Type 0
AreFreeBetween legs from to = (number : ℕ) → from ≤ number → number < to → leg_at legs number ≡ None
