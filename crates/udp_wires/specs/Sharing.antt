-- Which workers share an endpoint.
use Rattle.std.specs.Prelude.{ℕ, List, [], ◌∷◌, Bool, take, drop, if◌then◌else◌}
use Rattle.std.specs.List.{list_any}
use Rattle.peer_plan.specs.Reading.{is_endpoint}
use Rattle.peer_plan.specs.declared.endpoint.Endpoint.{Endpoint}
use Rattle.udp_wires.specs.declared.sharing.Sharing.{Sharing}
use Rattle.udp_wires.specs.declared.sharing.Sharing.TheVariants.{Alone, First, Beside}

-- whether one of these has this endpoint
abbrev pub is_among : List Endpoint → Endpoint → Bool
is_among workers at = list_any (λ other. is_endpoint other at) workers

-- how the first of the others shares its endpoint with those before it and those behind it
abbrev pub sharing_among : List Endpoint → List Endpoint → Sharing
sharing_among before [] = Alone
sharing_among before (at ∷ behind) = if is_among before at then Beside else if is_among behind at then First else Alone

-- how the worker at a place shares its endpoint with the others
abbrev pub sharing_of : List Endpoint → ℕ → Sharing
sharing_of workers place = sharing_among (take place workers) (drop place workers)
