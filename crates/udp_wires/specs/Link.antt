-- The endpoints to which a socket next to a worker's own may be bound and connected.
use Rattle.std.specs.Prelude.{Bool, replicate, ◌==◌, ◌&&◌, not}
use Rattle.std.specs.Str.{bytes_eq}
use Rattle.peer_plan.specs.declared.endpoint.Endpoint.{Endpoint}

-- it names one address and one port; for a 0 the system chooses
abbrev pub is_definite : Endpoint → Bool
is_definite endpoint = not (bytes_eq endpoint.address (replicate 4 0)) && not (endpoint.port == 0)
