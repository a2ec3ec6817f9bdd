-- The octets of C's `sockaddr_in`, as many as the system's calls expect. The family is in the byte order of the machine,
-- the port in that of the network, and the address follows.
use Rattle.std.specs.Prelude.{ℕ, List, ◌++◌, replicate}
use Rattle.std.specs.Int.{w16, to_le_bytes, to_be_bytes}
use Rattle.peer_plan.specs.declared.endpoint.Endpoint.{Endpoint}

-- 2 is IPv4
abbrev pub socket_address : Endpoint → List ℕ
socket_address at = to_le_bytes w16 2 ++ to_be_bytes w16 at.port ++ at.address ++ replicate 120 0
