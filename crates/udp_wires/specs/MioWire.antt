-- Properties of a bound socket.
use Rattle.std.specs.Prelude.{Bool, ℕ, List}
use Rattle.peer_plan.specs.declared.endpoint.Endpoint.{Endpoint}
use Rattle.udp_wires.specs.Parcels.{Parcel}
use Rattle.udp_wires.specs.PeerCounts.{count_of}
use Rattle.udp_wires.specs.declared.mio_wire.MioWire as code

-- the datagrams that it gave, in order
abbrev pub came_of : code.MioWire → List Parcel
came_of wire = wire.came

-- the datagrams that it was given to send, in order
abbrev pub went_of : code.MioWire → List Parcel
went_of wire = wire.went

-- those of them that it sent
abbrev pub sent_of : code.MioWire → List Parcel
sent_of wire = wire.sent

-- the number of datagrams that it was given to send
abbrev pub given_of : code.MioWire → ℕ
given_of wire = wire.given

-- the number of datagrams that it was given for an endpoint
abbrev pub given_to_of : code.MioWire → Endpoint → ℕ
given_to_of wire to = count_of wire.peers to

-- the number of its failed calls
abbrev pub failures_of : code.MioWire → ℕ
failures_of wire = wire.failures

-- the endpoints that it may send to
abbrev pub peers_of : code.MioWire → List Endpoint
peers_of wire = wire.peers.endpoints.items

-- whether a wait takes at most 2 ms, whatever the caller asks for
abbrev pub waits_short : code.MioWire → Bool
waits_short wire = wire.waits_short
