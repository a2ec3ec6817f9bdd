-- The figures of a peer, as metrics.
use Rattle.std.specs.Prelude.{ℕ, ◌/◌, List, codes, Option, Some, None, option_map}
use Rattle.service_state.specs.declared.figures.Figure.{Figure}
use Rattle.service_state.specs.declared.figures.Figure.TheVariants as figure
use Rattle.service_state.specs.declared.figures.PeerFigures.{PeerFigures}
use Rattle.service_state.specs.declared.reach.Reach.{Reach}
use Rattle.service_state.specs.declared.reach.Reach.TheVariants as reach
use Rattle.service_state.specs.declared.metrics.Kind.{Kind}
use Rattle.service_state.specs.declared.metrics.Kind.TheVariants.{Counter, Gauge}

-- the family of a figure: its kind and its name; the name of a counter ends in _total
abbrev pub family_of : Figure → Kind × List ℕ
family_of figure.Received = (Counter, codes "iax_datagrams_received_total")
family_of figure.TurnedAway = (Counter, codes "iax_datagrams_turned_away_total")
family_of figure.Sent = (Counter, codes "iax_datagrams_sent_total")
family_of figure.Lost = (Counter, codes "iax_datagrams_lost_total")
family_of figure.Legs = (Gauge, codes "iax_legs")
family_of figure.Numbers = (Gauge, codes "iax_numbers")
family_of figure.LegsEnded = (Counter, codes "iax_legs_ended_total")
family_of figure.Silence = (Gauge, codes "iax_peer_silence_seconds")
family_of figure.Up = (Gauge, codes "iax_peer_up")
family_of figure.Unreachable = (Gauge, codes "iax_peer_unreachable_seconds")
family_of figure.RoundTrip = (Gauge, codes "iax_peer_round_trip_milliseconds")
family_of figure.Accepted = (Counter, codes "iax_media_octets_accepted_total")
family_of figure.Packed = (Counter, codes "iax_media_octets_packed_total")
family_of figure.Queued = (Gauge, codes "iax_media_octets_queued")
family_of figure.Dropped = (Counter, codes "iax_media_octets_dropped_total")
family_of figure.Quelched = (Counter, codes "iax_media_octets_quelched_total")

-- the help text of its family
abbrev pub help_of : Figure → List ℕ
help_of figure.Received = codes "Datagrams that came from the peer."
help_of figure.TurnedAway = codes "Datagrams that would have opened a call while the exchange was stopping."
help_of figure.Sent = codes "Datagrams that went to the peer."
help_of figure.Lost = codes "Datagrams to the peer that the socket did not take."
help_of figure.Legs = codes "Call legs that the peer has."
help_of figure.Numbers = codes "Call legs that the peer can have at once."
help_of figure.LegsEnded = codes "Call legs of the peer that have ended."
help_of figure.Silence = codes "Seconds since the last sign of life of the peer."
help_of figure.Up = codes "Whether the peer is there: 0 if it answers no POKE and gives no other sign of life."
help_of figure.Unreachable = codes "Seconds since the last sign of life of a peer that is unreachable."
help_of figure.RoundTrip = codes "Milliseconds between the last POKE that the peer answered and its PONG."
help_of figure.Accepted = codes "Octets of media that came from the peer and were accepted."
help_of figure.Packed = codes "Octets of media to the peer that were written into frames."
help_of figure.Queued = codes "Octets of media to the peer that wait for a trunk frame."
help_of figure.Dropped = codes "Octets of media to the peer that were dropped."
help_of figure.Quelched = codes "Octets of media that were dropped because the peer wanted none."

-- whether a peer is there, as a number; none while that is unknown
abbrev pub up_value : Reach → Option ℕ
up_value reach.Unknown = None
up_value reach.Up = Some 1
up_value (reach.Unreachable since) = Some 0

-- a figure's value; a silence is in whole seconds, and has no value if the peer never sent anything
abbrev pub value_of : Figure → PeerFigures → Option ℕ
value_of figure.Received peer = Some peer.received
value_of figure.TurnedAway peer = Some peer.turned_away
value_of figure.Sent peer = Some peer.sent
value_of figure.Lost peer = Some peer.lost
value_of figure.Legs peer = Some peer.legs
value_of figure.Numbers peer = Some peer.numbers
value_of figure.LegsEnded peer = Some peer.legs_ended
value_of figure.Silence peer = option_map (λ ms. ms / 1000) peer.silent_ms
value_of figure.Up peer = up_value peer.reach
value_of figure.Unreachable peer = option_map (λ ms. ms / 1000) peer.unreachable_ms
value_of figure.RoundTrip peer = peer.round_trip_ms
value_of figure.Accepted peer = Some peer.accepted
value_of figure.Packed peer = Some peer.packed
value_of figure.Queued peer = Some peer.queued
value_of figure.Dropped peer = Some peer.dropped
value_of figure.Quelched peer = Some peer.quelched
