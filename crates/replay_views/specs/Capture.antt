-- A capture of UDP datagrams over IPv4: the file of libpcap, version 2.4, with all numbers in network order.
use Rattle.std.specs.Prelude.{ℕ, ◌+◌, ◌*◌, ◌/◌, ◌%◌, ◌^◌, ◌==◌, List, [], ◌∷◌, ◌++◌, length, if◌then◌else◌}
use Rattle.std.specs.Int.{w16, w32, to_be_bytes}
use Rattle.replay_views.specs.InternetChecksum.{checksum}
use Rattle.replay_views.specs.declared.capture.packet.UdpEndpoint.{UdpEndpoint}
use Rattle.replay_views.specs.declared.capture.packet.Packet.{Packet}

-- the head of the file: the magic number of microseconds, version 2.4, no time zone, no accuracy, packets of at most 65,535
-- octets, and link type 101, which is raw IP
abbrev pub file_header : List ℕ
file_header =
    to_be_bytes w32 0xa1b2c3d4 ++ (to_be_bytes w16 2 ++ (to_be_bytes w16 4
    ++ (to_be_bytes w32 0 ++ (to_be_bytes w32 0 ++ (to_be_bytes w32 65535 ++ to_be_bytes w32 101)))))

-- the head of a packet in the file: its moment in seconds, modulo 2^32, and microseconds; its octets in the file, and on the wire
abbrev pub record_header : ℕ → ℕ → List ℕ
record_header moment octets =
    to_be_bytes w32 (moment / 1000 % 2 ^ 32) ++ (to_be_bytes w32 (moment % 1000 * 1000)
    ++ (to_be_bytes w32 octets ++ to_be_bytes w32 octets))

-- "Internet Header Format" (RFC 791), up to the checksum: version 4, five words; no service; the total length; no
-- identification, because it is not to be fragmented; 64 hops; UDP
abbrev pub ipv4_front : ℕ → List ℕ
ipv4_front octets = 0x45 ∷ 0 ∷ to_be_bytes w16 (20 + octets) ++ (0 ∷ 0 ∷ 0x40 ∷ 0 ∷ 64 ∷ 17 ∷ [])

-- the header, with some checksum
abbrev pub ipv4_header_with : ℕ → ℕ → ℕ → ℕ → List ℕ
ipv4_header_with sum source destination octets =
    ipv4_front octets ++ (to_be_bytes w16 sum ++ (to_be_bytes w32 source ++ to_be_bytes w32 destination))

-- with its checksum, which is that of the header with 0 in the checksum's place
abbrev pub ipv4_header : ℕ → ℕ → ℕ → List ℕ
ipv4_header source destination octets =
    ipv4_header_with (checksum (ipv4_header_with 0 source destination octets)) source destination octets

-- "Fields" (RFC 768): the pseudo header, which the checksum covers before the UDP header
abbrev pub pseudo_header : ℕ → ℕ → ℕ → List ℕ
pseudo_header source destination octets =
    to_be_bytes w32 source ++ (to_be_bytes w32 destination ++ (0 ∷ 17 ∷ to_be_bytes w16 octets))

-- the UDP header and its payload
abbrev pub udp_with : ℕ → ℕ → ℕ → List ℕ → List ℕ
udp_with sum source destination payload =
    to_be_bytes w16 source ++ (to_be_bytes w16 destination
    ++ (to_be_bytes w16 (8 + length payload) ++ (to_be_bytes w16 sum ++ payload)))

-- the octets that a packet's UDP checksum covers
abbrev pub udp_summed : ℕ → Packet → List ℕ
udp_summed sum packet =
    pseudo_header packet.from.address packet.to.address (8 + length packet.payload.now)
    ++ udp_with sum packet.from.port packet.to.port packet.payload.now

-- a checksum of 0 is sent as 65,535, because 0 means that there is none
abbrev pub sent_checksum : ℕ → ℕ
sent_checksum sum = if sum == 0 then 65535 else sum

abbrev pub udp_checksum : Packet → ℕ
udp_checksum packet = sent_checksum (checksum (udp_summed 0 packet))

abbrev pub udp_datagram : Packet → List ℕ
udp_datagram packet = udp_with (udp_checksum packet) packet.from.port packet.to.port packet.payload.now

-- a packet in the file
abbrev pub packet_octets : Packet → List ℕ
packet_octets packet =
    record_header packet.moment (28 + length packet.payload.now)
    ++ (ipv4_header packet.from.address packet.to.address (8 + length packet.payload.now) ++ udp_datagram packet)
