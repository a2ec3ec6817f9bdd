-- The datagrams whose step may ask for memory.
use Rattle.std.specs.Prelude.{ℕ, ◌<◌, IsSome}
use Rattle.iax_frames.specs.declared.datagram.Datagram.{Datagram}
use Rattle.iax_frames.specs.declared.datagram.Datagram.TheVariants.{Full, Mini, Video, Trunk}
use Rattle.peer_legs.specs.Finding.{found}
use Rattle.peer_lock.specs.Peer.{PeerView}

-- A full frame that a leg gets: the leg's record may need room. Media: the caller's list has no room for the signals of a mini
-- frame, or of the most entries that a trunk frame can have.
abbrev pub MayAsk : PeerView → ℕ → Datagram → Type 0
MayAsk peer room (Full frame) = IsSome (found peer.legs frame)
MayAsk peer room (Mini mini) = room < 1
MayAsk peer room (Video video) = ⊥
MayAsk peer room (Trunk trunk) = room < 512
