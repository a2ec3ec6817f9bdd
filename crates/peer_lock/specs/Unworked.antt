-- The checks before a datagram is handled, and its refusal by them ("Full Frames", "Information Elements").
use Rattle.std.specs.Prelude.{◌≡◌, ◌≢◌, ℕ, ◌+◌, ◌<◌, ◌≤◌, ◌⊎◌, List, length, map}
use Rattle.call_signals.specs.Codes.{FRAME_IAX}
use Rattle.iax_frames.specs.Datagram.{Spells, Refuses}
use Rattle.iax_frames.specs.FullFrame.{FullFrame}
use Rattle.iax_frames.specs.TrunkFrame.{entry_item, is_timed}
use Rattle.iax_frames.specs.declared.datagram.Datagram.{Datagram}
use Rattle.iax_frames.specs.declared.datagram.Datagram.TheVariants.{Full, Mini, Video, Trunk}
use Rattle.iax_frames.specs.declared.datagram.FrameError.TheVariants as unread
use Rattle.info_elements.specs.Element.{IsElementCutAt}
use Rattle.peer_lock.specs.Arrivals.{entries_len}
use Rattle.peer_lock.specs.declared.errors.PeerError.{PeerError}
use Rattle.peer_lock.specs.declared.errors.PeerError.TheVariants as errors

-- the last element of an IAX frame passes the end
abbrev pub IsCutFrame : FullFrame → Type 0
IsCutFrame frame = (frame.head.frame_type ≡ FRAME_IAX) × ((place : ℕ) × IsElementCutAt frame.payload place)

-- the refusal of a full frame before it reaches a leg, in this order: too much data, no source, elements that are cut
abbrev pub IsRefusedFull : FullFrame → PeerError → Type 0
IsRefusedFull frame errors.TooLong = 1388 < length frame.payload
IsRefusedFull frame errors.NoSource = (length frame.payload ≤ 1388) × (frame.head.source ≡ 0)
IsRefusedFull frame errors.Cut = (length frame.payload ≤ 1388) × (frame.head.source ≢ 0) × IsCutFrame frame
IsRefusedFull frame _ = ⊥

abbrev pub IsRefusedRead : Datagram → PeerError → Type 0
IsRefusedRead (Full frame) e = IsRefusedFull frame e
IsRefusedRead (Mini mini) e = ⊥
IsRefusedRead (Video video) e = ⊥
IsRefusedRead (Trunk trunk) e = ⊥

-- a full frame for which a leg is looked for
pub record IsSoundFull (frame : FullFrame) : Type 0 where
  pub short : length frame.payload ≤ 1388
  pub source : frame.head.source ≢ 0
  pub readable : IsCutFrame frame → ⊥

abbrev pub IsSound : Datagram → Type 0
IsSound (Full frame) = IsSoundFull frame
IsSound (Mini mini) = Unit {0}
IsSound (Video video) = Unit {0}
IsSound (Trunk trunk) = Unit {0}

-- the refusal of octets, at most 2,048 of them, that spell nothing to be handled
abbrev pub IsUnread : List ℕ → PeerError → Type 0
IsUnread octets errors.Short = Refuses octets unread.Short
IsUnread octets errors.MetaCommand = (command : ℕ) × Refuses octets (unread.MetaCommand command)
IsUnread octets errors.EntryCut = (place : ℕ) × Refuses octets (unread.EntryCut place)
IsUnread octets e = (d : Datagram) × Spells octets d × IsRefusedRead d e

-- The refusal of a datagram, in the order of the errors. The peer has made this many steps of those for which it has
-- credit.
abbrev pub IsUnworked : ℕ → ℕ → List ℕ → PeerError → Type 0
IsUnworked credit made octets errors.StepsSpent = made ≡ credit
IsUnworked credit made octets errors.TooLong =
    (made ≢ credit) × ((2048 < length octets) ⊎ (length octets ≤ 2048) × IsUnread octets errors.TooLong)
IsUnworked credit made octets e = (made ≢ credit) × (length octets ≤ 2048) × IsUnread octets e

-- the octets spell this datagram, which is handled
pub record IsWorked (credit made : ℕ) (octets : List ℕ) (d : Datagram) : Type 0 where
  pub steps : made ≢ credit
  pub short : length octets ≤ 2048
  pub spelled : Spells octets d
  pub sound : IsSound d

-- no more than 2,048 octets spell it
abbrev pub IsShortDatagram : Datagram → Type 0
IsShortDatagram (Full frame) = Unit {0}
IsShortDatagram (Mini mini) = length mini.media ≤ 2048
IsShortDatagram (Video video) = Unit {0}
IsShortDatagram (Trunk trunk) = 8 + entries_len (is_timed trunk.command_data) (map entry_item trunk.entries) ≤ 2048
