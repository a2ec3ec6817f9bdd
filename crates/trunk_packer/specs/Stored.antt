-- The layout of a queue in a ring of octets: its entries, one after another.
use Rattle.std.specs.Prelude.{◌≡◌, ℕ, ◌+◌, ◌<◌, ◌≤◌, ◌^◌, Bool, ◌&&◌, List, ◌++◌, length, take, drop, nat_lt, nat_le}
use Rattle.std.specs.Prelude.{if◌then◌else◌, Option, Some, None}
use Rattle.std.specs.Int.{w16, to_be_bytes}
use Rattle.iax_frames.specs.Octets.{u16_at}
use Rattle.iax_frames.specs.Items.{SpellsItems, items_of}
use Rattle.trunk_packer.specs.Queue.{QueueEntry, media_octets}

-- an entry: its number, the length of its media and its timestamp, two octets each, and the media
abbrev pub stored : QueueEntry → List ℕ
stored e = (to_be_bytes w16 e.number ++ to_be_bytes w16 (length e.media) ++ to_be_bytes w16 e.timestamp) ++ e.media

pub record IsStored (e : QueueEntry) : Type 0 where
  pub number : e.number < 2 ^ 15
  pub timestamp : e.timestamp < 2 ^ 16
  pub media : length e.media ≤ 1380

-- a whole entry begins the octets
abbrev pub begins_stored : List ℕ → Bool
begins_stored bytes =
    nat_le (6 + u16_at bytes 2) (length bytes) && nat_lt (u16_at bytes 0) 32768 && nat_le (u16_at bytes 2) 1380

-- the entry at the front, and what follows it
abbrev pub first_stored : List ℕ → Option (QueueEntry × List ℕ)
first_stored bytes =
    if begins_stored bytes then Some (
      record { number = u16_at bytes 0; timestamp = u16_at bytes 4; media = take (u16_at bytes 2) (drop 6 bytes) },
      drop (u16_at bytes 2) (drop 6 bytes),
    )
    else None

-- the queue in the octets
abbrev pub queue_in : List ℕ → List QueueEntry
queue_in bytes = items_of first_stored bytes

-- the octets are a queue, with this many entries and octets of media
pub record HoldsQueue (bytes : List ℕ) (entries media : ℕ) : Type 0 where
  pub spelled : SpellsItems stored IsStored bytes (queue_in bytes)
  pub entries_counted : length (queue_in bytes) ≡ entries
  pub media_counted : media_octets (queue_in bytes) ≡ media
  pub few_entries : entries ≤ 256
  pub little_media : media ≤ 16384
