-- "Meta Frames": media that waits for a trunk frame
use Rattle.std.specs.Prelude.{◌≡◌, ℕ, ◌+◌, ◌%◌, ◌<◌, ◌≤◌, ◌==◌, ◌^◌, Bool, List, [], ◌∷◌, ◌++◌, ◌⊎◌, length, map, if◌then◌else◌}
use Rattle.std.specs.List.{flat_map, list_any}
use Rattle.iax_frames.specs.TrunkFrame.{TrunkEntry, TrunkFrame, SpellsTrunk, entry, entry_of, head_len, trunk_head}

-- an entry of the trunk queue
pub record QueueEntry : Type 0 where
  pub number : ℕ
  pub timestamp : ℕ
  pub media : List ℕ

-- the octets of media in a queue
abbrev pub media_octets : List QueueEntry → ℕ
media_octets [] = 0
media_octets (e ∷ es) = length e.media + media_octets es

-- a queue holds 256 entries and 16,384 octets of media: there is room for one entry more, of this many octets
pub record HasRoom (queue : List QueueEntry) (octets : ℕ) : Type 0 where
  pub entries : length queue < 256
  pub media : media_octets queue + octets ≤ 16384

-- there is no room for this many octets of media more
abbrev pub IsFull : List QueueEntry → ℕ → Type 0
IsFull queue octets = (256 ≤ length queue) ⊎ (16384 < media_octets queue + octets)

-- media of a call is queued
abbrev pub has_call : ℕ → List QueueEntry → Bool
has_call number queue = list_any (λ e. e.number == number) queue

-- the number of queued entries of a call
abbrev pub call_entries : ℕ → List QueueEntry → ℕ
call_entries number [] = 0
call_entries number (e ∷ es) = (if e.number == number then 1 else 0) + call_entries number es

-- an entry as a trunk frame has it
abbrev pub trunk_entry : Bool → QueueEntry → TrunkEntry
trunk_entry timed e = entry_of timed e.number e.timestamp e.media

-- the trunk frame of these entries at a moment
abbrev pub trunk_of : Bool → ℕ → List QueueEntry → TrunkFrame
trunk_of timed now entries =
    record { command_data = if timed then 1 else 0; timestamp = now % 2 ^ 32; entries = map (trunk_entry timed) entries }

-- the octets that spell the trunk frame of these entries at a moment
abbrev pub trunk_spelling : Bool → ℕ → List QueueEntry → List ℕ
trunk_spelling timed now entries =
    let t = trunk_of timed now entries in trunk_head t.command_data t.timestamp ++ flat_map entry t.entries

-- the number of octets of a trunk frame with these entries
abbrev pub trunk_octets : Bool → List QueueEntry → ℕ
trunk_octets timed [] = 8
trunk_octets timed (e ∷ es) = head_len timed + length e.media + trunk_octets timed es

-- The octets spell the trunk frame of the longest front of a queue that fits in 1,400 octets, and the rest of it stays.
pub record PacksFront (timed : Bool) (now : ℕ) (old new : List QueueEntry) (bytes : List ℕ) : Type 0 where
  pub front : List QueueEntry
  pub whole : old ≡ front ++ new
  pub spelled : SpellsTrunk bytes (trunk_of timed now front)
  pub size : length bytes ≡ trunk_octets timed front
  pub fits : trunk_octets timed front ≤ 1400
  pub longest : (e : QueueEntry) (rest : List QueueEntry) → new ≡ e ∷ rest → 1400 < trunk_octets timed (front ++ e ∷ [])
