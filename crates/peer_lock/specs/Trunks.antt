-- Media that waits for a trunk frame to fill ("Meta Frames").
use Rattle.std.specs.Prelude.{ℕ, ◌+◌, ◌-◌, ◌&&◌, ◌||◌, nat_le, nat_lt, is_some, Bool, true, false, List, [], ◌∷◌, Option}
use Rattle.std.specs.Prelude.{None, Some, length}
use Rattle.std.specs.Prelude.{if◌then◌else◌}
use Rattle.iax_frames.specs.TrunkFrame.{head_len}
use Rattle.call_signals.specs.declared.rules.PeerRules.{PeerRules}
use Rattle.outbox.specs.Outbox.{OutboxView, put}
use Rattle.peer_accounts.specs.Accounts.{Accounts}
use Rattle.trunk_packer.specs.Queue.{QueueEntry, media_octets, call_entries, has_call, trunk_octets, trunk_spelling}

abbrev pub has_any : {A : Type 0} → List A → Bool
has_any [] = false
has_any (x ∷ xs) = true

-- ---- when the queue is sent

-- media waits for a frame to fill
abbrev pub waits : PeerRules → Bool
waits rules = is_some rules.trunk_ms

-- the trunk queue has no room for this many further octets
abbrev pub is_full_for : List QueueEntry → ℕ → Bool
is_full_for queue octets = nat_le 256 (length queue) || nat_lt 16384 (media_octets queue + octets)

-- the frame of the queued media has no room for this many further octets
abbrev pub fills_frame : Bool → List QueueEntry → ℕ → Bool
fills_frame timed queue octets = nat_lt 1400 (trunk_octets timed queue + head_len timed + octets)

-- The greatest number of entries of one call in a frame. Without timestamps a receiver would give two of them one moment.
abbrev pub most_entries : Bool → ℕ
most_entries timed = if timed then 16 else 1

-- the frame of the queued media has as many entries of the call as it may have
abbrev pub has_enough : Bool → List QueueEntry → ℕ → Bool
has_enough timed queue number = nat_le (most_entries timed) (call_entries number queue)

-- media of this length begins the next frame
abbrev pub begins_next : PeerRules → List QueueEntry → ℕ → ℕ → Bool
begins_next rules queue number octets = waits rules && (is_full_for queue octets
    || (fills_frame rules.trunk_timestamps queue octets || has_enough rules.trunk_timestamps queue number))

-- media of the call is queued, and is sent ahead of its full frames
abbrev pub goes_ahead : PeerRules → List QueueEntry → ℕ → Bool
goes_ahead rules queue number = waits rules && has_call number queue

-- an entry that was queued at one moment has waited this long at another
abbrev pub is_due : Option ℕ → ℕ → ℕ → Bool
is_due None since now = false
is_due (Some wait) since now = nat_le wait (now - since)

-- ---- the queue is sent

-- it is sent if it is to be and isn't empty
abbrev pub flushes : Bool → List QueueEntry → Bool
flushes goes queue = goes && has_any queue

-- .. as one trunk frame with the moment at which its oldest entry was queued; a full outbox loses it and counts it
abbrev pub outbox_after : Bool → Bool → ℕ → OutboxView → List QueueEntry → OutboxView
outbox_after goes timed since outbox queue =
    if flushes goes queue then put outbox (trunk_spelling timed since queue ∷ []) else outbox

abbrev pub queue_after : Bool → List QueueEntry → List QueueEntry
queue_after goes queue = if flushes goes queue then [] else queue

abbrev pub accounts_after : Bool → List QueueEntry → Accounts → Accounts
accounts_after goes queue a = record a {
  packed = if flushes goes queue then a.packed + a.queued else a.packed;
  queued = if flushes goes queue then 0 else a.queued;
}
