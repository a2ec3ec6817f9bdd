-- One step of packing a trunk frame from the front of a ring.
use Rattle.std.specs.Prelude.{◌≡◌, ℕ, ◌+◌, ◌≤◌, Bool, List, length, Some}
use Rattle.iax_frames.specs.TrunkFrame.{TrunkFrame, SpellsTrunk, with_entry, head_len, is_timed}
use Rattle.trunk_packer.specs.Queue.{QueueEntry, trunk_entry}
use Rattle.trunk_packer.specs.Stored.{first_stored}

-- the entry at the front of the octets is moved to the end of the trunk frame
pub record AppendsFront (timed : Bool) (old new octets : List ℕ) (media : ℕ) (rest : List ℕ) : Type 0 where
  pub entry : QueueEntry
  pub first : first_stored octets ≡ Some (entry, rest)
  pub spelled : (t : TrunkFrame) → SpellsTrunk old t →
      SpellsTrunk new (with_entry t (trunk_entry (is_timed t.command_data) entry))
  pub size : length new ≡ length old + head_len timed + length entry.media
  pub fits : length new ≤ 1400
  pub counted : media ≡ length entry.media
