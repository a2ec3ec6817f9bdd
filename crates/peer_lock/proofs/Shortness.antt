-- The greatest content of a datagram of at most 2,048 octets.
use native.Mathlib.Omega.{arith}
use Rattle.std.proofs.Common.{◌≡◌, ◌≤◌, ℕ, suc, ◌+◌, Bool, true, false, List, [], ◌∷◌, Option, Some, None, length, map, ap, ◌∙◌}
use Rattle.std.proofs.Common.{subst, refl}
use Rattle.std.proofs.lemmas.List.{length-append}
use Rattle.std.specs.List.{flat_map, AllByRecursion}
use Rattle.iax_frames.specs.Datagram.{Spells}
use Rattle.iax_frames.specs.MiniFrame.{MiniFrame, SpellsMini}
use Rattle.iax_frames.specs.TrunkFrame.{TrunkEntry, TrunkFrame, SpellsTrunk, IsEntry, IsStamp, entry, entry_head, entry_item}
use Rattle.iax_frames.specs.TrunkFrame.{trunk_head, head_len, is_timed}
use Rattle.iax_frames.specs.declared.datagram.Datagram.{Datagram}
use Rattle.iax_frames.specs.declared.datagram.Datagram.TheVariants.{Full, Mini, Video, Trunk}
use Rattle.peer_lock.specs.Arrivals.{entries_len}
use Rattle.peer_lock.specs.Unworked.{IsShortDatagram}

head_is : (timed : Bool) (e : TrunkEntry) (stamp : Option ℕ) → IsStamp timed stamp → length (entry_head e stamp) ≡ head_len timed
head_is true e (Some t) here = refl
head_is true e None here = absurd here
head_is false e (Some t) here = absurd here
head_is false e None here = refl

one : (timed : Bool) (e : TrunkEntry) → IsEntry timed e → length (entry e) ≡ head_len timed + length e.media
one timed e here = length-append (entry_head e e.timestamp) e.media ∙ ap (λ n. n + length e.media)
    (head_is timed e e.timestamp here.timestamp)

all : (timed : Bool) (es : List TrunkEntry) → AllByRecursion (IsEntry timed) es → length (flat_map entry es) ≡ entries_len timed
    (map entry_item es)
all timed [] each = refl
all timed (e ∷ es) each =
    length-append (entry e) (flat_map entry es)
    ∙ ap (λ n. n + length (flat_map entry es)) (one timed e each.0) ∙ ap (λ n. head_len timed + length e.media + n)
    (all timed es each.1)

-- the length of a trunk frame
pub trunk_len : (octets : List ℕ) (t : TrunkFrame) → SpellsTrunk octets t
    → length octets ≡ 8 + entries_len (is_timed t.command_data) (map entry_item t.entries)
trunk_len octets t s =
    ap length s.whole ∙ length-append (trunk_head t.command_data t.timestamp) s.rest
    ∙ ap (λ n. 8 + n) (ap length s.entries.whole ∙ all (is_timed t.command_data) t.entries s.entries.each)

trunk_short : (octets : List ℕ) (t : TrunkFrame) → SpellsTrunk octets t → length octets ≤ 2048
    → 8 + entries_len (is_timed t.command_data) (map entry_item t.entries) ≤ 2048
trunk_short octets t s short = subst (λ n. n ≤ 2048) (trunk_len octets t s) short

within : (n m : ℕ) → n ≡ suc (suc (suc (suc m))) → n ≤ 2048 → m ≤ 2048
within n m here short = omega arith

mini_short : (octets : List ℕ) (m : MiniFrame) → SpellsMini octets m → length octets ≤ 2048 → length m.media ≤ 2048
mini_short octets m s short = within (length octets) (length m.media) (ap length s.whole) short

-- a datagram spelled by at most 2,048 octets is short
pub short_datagram : (octets : List ℕ) (d : Datagram) → Spells octets d → length octets ≤ 2048 → IsShortDatagram d
short_datagram octets (Full frame) s short = tt
short_datagram octets (Mini mini) s short = mini_short octets mini s short
short_datagram octets (Video video) s short = tt
short_datagram octets (Trunk trunk) s short = trunk_short octets trunk s short
