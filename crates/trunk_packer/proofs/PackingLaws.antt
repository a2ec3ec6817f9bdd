-- Packing a trunk frame from the front of a ring, entry by entry.
use Rattle.std.proofs.Common.{◌≡◌, ℕ, ◌+◌, ◌-◌, ◌<◌, ◌≤◌, Bool, true, false, IsTrue, ◌↔◌, get_or, List, [], ◌∷◌, ◌++◌, length}
use Rattle.std.proofs.Common.{drop, Some, refl, sym, ap, subst, ◌∙◌, append_assoc, arith, length-append}
use Rattle.std.specs.List.{flat_map}
use Rattle.std.proofs.lemmas.List.{map-append, drop-drop, drop_at}
use Rattle.circular_buffer.specs.Buffer.{Buffer, buffer, keep_last}
use Rattle.iax_frames.specs.Items.{SpellsItems}
use Rattle.iax_frames.specs.TrunkFrame.{SpellsTrunk, with_entry, is_timed, head_len}
use Rattle.iax_frames.proofs.ItemLaws.{items_of-more}
use Rattle.trunk_packer.specs.Queue.{QueueEntry, media_octets, trunk_entry, trunk_of, trunk_octets, PacksFront}
use Rattle.trunk_packer.specs.Stored.{stored, IsStored, first_stored, queue_in, HoldsQueue}
use Rattle.trunk_packer.specs.Packing.{AppendsFront}
use Rattle.trunk_packer.proofs.StoredLaws.{format}
use Rattle.trunk_packer.proofs.QueueLaws.{media_octets-append}

-- the trunk frame has the front of the queue, and these octets are left
pub record IsPacking (timed : Bool) (now : ℕ) (octets left out : List ℕ) (entries media : ℕ) : Type 0 where
  pub front : List QueueEntry
  pub whole : queue_in octets ≡ front ++ queue_in left
  pub back : drop (length octets - length left) octets ≡ left
  pub within : length left ≤ length octets
  pub left_spelled : SpellsItems stored IsStored left (queue_in left)
  pub spelled : SpellsTrunk out (trunk_of timed now front)
  pub size : length out ≡ trunk_octets timed front
  pub fits : trunk_octets timed front ≤ 1400
  pub entries_counted : length front ≡ entries
  pub media_counted : media_octets front ≡ media

trunk_octets-push : (timed : Bool) (xs : List QueueEntry) (e : QueueEntry) → trunk_octets timed (xs ++ e ∷ []) ≡ trunk_octets
    timed xs + head_len timed + length e.media
trunk_octets-push timed [] e = omega arith
trunk_octets-push timed (x ∷ xs) e = omega (arith, trunk_octets-push timed xs e)

trunk_octets-bound : (timed : Bool) (xs : List QueueEntry) → length xs + media_octets xs ≤ trunk_octets timed xs
trunk_octets-bound timed [] = omega arith
trunk_octets-bound true (x ∷ xs) = omega (arith, trunk_octets-bound true xs)
trunk_octets-bound false (x ∷ xs) = omega (arith, trunk_octets-bound false xs)

trunk_of-push : (timed : Bool) (now : ℕ) (xs : List QueueEntry) (e : QueueEntry)
    → with_entry (trunk_of timed now xs) (trunk_entry (is_timed (trunk_of timed now xs).command_data) e) ≡ trunk_of timed now
    (xs ++ e ∷ [])
trunk_of-push true now xs e = λ i. record {
  command_data = 1;
  timestamp = (trunk_of true now xs).timestamp;
  entries = (sym (map-append (trunk_entry true) xs (e ∷ []))) i;
}
trunk_of-push false now xs e = λ i. record {
  command_data = 0;
  timestamp = (trunk_of false now xs).timestamp;
  entries = (sym (map-append (trunk_entry false) xs (e ∷ []))) i;
}

is_timed-trunk_of : (timed : Bool) (now : ℕ) (xs : List QueueEntry) → is_timed (trunk_of timed now xs).command_data ≡ timed
is_timed-trunk_of true now xs = refl
is_timed-trunk_of false now xs = refl

timed_is : (timed : Bool) (now : ℕ) (xs : List QueueEntry) (out : List ℕ) → SpellsTrunk out (trunk_of timed now xs)
    → is_timed (get_or out 3 0) ≡ timed
timed_is timed now xs out s = ap (λ (b : List ℕ). is_timed (get_or b 3 0)) s.whole ∙ is_timed-trunk_of timed now xs

-- at most as many entries and octets of media are packed as the frame has octets
pub IsPacking-bound : (timed : Bool) (now : ℕ) (octets left out : List ℕ) (entries media : ℕ)
    → IsPacking timed now octets left out entries media → entries + media ≤ 1400
IsPacking-bound timed now octets left out entries media p =
    omega (arith, trunk_octets-bound timed p.front, p.fits, p.entries_counted, p.media_counted)

pub IsPacking-more : (timed : Bool) (now : ℕ) (octets left rest out new : List ℕ) (entries media len : ℕ)
    → IsPacking timed now octets left out entries media
    → AppendsFront (is_timed (get_or out 3 0)) out new left len rest → IsPacking timed now octets rest new (entries + 1)
    (media + len)
IsPacking-more timed now octets left rest out new entries media len p a =
    let more = items_of-more stored IsStored first_stored format left rest a.entry a.first p.left_spelled in
    let joined : left ≡ stored a.entry ++ rest =
    p.left_spelled.whole ∙ ap (flat_map stored) more.0 ∙ ap (λ (l : List ℕ). stored a.entry ++ l) (sym more.1.whole) in
    let longer : length left ≡ length (stored a.entry) + length rest = ap length joined ∙ length-append (stored a.entry) rest in
    let timed_same = timed_is timed now p.front out p.spelled in
    let head : head_len (is_timed (get_or out 3 0)) ≡ head_len timed = ap head_len timed_same in
    let size : length new ≡ trunk_octets timed (p.front ++ a.entry ∷ []) =
    omega (arith, a.size, head, p.size, trunk_octets-push timed p.front a.entry) in
    let place : length octets - length rest ≡ (length octets - length left) + length (stored a.entry) =
    omega (arith, longer, p.within) in
    record {
      front = p.front ++ a.entry ∷ [];
      whole = p.whole ∙ ap (λ (q : List QueueEntry). p.front ++ q) more.0
          ∙ sym (append_assoc p.front (a.entry ∷ []) (queue_in rest));
      back = ap (λ (n : ℕ). drop n octets) place ∙ sym (drop-drop (length (stored a.entry)) (length octets - length left) octets)
          ∙ ap (drop (length (stored a.entry))) (p.back ∙ joined) ∙ drop_at (stored a.entry) rest (length (stored a.entry)) refl;
      within = omega (arith, longer, p.within);
      left_spelled = more.1;
      spelled = subst (SpellsTrunk new) (trunk_of-push timed now p.front a.entry) (a.spelled (trunk_of timed now p.front)
          p.spelled);
      size = size;
      fits = omega (arith, size, a.fits);
      entries_counted = length-append p.front (a.entry ∷ []) ∙ ap (λ (n : ℕ). n + 1) p.entries_counted;
      media_counted = media_octets-append p.front (a.entry ∷ []) ∙ omega (arith, p.media_counted, a.counted);
    }

-- the entry at the front, if there is one, doesn't fit
abbrev pub FrontTooLong : List ℕ → List ℕ → Type 0
FrontTooLong out left = (e : QueueEntry) (rest : List ℕ) → first_stored left ≡ Some (e, rest)
    → 1400 < length out + head_len (is_timed (get_or out 3 0)) + length e.media

front_is : (left : List ℕ) (e : QueueEntry) (rest : List QueueEntry) → SpellsItems stored IsStored left (e ∷ rest)
    → first_stored left ≡ Some (e, flat_map stored rest)
front_is left e rest s = ap first_stored s.whole ∙ format.again e (flat_map stored rest) s.each.0

-- the first entry always fits
first_fits : (timed : Bool) (now : ℕ) (left out : List ℕ) (queue : List QueueEntry) → SpellsItems stored IsStored left queue
    → SpellsTrunk out (trunk_of timed now [])
    → length out ≡ 8 → FrontTooLong out left → queue ≡ []
first_fits timed now left out [] s spelled size long = refl
first_fits true now left out (e ∷ es) s spelled size long =
    absurd (omega (
      arith,
      long e (flat_map stored es) (front_is left e es s),
      size,
      ap head_len (timed_is true now [] out spelled),
      s.each.0.media,
    ))
first_fits false now left out (e ∷ es) s spelled size long =
    absurd (omega (
      arith,
      long e (flat_map stored es) (front_is left e es s),
      size,
      ap head_len (timed_is false now [] out spelled),
      s.each.0.media,
    ))

some_front : (timed : Bool) (now : ℕ) (queue : List QueueEntry) (left out : List ℕ) (front : List QueueEntry) → 0 < length queue
    → queue ≡ front ++ queue_in left
    → SpellsItems stored IsStored left (queue_in left) → SpellsTrunk out (trunk_of timed now front)
    → length out ≡ trunk_octets timed front → FrontTooLong out left → 0 < length front
some_front timed now queue left out (x ∷ xs) more whole s spelled size long = omega arith
some_front timed now queue left out [] more whole s spelled size long =
    absurd (omega (arith, more, ap length (whole ∙ first_fits timed now left out (queue_in left) s spelled size long)))

-- once nothing more fits, the ring that is left has the rest of the queue
pub record IsPacked (timed : Bool) (now : ℕ) (old : List QueueEntry) (kept out : List ℕ) (entries media : ℕ) : Type 0 where
  pub packs : PacksFront timed now old (queue_in kept) out
  pub kept_spelled : SpellsItems stored IsStored kept (queue_in kept)
  pub entries_counted : length old ≡ entries + length (queue_in kept)
  pub media_counted : media_octets old ≡ media + media_octets (queue_in kept)
  pub some : 0 < length old → 0 < entries

packed : (timed : Bool) (now : ℕ) (octets left out : List ℕ) (entries media : ℕ) → IsPacking timed now octets left out entries
    media → SpellsItems stored IsStored octets (queue_in octets)
    → FrontTooLong out left → IsPacked timed now (queue_in octets) left out entries media
packed timed now octets left out entries media p s long = record {
  packs = record {
    front = p.front;
    whole = p.whole;
    spelled = p.spelled;
    size = p.size;
    fits = p.fits;
    longest = λ e rest next.
        let found = front_is left e rest (subst (SpellsItems stored IsStored left) next p.left_spelled) in
        omega (
          arith,
          long e (flat_map stored rest) found,
          p.size,
          trunk_octets-push timed p.front e,
          ap head_len (timed_is timed now p.front out p.spelled),
        );
  };
  kept_spelled = p.left_spelled;
  entries_counted = ap length p.whole ∙ length-append p.front (queue_in left) ∙ ap (λ (n : ℕ). n + length (queue_in left))
      p.entries_counted;
  media_counted = ap media_octets p.whole ∙ media_octets-append p.front (queue_in left)
      ∙ ap (λ (n : ℕ). n + media_octets (queue_in left)) p.media_counted;
  some = λ more. subst (λ (n : ℕ). 0 < n) p.entries_counted (some_front timed now (queue_in octets) left out p.front more p.whole
      p.left_spelled p.spelled p.size long);
}

pub IsPacking-packed : (timed : Bool) (now : ℕ) (items octets left out new : List ℕ) (entries media len capacity : ℕ)
    (old : List QueueEntry) (ring : Buffer ℕ) → IsPacking timed now octets left out entries media
    → octets ≡ items → queue_in items ≡ old → SpellsItems stored IsStored items (queue_in items) → FrontTooLong out left
    → new ≡ out → len ≡ length left → ring ≡ buffer (keep_last len items) capacity
    → IsPacked timed now old ring.items new entries media
IsPacking-packed timed now items octets left out new entries media len capacity old ring p joined was s long same e kept =
    let here = subst (λ (bytes : List ℕ). IsPacking timed now bytes left out entries media) joined p in
    let end : left ≡ ring.items = sym (ap (λ (b : Buffer ℕ). b.items) kept ∙ ap (λ (n : ℕ). keep_last n items) e ∙ here.back) in
    let all = packed timed now items left out entries media here s long in
    subst (λ (queue : List QueueEntry). IsPacked timed now queue ring.items new entries media) was
    (subst (λ (bytes : List ℕ). IsPacked timed now (queue_in items) bytes new entries media) end
    (subst (λ (bytes : List ℕ). IsPacked timed now (queue_in items) left bytes entries media) (sym same) all))

-- the ring that is left holds what wasn't packed
pub IsPacked-holds : (timed : Bool) (now : ℕ) (items kept out : List ℕ) (queued_entries queued_media entries media : ℕ)
    (old : List QueueEntry) → HoldsQueue items queued_entries queued_media → queue_in items ≡ old
    → IsPacked timed now old kept out entries media → HoldsQueue kept (queued_entries - entries) (queued_media - media)
IsPacked-holds timed now items kept out queued_entries queued_media entries media old h was p = record {
  spelled = p.kept_spelled;
  entries_counted = omega (arith, p.entries_counted, ap length was, h.entries_counted);
  media_counted = omega (arith, p.media_counted, ap media_octets was, h.media_counted);
  few_entries = omega (arith, h.few_entries);
  little_media = omega (arith, h.little_media);
}

-- fewer octets are left with each entry
pub AppendsFront-shorter : (timed : Bool) (old new left rest : List ℕ) (len : ℕ)
    → SpellsItems stored IsStored left (queue_in left) → AppendsFront timed old new left len rest → length rest < length left
AppendsFront-shorter timed old new left rest len s a =
    let more = items_of-more stored IsStored first_stored format left rest a.entry a.first s in
    omega (
      arith,
      ap length (s.whole ∙ ap (flat_map stored) more.0),
      length-append (stored a.entry) (flat_map stored (queue_in rest)),
      ap length more.1.whole,
      format.some a.entry,
    )

-- a queue that isn't empty has an entry
pub some_unless : (empty : Bool) (queue : List QueueEntry) → (IsTrue empty ↔ (queue ≡ [])) → empty ≡ false → 0 < length queue
some_unless empty [] h not_empty = let yes = h.1 refl in absurd cc
some_unless empty (e ∷ es) h not_empty = omega arith
