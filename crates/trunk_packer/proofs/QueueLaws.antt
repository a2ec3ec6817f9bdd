-- A queue in a ring of octets: empty, and with one entry more.
use Rattle.std.proofs.Common.{◌≡◌, ℕ, ◌+◌, ◌*◌, ◌<◌, ◌≤◌, List, [], ◌∷◌, ◌++◌, length, refl, sym, ap, subst, ◌∙◌, arith}
use Rattle.std.proofs.Common.{length-append}
use Rattle.std.specs.List.{flat_map, AllByRecursion}
use Rattle.circular_buffer.specs.Buffer.{Buffer, buffer}
use Rattle.iax_frames.specs.Items.{SpellsItems, items_within}
use Rattle.iax_frames.proofs.ItemLaws.{items_of-again, SpellsItems-push}
use Rattle.trunk_packer.specs.Queue.{QueueEntry, media_octets}
use Rattle.trunk_packer.specs.Stored.{stored, IsStored, first_stored, queue_in, HoldsQueue}
use Rattle.trunk_packer.proofs.StoredLaws.{format, length-stored}

pub media_octets-append : (xs ys : List QueueEntry) → media_octets (xs ++ ys) ≡ media_octets xs + media_octets ys
media_octets-append [] ys = omega arith
media_octets-append (x ∷ xs) ys = omega (arith, media_octets-append xs ys)

queue_in-nil : queue_in [] ≡ []
unfolding items_within
queue_in-nil = refl

HoldsQueue-nil : HoldsQueue [] 0 0
HoldsQueue-nil = record {
  spelled = record {
    each = subst (AllByRecursion IsStored) (sym queue_in-nil) tt;
    whole = ap (flat_map stored) (sym queue_in-nil);
  };
  entries_counted = ap length queue_in-nil;
  media_counted = ap media_octets queue_in-nil;
  few_entries = omega arith;
  little_media = omega arith;
}

-- a new ring holds an empty queue
pub fresh : (b : Buffer ℕ) → b ≡ buffer [] 17920 → (b.capacity ≡ 17920) × HoldsQueue b.items 0 0
fresh b e = subst (λ (r : Buffer ℕ). (r.capacity ≡ 17920) × HoldsQueue r.items 0 0) (sym e) (refl, HoldsQueue-nil)

pub fresh_queue : (b : Buffer ℕ) → b ≡ buffer [] 17920 → queue_in b.items ≡ []
fresh_queue b e = ap (λ (r : Buffer ℕ). queue_in r.items) e ∙ queue_in-nil

-- the ring has six octets for each entry, and the media
pub HoldsQueue-length : (bytes : List ℕ) (entries media : ℕ) → HoldsQueue bytes entries media → length bytes ≡ 6 * entries + media
HoldsQueue-length bytes entries media h =
    omega (arith, ap length h.spelled.whole, length-stored (queue_in bytes), h.entries_counted, h.media_counted)

pub media_octets-push : (queue was : List QueueEntry) (e : QueueEntry) → queue ≡ was ++ e ∷ []
    → media_octets queue ≡ media_octets was + length e.media
media_octets-push queue was e whole = ap media_octets whole ∙ omega (arith, media_octets-append was (e ∷ []))

-- one entry more at the end of the ring
pub queue_in-push : (bytes new : List ℕ) (was : List QueueEntry) (e : QueueEntry) → new ≡ bytes ++ stored e → queue_in bytes ≡ was
    → SpellsItems stored IsStored bytes (queue_in bytes) → IsStored e → queue_in new ≡ was ++ e ∷ []
queue_in-push bytes new was e more same s is =
    ap queue_in more
    ∙ items_of-again stored IsStored first_stored format (bytes ++ stored e) (queue_in bytes ++ e ∷ [])
    (SpellsItems-push stored IsStored first_stored format bytes (queue_in bytes) e s is)
    ∙ ap (λ (queue : List QueueEntry). queue ++ e ∷ []) same

pub HoldsQueue-push : (bytes new : List ℕ) (entries media : ℕ) (e : QueueEntry) → new ≡ bytes ++ stored e
    → HoldsQueue bytes entries media → IsStored e
    → entries < 256 → media + length e.media ≤ 16384 → HoldsQueue new (entries + 1) (media + length e.media)
HoldsQueue-push bytes new entries media e more h is few little =
    let same = queue_in-push bytes new (queue_in bytes) e more refl h.spelled is in
    let pushed = SpellsItems-push stored IsStored first_stored format bytes (queue_in bytes) e h.spelled is in
    record {
      spelled = record {
        each = subst (AllByRecursion IsStored) (sym same) pushed.each;
        whole = more ∙ pushed.whole
            ∙ ap (flat_map stored) (sym same);
      };
      entries_counted = ap length same ∙ omega (arith, length-append (queue_in bytes) (e ∷ []), h.entries_counted);
      media_counted = media_octets-push (queue_in new) (queue_in bytes) e same ∙ omega (arith, h.media_counted);
      few_entries = omega arith;
      little_media = little;
    }
