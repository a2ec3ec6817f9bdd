-- A trunk frame of the whole queue, and the entries of a call in a ring.
use Rattle.std.proofs.Common.{◌≡◌, ℕ, ◌+◌, ◌*◌, ◌<◌, ◌≤◌, ◌==◌, ◌||◌, Bool, true, false, List, [], ◌∷◌, ◌++◌, length, Some, None}
use Rattle.std.proofs.Common.{refl, sym, ap, ◌∙◌, append-nil, arith, length-append, suc}
use Rattle.std.proofs.lemmas.Bool.{lt-ltb, lt-leb}
use Rattle.std.specs.Prelude.{nat_le, nat_lt, if◌then◌else◌}
use Rattle.std.specs.List.{flat_map}
use Rattle.iax_frames.specs.Items.{SpellsItems, go_on, items_within}
use Rattle.iax_frames.specs.TrunkFrame.{TrunkFrame, SpellsTrunk, entry, trunk_head, head_len}
use Rattle.iax_frames.proofs.ItemLaws.{items_of-more}
use Rattle.trunk_packer.specs.Queue.{QueueEntry, media_octets, call_entries, has_call, trunk_of, trunk_octets, trunk_spelling}
use Rattle.trunk_packer.specs.Queue.{PacksFront}
use Rattle.trunk_packer.specs.Stored.{stored, IsStored, first_stored, queue_in}
use Rattle.trunk_packer.proofs.StoredLaws.{format}

-- ---- the length of a frame

pub timed_octets : (xs : List QueueEntry) → trunk_octets true xs ≡ 8 + length xs * 6 + media_octets xs
timed_octets [] = omega arith
timed_octets (x ∷ xs) = omega (arith, timed_octets xs)

pub untimed_octets : (xs : List QueueEntry) → trunk_octets false xs ≡ 8 + length xs * 4 + media_octets xs
untimed_octets [] = omega arith
untimed_octets (x ∷ xs) = omega (arith, untimed_octets xs)

pub counted_octets : (timed : Bool) (head entries media : ℕ) (inside queue : List QueueEntry) → head ≡ head_len timed
    → length inside ≡ entries → media_octets inside ≡ media → inside ≡ queue
    → 8 + entries * head + media ≡ trunk_octets timed queue
counted_octets true head entries media inside queue h e m is =
    ap (λ (n : ℕ). 8 + entries * n + media) h ∙ omega (arith, timed_octets inside, e, m) ∙ ap (trunk_octets true) is
counted_octets false head entries media inside queue h e m is =
    ap (λ (n : ℕ). 8 + entries * n + media) h ∙ omega (arith, untimed_octets inside, e, m) ∙ ap (trunk_octets false) is

-- a front is no longer than the whole
front_octets : (timed : Bool) (front : List QueueEntry) (e : QueueEntry) (rest : List QueueEntry)
    → trunk_octets timed (front ++ e ∷ []) ≤ trunk_octets timed (front ++ e ∷ rest)
front_octets true [] e [] = omega arith
front_octets true [] e (x ∷ rest) = omega (arith, timed_octets rest)
front_octets false [] e [] = omega arith
front_octets false [] e (x ∷ rest) = omega (arith, untimed_octets rest)
front_octets timed (x ∷ front) e rest = omega (arith, front_octets timed front e rest)

-- ---- the whole of a queue that fits

none_left : (timed : Bool) (now : ℕ) (old new : List QueueEntry) (bytes : List ℕ) → PacksFront timed now old new bytes
    → trunk_octets timed old ≤ 1400 → new ≡ []
none_left timed now old [] bytes packs fits = refl
none_left timed now old (e ∷ rest) bytes packs fits =
    let whole : trunk_octets timed old ≡ trunk_octets timed (packs.front ++ e ∷ rest) = ap (trunk_octets timed) packs.whole in
    absurd (omega (arith, packs.longest e rest refl, front_octets timed packs.front e rest, whole, fits))

spells : (bytes : List ℕ) (t : TrunkFrame) → SpellsTrunk bytes t → bytes ≡ trunk_head t.command_data t.timestamp ++ flat_map entry
    t.entries
spells bytes t s = s.whole ∙ ap (λ (r : List ℕ). trunk_head t.command_data t.timestamp ++ r) s.entries.whole

-- the frame, and the rest
pub record PacksAll (timed : Bool) (now : ℕ) (old new : List QueueEntry) (bytes : List ℕ) : Type 0 where
  pub empty : new ≡ []
  pub frame : bytes ≡ trunk_spelling timed now old

pub packs_all : (timed : Bool) (now : ℕ) (old new : List QueueEntry) (bytes : List ℕ) → PacksFront timed now old new bytes
    → trunk_octets timed old ≤ 1400 → PacksAll timed now old new bytes
packs_all timed now old new bytes packs fits =
    let none = none_left timed now old new bytes packs fits in
    let all : packs.front ≡ old = sym (packs.whole ∙ ap (λ (q : List QueueEntry). packs.front ++ q) none ∙ append-nil
    packs.front) in
    record {
      empty = none;
      frame = spells bytes (trunk_of timed now packs.front) packs.spelled ∙ ap (trunk_spelling timed now)
          all;
    }

pub all_media : (octets : ℕ) (old new : List QueueEntry) → media_octets old ≡ octets + media_octets new → new ≡ []
    → octets ≡ media_octets old
all_media octets old new counted none = omega (arith, counted, ap media_octets none)

-- ---- the entries of a call

-- no more than all
pub few_of_call : (number : ℕ) (queue : List QueueEntry) → call_entries number queue ≤ length queue
few_of_call number [] = omega arith
few_of_call number (e ∷ queue) = at_most (e.number == number) (call_entries number queue) (length queue) (few_of_call number queue)
  where
    at_most : (b : Bool) (n m : ℕ) → n ≤ m → (if b then 1 else 0) + n ≤ suc m
    at_most true n m few = omega (arith, few)
    at_most false n m few = omega (arith, few)

-- if all are fewer than some number, so are those of a call
pub too_few : (count entries number : ℕ) (inside queue : List QueueEntry) → length inside ≡ entries → inside ≡ queue
    → entries < count → nat_le count (call_entries number queue) ≡ false
too_few count entries number inside queue counted is fewer =
    lt-leb count (call_entries number queue) (omega (arith, few_of_call number queue, counted, ap length is, fewer))

-- a call has media if it has an entry
pub has_entries : (number : ℕ) (queue : List QueueEntry) → nat_lt 0 (call_entries number queue) ≡ has_call number queue
has_entries number [] = refl
has_entries number (e ∷ queue) = one_more (e.number == number) (call_entries number queue) (has_call number queue)
    (has_entries number queue)
  where
    is_more : (n : ℕ) → nat_lt 0 (1 + n) ≡ true
    is_more n = lt-ltb 0 (1 + n) (omega arith)

    no_more : (n : ℕ) → 0 + n ≡ n
    no_more n = omega arith

    one_more : (b : Bool) (n : ℕ) (others : Bool) → nat_lt 0 n ≡ others → nat_lt 0 ((if b then 1 else 0) + n) ≡ (b || others)
    one_more true n others rest = is_more n
    one_more false n others rest = ap (nat_lt 0) (no_more n) ∙ rest

-- the entries counted in the octets are those of the queue
pub counted_in : (number : ℕ) (octets items : List ℕ) (queue : List QueueEntry) (entries : ℕ) → octets ≡ items
    → queue_in items ≡ queue → call_entries number (queue_in octets) ≡ entries → entries ≡ call_entries number queue
counted_in number octets items queue entries joined was is =
    sym is ∙ ap (λ (o : List ℕ). call_entries number (queue_in o)) joined ∙ ap (call_entries number) was

-- so many entries of the call were counted, and these octets of the ring remain
pub record IsCounting (number : ℕ) (octets left : List ℕ) (entries : ℕ) : Type 0 where
  pub left_spelled : SpellsItems stored IsStored left (queue_in left)
  pub counted : call_entries number (queue_in octets) ≡ entries + call_entries number (queue_in left)
  pub within : entries + length left ≤ length octets

pub IsCounting-first : (number : ℕ) (octets : List ℕ) → SpellsItems stored IsStored octets (queue_in octets)
    → IsCounting number octets octets 0
IsCounting-first number octets s = record { left_spelled = s; counted = omega arith; within = omega arith }

-- no entry begins the octets: none is left
none_begins : (left : List ℕ) → first_stored left ≡ None → queue_in left ≡ []
unfolding items_within
none_begins [] none = refl
none_begins (x ∷ left) none = ap (go_on (items_within first_stored (length left))) none

pub IsCounting-none : (number : ℕ) (octets left : List ℕ) (entries : ℕ) → IsCounting number octets left entries
    → first_stored left ≡ None → call_entries number (queue_in octets) ≡ entries
IsCounting-none number octets left entries so none =
    so.counted ∙ ap (λ (q : List QueueEntry). entries + call_entries number q) (none_begins left none) ∙ omega arith

-- fewer octets remain with each entry
pub IsCounting-shorter : (number : ℕ) (octets left rest : List ℕ) (e : QueueEntry) (entries : ℕ)
    → IsCounting number octets left entries → first_stored left ≡ Some (e, rest) → length rest < length left
IsCounting-shorter number octets left rest e entries so first =
    let more = items_of-more stored IsStored first_stored format left rest e first so.left_spelled in
    let joined : left ≡ stored e ++ rest =
    so.left_spelled.whole ∙ ap (flat_map stored) more.0 ∙ ap (λ (l : List ℕ). stored e ++ l) (sym more.1.whole) in
    let longer : length left ≡ length (stored e) + length rest = ap length joined ∙ length-append (stored e) rest in
    omega (arith, longer)

IsCounting-more : (number : ℕ) (octets left rest : List ℕ) (e : QueueEntry) (entries one next : ℕ)
    → IsCounting number octets left entries → first_stored left ≡ Some (e, rest) → (if e.number == number then 1 else 0) ≡ one
    → next ≡ entries + one → one ≤ 1 → IsCounting number octets rest next
IsCounting-more number octets left rest e entries one next so first is_one is_next few =
    let more = items_of-more stored IsStored first_stored format left rest e first so.left_spelled in
    let shorter = IsCounting-shorter number octets left rest e entries so first in
    let head : call_entries number (queue_in left) ≡ one + call_entries number (queue_in rest) =
    ap (call_entries number) more.0 ∙ ap (λ (n : ℕ). n + call_entries number (queue_in rest)) is_one in
    record {
      left_spelled = more.1;
      counted = omega (arith, so.counted, head, is_next);
      within = omega (arith, so.within, shorter, is_next, few);
    }

-- the next entry is one of the call
pub IsCounting-its : (number : ℕ) (octets left rest : List ℕ) (e : QueueEntry) (entries : ℕ)
    → IsCounting number octets left entries → first_stored left ≡ Some (e, rest) → (e.number == number) ≡ true
    → IsCounting number octets rest (entries + 1)
IsCounting-its number octets left rest e entries so first its =
    IsCounting-more number octets left rest e entries 1 (entries + 1) so first (ap (λ (b : Bool). if b then 1 else 0) its) refl
    (omega arith)

-- it isn't
pub IsCounting-other : (number : ℕ) (octets left rest : List ℕ) (e : QueueEntry) (entries : ℕ)
    → IsCounting number octets left entries → first_stored left ≡ Some (e, rest) → (e.number == number) ≡ false
    → IsCounting number octets rest entries
IsCounting-other number octets left rest e entries so first other =
    IsCounting-more number octets left rest e entries 0 entries so first (ap (λ (b : Bool). if b then 1 else 0) other)
    (omega arith) (omega arith)
