-- The entries of a record's heads.
use Rattle.std.proofs.Common.{get_or, ◌≡◌, ℕ, ◌+◌, ◌-◌, ◌≤◌, suc, List, [], ◌∷◌, ◌++◌, length, take, drop, refl, ap, sym, ◌∙◌}
use Rattle.std.proofs.Common.{arith, length-append, length-drop, length-take}
use Rattle.std.proofs.lemmas.List.{take-append-le, drop-append-le, map-append}
use Rattle.std.proofs.lemmas.List.Elements.{All-push}
use Rattle.std.proofs.lemmas.List.Sums.{sum_by-cons, sum_by_push}
use Rattle.std.specs.Prelude.{slice_range, sum_by, All, max}
use Rattle.seq_window.specs.declared.history.Count.TheVariants as counts
use Rattle.seq_window.specs.declared.history.Head.{Head}
use Rattle.seq_window.specs.declared.history.Head.TheVariants as head
use Rattle.seq_window.specs.declared.history.FrameHead.{FrameHead}
use Rattle.seq_window.specs.Entry.{Entry, Sent, Taken}
use Rattle.seq_window.specs.History.{sent_count, acked_count, taken_count, data_len, data_octets}
use Rattle.seq_window.specs.Record.{RecordState}
use Rattle.seq_window.specs.RecordFields.{frame_at, entry_at, entries_in, EndsBelow, counted_by, head_len}

-- the heads have the counts of the entries
module _ (octets : List ℕ) where
  pub sent_count-heads : (heads : List Head) → sum_by (counted_by counts.Sent) heads ≡ sent_count (entries_in octets heads)
  sent_count-heads [] = refl
  sent_count-heads (head.Sent h ∷ heads) = omega (
    arith,
    sent_count-heads heads,
    sum_by-cons (counted_by counts.Sent)
        (head.Sent h) heads,
  )
  sent_count-heads (head.Acked count ∷ heads) = omega (
    arith,
    sent_count-heads heads,
    sum_by-cons (counted_by counts.Sent)
        (head.Acked count) heads,
  )
  sent_count-heads (head.Taken h ∷ heads) = omega (
    arith,
    sent_count-heads heads,
    sum_by-cons (counted_by counts.Sent)
        (head.Taken h) heads,
  )

  pub acked_count-heads : (heads : List Head) → sum_by (counted_by counts.Acked) heads ≡ acked_count (entries_in octets heads)
  acked_count-heads [] = refl
  acked_count-heads (head.Sent h ∷ heads) = omega (
    arith,
    acked_count-heads heads,
    sum_by-cons (counted_by counts.Acked)
        (head.Sent h) heads,
  )
  acked_count-heads (head.Acked count ∷ heads) = omega (
    arith,
    acked_count-heads heads,
    sum_by-cons (counted_by counts.Acked)
        (head.Acked count) heads,
  )
  acked_count-heads (head.Taken h ∷ heads) = omega (
    arith,
    acked_count-heads heads,
    sum_by-cons (counted_by counts.Acked)
        (head.Taken h) heads,
  )

  pub taken_count-heads : (heads : List Head) → sum_by (counted_by counts.Taken) heads ≡ taken_count (entries_in octets heads)
  taken_count-heads [] = refl
  taken_count-heads (head.Sent h ∷ heads) = omega (
    arith,
    taken_count-heads heads,
    sum_by-cons (counted_by counts.Taken)
        (head.Sent h) heads,
  )
  taken_count-heads (head.Acked count ∷ heads) = omega (
    arith,
    taken_count-heads heads,
    sum_by-cons (counted_by counts.Taken)
        (head.Acked count) heads,
  )
  taken_count-heads (head.Taken h ∷ heads) = omega (
    arith,
    taken_count-heads heads,
    sum_by-cons (counted_by counts.Taken)
        (head.Taken h) heads,
  )

-- .. and so are their octets of data
length-frame_at : (octets : List ℕ) (h : FrameHead) → h.start + h.len ≤ length octets → length (frame_at octets h).payload ≡ h.len
length-frame_at octets h within =
    omega (arith, length-take (h.start + h.len - h.start) (drop h.start octets), length-drop h.start octets)

data_len-head : (octets : List ℕ) (h : Head) → EndsBelow (length octets) h → head_len h ≡ data_len (entry_at octets h)
data_len-head octets (head.Sent h) within = sym (length-frame_at octets h within.0)
data_len-head octets (head.Acked count) within = refl
data_len-head octets (head.Taken h) within = sym (length-frame_at octets h within.0)

pub data_octets-heads : (octets : List ℕ) (heads : List Head) → All (EndsBelow (length octets)) heads
    → sum_by head_len heads ≡ data_octets (entries_in octets heads)
data_octets-heads octets [] within = refl
data_octets-heads octets (h ∷ heads) within =
    let first : EndsBelow (length octets) h = within 0 h (omega arith) in
    let rest : All (EndsBelow (length octets)) heads = λ k d lt. within (suc k) d (omega arith) in
    omega (
      arith,
      data_len-head octets h first,
      data_octets-heads octets heads rest,
      sum_by-cons head_len h heads,
      sum_by-cons data_len (entry_at octets h) (entries_in octets heads),
    )

-- a frame stays at its place when further frames follow
frame_at-more : (octets more : List ℕ) (h : FrameHead) → h.start + h.len ≤ length octets
    → frame_at (octets ++ more) h ≡ frame_at octets h
frame_at-more octets more h within =
    let skipped : drop h.start (octets ++ more) ≡ drop h.start octets ++ more = drop-append-le h.start octets more
    (omega arith) in
    let kept : slice_range (octets ++ more) h.start (h.start + h.len) ≡ slice_range octets h.start (h.start + h.len)
    = ap (take (h.start + h.len - h.start)) skipped ∙ take-append-le (h.start + h.len - h.start) (drop h.start octets) more
    (omega (arith, length-drop h.start octets)) in
    rw kept refl

entry_at-more : (octets more : List ℕ) (h : Head) → EndsBelow (length octets) h → entry_at (octets ++ more) h ≡ entry_at octets h
entry_at-more octets more (head.Sent h) within = ap (λ f. Sent f) (frame_at-more octets more h within.0)
entry_at-more octets more (head.Acked count) within = refl
entry_at-more octets more (head.Taken h) within = ap (λ f. Taken f) (frame_at-more octets more h within.0)

entries_in-more : (octets more : List ℕ) (heads : List Head) → All (EndsBelow (length octets)) heads
    → entries_in (octets ++ more) heads ≡ entries_in octets heads
entries_in-more octets more [] within = refl
entries_in-more octets more (h ∷ heads) within =
    let first : EndsBelow (length octets) h = within 0 h (omega arith) in
    let rest : All (EndsBelow (length octets)) heads = λ k d lt. within (suc k) d (omega arith) in
    ap (λ e. e ∷ entries_in (octets ++ more) heads) (entry_at-more octets more h first)
    ∙ ap (λ es. entry_at octets h ∷ es) (entries_in-more octets more heads rest)

same_state : (es fs : List Entry) (m n : ℕ) → es ≡ fs → m ≡ n → let a : RecordState = record { entries = es; spare = m } in
    let b : RecordState = record { entries = fs; spare = n } in a ≡ b
same_state es fs m n entries spare = rw (entries, spare) refl

-- a record that has room, with one more head and its octets
pub pushed : (old room : RecordState) (octets more grown_octets : List ℕ) (heads grown_heads : List Head) (h : Head)
    (entry : Entry) (spare : ℕ)
    → (let there : RecordState = record { entries = entries_in octets heads; spare = spare } in there ≡ room)
    → room.entries ≡ old.entries → room.spare ≡ max old.spare 1
    → All (EndsBelow (length octets)) heads → grown_octets ≡ octets ++ more → grown_heads ≡ heads ++ h ∷ []
    → entry_at grown_octets h ≡ entry
    → let new : RecordState = record { entries = entries_in grown_octets grown_heads; spare = spare - 1 } in
    let wanted : RecordState = record { entries = old.entries ++ entry ∷ []; spare = old.spare - 1 } in new ≡ wanted
pushed old room octets more grown_octets heads grown_heads h entry spare view same spared within octets_is heads_is at =
    let entries_are : entries_in octets heads ≡ old.entries = ap (λ (r : RecordState). r.entries) view ∙ same in
    let spare_is : spare ≡ room.spare = ap (λ (r : RecordState). r.spare) view in
    let kept : entries_in grown_octets heads ≡ entries_in octets heads =
    rw octets_is (entries_in-more octets more heads within) in
    same_state (entries_in grown_octets grown_heads) (old.entries ++ entry ∷ []) (spare - 1) (old.spare - 1)
    (ap (entries_in grown_octets) heads_is ∙ map-append (entry_at grown_octets) heads (h ∷ [])
    ∙ ap (λ es. es ++ entry_at grown_octets h ∷ []) (kept ∙ entries_are)
    ∙ ap (λ e. old.entries ++ e ∷ []) at)
    (omega arith)

-- one more head has the octets that came with it
pub pushed_len : (octets more grown_octets : List ℕ) (heads grown_heads : List Head) (h : Head)
    → length octets ≡ sum_by head_len heads
    → grown_octets ≡ octets ++ more → grown_heads ≡ heads ++ h ∷ [] → head_len h ≡ length more
    → length grown_octets ≡ sum_by head_len grown_heads
pushed_len octets more grown_octets heads grown_heads h whole octets_is heads_is len =
    rw (octets_is, heads_is) (omega (arith, whole, len, length-append octets more, sum_by_push head_len heads h))

-- the octets of a head are below any later end
ends_later : (least most : ℕ) (h : Head) → least ≤ most → EndsBelow least h → EndsBelow most h
ends_later least most (head.Sent h) later ends = (omega (arith, ends.0), ends.1)
ends_later least most (head.Acked count) later ends = tt
ends_later least most (head.Taken h) later ends = (omega (arith, ends.0), ends.1)

pub pushed_within : (least most : ℕ) (heads grown_heads : List Head) (h : Head) → least ≤ most → All (EndsBelow least) heads
    → EndsBelow most h → grown_heads ≡ heads ++ h ∷ [] → All (EndsBelow most) grown_heads
pushed_within least most heads grown_heads h later within ends heads_is =
    rw heads_is (All-push (EndsBelow most) heads h (λ k d at. ends_later least most (get_or heads k d) later (within k d at))
    ends)
