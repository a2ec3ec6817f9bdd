-- Names that a peer skips, one after the other.
use Rattle.std.proofs.Common.{◌≡◌, ◌+◌, ◌∙◌, ℕ, suc, List, ap, arith, refl, slice_index, subst}
use Rattle.rand_core.specs.Stream.{Stream}
use Rattle.step_log.specs.Notes.{Noted}
use Rattle.worker_setup.specs.Skipping.{Skipped, SkippedBefore, SkippedOne, SkippedUpTo, draw_skips, skips_at, stream_at}

-- one name more
pub one_name_more : (peer count : ℕ) (old between new : Noted) → Skipped peer count old between → SkippedOne peer between new
    → Skipped peer (count + 1) old new
unfolding Skipped
one_name_more peer count old between new before one =
    let on : suc count ≡ count + 1 = omega arith in
    subst (λ (n : ℕ). Skipped peer n old new) on (between, before, one)

-- one peer more
pub one_peer_more : (counts : List ℕ) (s : Stream) (place peer skips : ℕ) (old between new : Noted)
    → SkippedBefore counts s place old between → peer ≡ place → skips ≡ skips_at counts s place
    → SkippedUpTo peer skips between new → SkippedBefore counts s (place + 1) old new
unfolding SkippedBefore
one_peer_more counts s place peer skips old between new before same drawn more =
    let on : suc place ≡ place + 1 = omega arith in
    let here : SkippedUpTo place skips between new = subst (λ (n : ℕ). SkippedUpTo n skips between new) same more in
    subst (λ (n : ℕ). SkippedBefore counts s n old new) on
    (between, before, subst (λ (n : ℕ). SkippedUpTo place n between new) drawn here)

-- the stream that one peer more left
one_draw_more : (counts : List ℕ) (s : Stream) (place : ℕ)
    → (draw_skips (slice_index counts place) (stream_at counts s place)).1 ≡ stream_at counts s (place + 1)
unfolding stream_at
one_draw_more counts s place =
    let on : place + 1 ≡ suc place = omega arith in
    rw on refl

-- what a peer drew, and the stream that it left
pub drawn_at : (counts : List ℕ) (s t u : Stream) (place count skips : ℕ) → t ≡ stream_at counts s place
    → count ≡ slice_index counts place → (skips, u) ≡ draw_skips count t
    → (skips ≡ skips_at counts s place) × (u ≡ stream_at counts s (place + 1))
drawn_at counts s t u place count skips is_t is_count drawn =
    let at : (skips, u) ≡ draw_skips (slice_index counts place) (stream_at counts s place) =
    drawn ∙ ap (λ (n : ℕ). draw_skips n t) is_count ∙ ap (draw_skips (slice_index counts place)) is_t in
    (ap (λ (p : ℕ × Stream). p.0) at, ap (λ (p : ℕ × Stream). p.1) at ∙ one_draw_more counts s place)
