-- Laws of sets of sockets.
use Rattle.std.proofs.Common.{◌≡◌, ◌≢◌, ◌<◌, ◌≤◌, ◌↔◌, ℕ, ◌+◌, ◌-◌, ◌*◌, ◌/◌, ◌%◌, ◌^◌, sym, refl, ◌∙◌, ap, inl, inr, ◌⊎◌, arith}
use Rattle.std.proofs.Common.{bit_and, min, w64}
use Rattle.std.specs.Int.{bit_at, trailing_zeros, bit_not}
use Rattle.std.proofs.lemmas.Bool.{cases_lt}
use Rattle.std.proofs.lemmas.Nat.{and_le_l}
use Rattle.std.proofs.lemmas.Nat.Bits.{bit_at_and, bit_at-lt, bit_at-zero, bit_at_mask_below, bit_at_mask_inside}
use Rattle.std.proofs.lemmas.Nat.Bits.{bit_at-trailing_zeros, bit_at_not, ones_shl, same_from_bits_below}
use Rattle.udp_wires.specs.SocketSet.{steps_from}

-- ---- one place

zero_one : ◌≡◌ {A = ℕ} 0 1 → ⊥
zero_one same = omega (arith, same)

pub as_before : (a b : ℕ) → a ≡ b → (a ≡ 1) ↔ (b ≡ 1)
as_before a b same = (λ one. sym same ∙ one, λ one. same ∙ one)

-- ---- the places from one on

abbrev pub high : ℕ → ℕ → ℕ
high bits from = bit_and bits ((2 ^ 64 - 1) * 2 ^ from % 2 ^ 64)

high_low : (bits from : ℕ) → from < 64 → (i : ℕ) → i < from → bit_at (high bits from) i ≡ 0
high_low bits from within i low =
    let mask = ones_shl 64 from (omega arith) in
    let none = bit_at_mask_below from 64 i low in
    let both = bit_at_and bits ((2 ^ 64 - 1) * 2 ^ from % 2 ^ 64) i in
    both ∙ rw mask (rw none (omega arith))

high_high : (bits from : ℕ) → from < 64 → (i : ℕ) → from ≤ i → i < 64 → bit_at (high bits from) i ≡ bit_at bits i
high_high bits from within i above below =
    let mask = ones_shl 64 from (omega arith) in
    let one = bit_at_mask_inside from 64 i above below in
    let few = bit_at-lt bits i in
    let both = bit_at_and bits ((2 ^ 64 - 1) * 2 ^ from % 2 ^ 64) i in
    both ∙ rw mask (rw one (omega (arith, few)))

steps_high : (from place : ℕ) → from ≤ place → place < 64 → steps_from from place ≡ place - from
steps_high from place high within = omega arith

steps_low : (from place : ℕ) → place < from → from < 64 → steps_from from place ≡ place + 64 - from
steps_low from place low within = omega arith

-- ---- the first of a set, going round

-- the place that is first in a set of bits, going round
pub record Nearest (bits from place : ℕ) : Type 0 where
  pub there : bit_at bits place ≡ 1
  pub within : place < 64
  pub first : (other : ℕ) → other < 64 → bit_at bits other ≡ 1 → steps_from from place ≤ steps_from from other

-- some are there from that place on: it is the lowest of these
pub nearest_high : (bits from : ℕ) → from < 64 → bits < 2 ^ 64 → 0 < high bits from
    → Nearest bits from (trailing_zeros w64 (high bits from))
nearest_high bits from within fits some =
    let place = trailing_zeros w64 (high bits from) in
    let lower : high bits from ≤ bits = and_le_l bits ((2 ^ 64 - 1) * 2 ^ from % 2 ^ 64) in
    let lowest = bit_at-trailing_zeros w64 (high bits from) some (omega (arith, lower)) in
    let from_on : from ≤ place = not_below place lowest.1 in
    record {
      there = sym (high_high bits from within place from_on lowest.0) ∙ lowest.1;
      within = lowest.0;
      first = λ other below there. go place from_on lowest.0 (lowest.2) other below there;
    }
  where
    not_below : (place : ℕ) → bit_at (high bits from) place ≡ 1 → from ≤ place
    not_below place there = elim (cases_lt place from) [
      | inl low ↦ absurd (zero_one (sym (high_low bits from within place low) ∙ there))
      | inr from_on ↦ from_on
    ]

    go : (place : ℕ) → from ≤ place → place < 64 → ((i : ℕ) → i < place → bit_at (high bits from) i ≡ 0)
        → (other : ℕ) → other < 64 → bit_at bits other ≡ 1 → steps_from from place ≤ steps_from from other
    go place high below none other within_other there = elim (cases_lt other from) [
      | inl low ↦ omega (arith, steps_high from place high below, steps_low from other low within)
      | inr not_low ↦
          elim (cases_lt other place) [
            | inl before ↦ absurd (zero_one (sym (none other before) ∙ high_high bits from within other not_low within_other
                ∙ there))
            | inr behind ↦ omega (arith, steps_high from place high below, steps_high from other not_low within_other)
          ]
    ]

-- none is there from that place on: it is the lowest of all
pub nearest_low : (bits from : ℕ) → from < 64 → bits < 2 ^ 64 → high bits from ≡ 0 → 0 < bits
    → Nearest bits from (trailing_zeros w64 bits)
nearest_low bits from within fits none some =
    let place = trailing_zeros w64 bits in
    let lowest = bit_at-trailing_zeros w64 bits some fits in
    record {
      there = lowest.1;
      within = lowest.0;
      first = λ other below there.
          let low = all_below other below there in
          let place_low = all_below place lowest.0 lowest.1 in
          elim (cases_lt other place) [
            | inl before ↦ absurd (zero_one (sym (lowest.2 other before) ∙ there))
            | inr behind ↦ omega (arith, steps_low from place place_low within, steps_low from other low within)
          ];
    }
  where
    all_below : (other : ℕ) → other < 64 → bit_at bits other ≡ 1 → other < from
    all_below other below there = elim (cases_lt other from) [
      | inl low ↦ low
      | inr not_low ↦
          absurd (zero_one (sym (bit_at-zero other) ∙ ap (λ n. bit_at n other) (sym none) ∙ high_high bits from within other
          not_low below ∙ there))
    ]

-- ---- the first so many places

pub below_count : (count : ℕ) → count < 64 → (place : ℕ) → place < 64
    → (bit_at (2 ^ 64 - 1 - (2 ^ 64 - 1) * 2 ^ count % 2 ^ 64) place ≡ 1) ↔ (place < count)
below_count count within place below =
    let mask = ones_shl 64 count (omega arith) in
    let turned = bit_at_not w64 ((2 ^ 64 - 1) * 2 ^ count % 2 ^ 64) place (omega arith) below in
    elim (cases_lt place count) [
      | inl low ↦
          let none = bit_at_mask_below count 64 place low in
          let one : bit_at (2 ^ 64 - 1 - (2 ^ 64 - 1) * 2 ^ count % 2 ^ 64) place ≡ 1 = turned ∙ rw mask (rw none refl) in
          (λ _. low, λ _. one)
      | inr from_on ↦
          let some = bit_at_mask_inside count 64 place from_on below in
          let zero : bit_at (2 ^ 64 - 1 - (2 ^ 64 - 1) * 2 ^ count % 2 ^ 64) place ≡ 0 = turned ∙ rw mask (rw some refl) in
          (λ one. absurd (zero_one (sym zero ∙ one)), λ low. omega arith)
    ]

-- ---- no place

pub none_of_zero : (bits : ℕ) → bits ≡ 0 → (place : ℕ) → place < 64 → bit_at bits place ≡ 1 → ⊥
none_of_zero bits zero place below there = zero_one (sym (bit_at-zero place) ∙ ap (λ n. bit_at n place) (sym zero) ∙ there)

pub zero_of_none : (bits : ℕ) → bits < 2 ^ 64 → ((place : ℕ) → place < 64 → bit_at bits place ≡ 1 → ⊥) → bits ≡ 0
zero_of_none bits fits none = same_from_bits_below 64 bits 0 fits (omega arith) (λ place below. go place (none place below)
    ∙ sym (bit_at-zero place))
  where
    go : (place : ℕ) → (bit_at bits place ≡ 1 → ⊥) → bit_at bits place ≡ 0
    go place absent =
        let few = bit_at-lt bits place in
        omega (arith, few, absent)
