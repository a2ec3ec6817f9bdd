-- A byte is read as the number that it was made of, if that number is near enough.
use Rattle.std.proofs.Common.{refl, Bool, true, false, cond, ◌&&◌, ◌≡◌, ℕ, ◌+◌, ◌-◌, ◌<◌, ◌≤◌, ◌%◌, ℤ, pos, negsuc, ◌+ℤ◌, ◌-ℤ◌}
use Rattle.std.proofs.Common.{ltb, ◌⊎◌, inl, inr, sym, subst, ap, ◌∙◌, arith}
use Rattle.std.proofs.lemmas.Bool.{cond_both, cond-true, and_from, and_right, leb-true, le-leb, lt-leb, ltb-true, ltb-false}
use Rattle.std.proofs.lemmas.Bool.{cond-false, le-ltb, cases_lt}
use Rattle.std.proofs.lemmas.Bool.Decides.{nat_tests}
use Rattle.std.specs.Prelude.{nat_le, ◌≤ℤ◌}
use Rattle.std.proofs.lemmas.Int.{ints}
use Rattle.seq_window.specs.declared.judgements.Acknowledged.TheVariants.{Acked, Ignored}
use Rattle.seq_window.specs.Sequence.{byte_of, distance, reading_near, reading_from, IsReadingNear, IsReadingFrom, number_judged}
use Rattle.seq_window.specs.Sequence.{number_byte_judged, acknowledgement_judged, acknowledgement_byte_judged}

pub distance_ahead : (base number : ℕ) → base ≤ number → number ≤ base + 255 → base + distance base (byte_of number) ≡ number
distance_ahead base number low high = omega arith

pub distance_behind : (base number : ℕ) → number < base → base ≤ number + 256 → base + distance base (byte_of number) ≡ number
    + 256
distance_behind base number low high = omega arith

pub reading_near_is : (base number : ℕ) → base ≤ number + 128 → number ≤ base + 127 → reading_near base (byte_of number)
    ≡ pos number
reading_near_is base number low high = grind (arith, nat_tests, distance_ahead, distance_behind)

pub number_byte_is : (expected number : ℕ) → expected ≤ number + 128 → number ≤ expected + 127
    → number_byte_judged expected (byte_of number) ≡ number_judged expected (pos number)
number_byte_is expected number low high = ap (number_judged expected) (reading_near_is expected number low high)

pub acknowledgement_byte_is : (acked sent number : ℕ) → sent ≤ acked + 127 → number ≤ sent → acked ≤ number + 128
    → acknowledgement_byte_judged acked sent (byte_of number) ≡ acknowledgement_judged acked sent number
acknowledgement_byte_is acked sent number held known fresh = grind (arith, nat_tests, distance_ahead, distance_behind)

-- a reading below zero
negative_reading : (number byte n : ℕ) → 128 ≤ distance number byte → number + distance number byte + n + 1 ≡ 256
    → negsuc n ≡ reading_near number byte
negative_reading number byte n far is =
    sym (cond-false (ltb (distance number byte) 128) (pos (number + distance number byte)) (pos (number + distance number byte) -ℤ
    pos 256) (le-ltb (distance number byte) 128 far)
    ∙ less (number + distance number byte) is)
  where
    less : (m : ℕ) → m + n + 1 ≡ 256 → pos m -ℤ pos 256 ≡ negsuc n
    less m is = omega (arith, ints)

-- A byte has one reading near a number, and one from a number upwards.
pub near_is : (number byte : ℕ) → byte < 256 → (reading : ℤ) → IsReadingNear number byte reading
    → reading ≡ reading_near number byte
near_is number byte small (pos n) is =
    let below : (pos number -ℤ pos 128) ≤ℤ pos n = is.from_below in
    let above : pos n ≤ℤ (pos number +ℤ pos 127) = is.to_above in
    let low : number ≤ n + 128 = omega (arith, ints) in
    let high : n ≤ number + 127 = omega (arith, ints) in
    let modulo : pos (n % 256) ≡ pos byte = is.written in
    let written : byte_of n ≡ byte = cc in
    sym (reading_near_is number n low high) ∙ ap (reading_near number) written
near_is number byte small (negsuc n) is =
    let below : (pos number -ℤ pos 128) ≤ℤ negsuc n = is.from_below in
    let low : number + n < 128 = omega (arith, ints) in
    let modulo : pos (256 - 1 - n % 256) ≡ pos byte = is.written in
    let written : 255 - n % 256 ≡ byte = cc in
    let far : distance number byte ≡ 255 - n - number = omega arith in
    negative_reading number byte n (omega arith) (omega arith)

pub near_reads : (number byte : ℕ) → byte < 256 → IsReadingNear number byte (reading_near number byte)
near_reads number byte small =
    cond_both (ltb (distance number byte) 128) (pos (number + distance number byte)) (pos (number + distance number byte) -ℤ pos
    256) (IsReadingNear number byte)
    (λ near. ahead (ltb-true (distance number byte) 128 near))
    (λ far. behind (ltb-false (distance number byte) 128 far) (cases_lt (number + distance number byte) 256))
  where
    ahead : distance number byte < 128 → IsReadingNear number byte (pos (number + distance number byte))
    ahead near = record {
      from_below = omega (arith, ints);
      to_above = omega (arith, ints);
      written = ap pos (let e : (number + distance number byte) % 256 ≡ byte = omega arith in e);
    }

    behind : 128 ≤ distance number byte → (number + distance number byte < 256) ⊎ (256 ≤ number + distance number byte)
        → IsReadingNear number byte (pos (number + distance number byte) -ℤ pos 256)
    behind far (inl negative) =
        let is : negsuc (255 - (number + distance number byte)) ≡ pos (number + distance number byte) -ℤ pos 256 =
        omega (arith, ints) in
        subst (IsReadingNear number byte) is (record {
          from_below = omega (arith, ints);
          to_above = omega (arith, ints);
          written = ap pos (let e : 256 - 1 - (255 - (number + distance number byte)) % 256 ≡ byte = omega arith in e);
        })
    behind far (inr positive) =
        let is : pos (number + distance number byte - 256) ≡ pos (number + distance number byte) -ℤ pos 256 =
        omega (arith, ints) in
        subst (IsReadingNear number byte) is (record {
          from_below = omega (arith, ints);
          to_above = omega (arith, ints);
          written = ap pos (let e : (number + distance number byte - 256) % 256 ≡ byte = omega arith in e);
        })

pub from_is : (number byte : ℕ) → byte < 256 → (reading : ℕ) → IsReadingFrom number byte reading
    → reading ≡ reading_from number byte
from_is number byte small reading is =
    sym (distance_ahead number reading is.from_number is.to_above) ∙ ap (reading_from number) is.written

pub from_reads : (number byte : ℕ) → byte < 256 → IsReadingFrom number byte (reading_from number byte)
from_reads number byte small = record { from_number = omega arith; to_above = omega arith; written = omega arith }

-- a number that counts as an acknowledgement is in the window
pub acknowledged_within : (acked sent number count : ℕ) → acknowledgement_judged acked sent number ≡ Acked count
    → (acked + count ≡ number) × (number ≤ sent)
acknowledged_within acked sent number count is = go (nat_le acked number) (nat_le number sent) refl refl is
  where
    go : (a b : Bool) → nat_le acked number ≡ a → nat_le number sent ≡ b → cond (a && b) (Acked (number - acked)) Ignored
        ≡ Acked count → (acked + count ≡ number) × (number ≤ sent)
    go true true low high is =
        let l : acked ≤ number = leb-true acked number low in
        let h : number ≤ sent = leb-true number sent high in
        let same : number - acked ≡ count = cc in
        (omega arith, h)
    go true false low high is = cc
    go false b low high is = cc

-- how the code judges an acknowledgement: by its distance from what is acknowledged
pub acknowledged_near : (acked sent byte : ℕ) → acked + distance acked byte ≤ sent → acknowledgement_byte_judged acked sent byte
    ≡ Acked (distance acked byte)
acknowledged_near acked sent byte near =
    let low : nat_le acked (acked + distance acked byte) ≡ true = le-leb _ _ (omega arith) in
    let high : nat_le (acked + distance acked byte) sent ≡ true = le-leb _ _ near in
    cond-true (nat_le acked (acked + distance acked byte) && nat_le (acked + distance acked byte) sent)
    (Acked (acked + distance acked byte - acked)) Ignored (and_from _ _ low high)
    ∙ ap (λ n. Acked n) (let e : acked + distance acked byte - acked ≡ distance acked byte = omega arith in e)

pub acknowledged_far : (acked sent byte : ℕ) → sent < acked + distance acked byte → acknowledgement_byte_judged acked sent byte
    ≡ Ignored
acknowledged_far acked sent byte far =
    let high : nat_le (acked + distance acked byte) sent ≡ false = lt-leb _ _ far in
    cond-false (nat_le acked (acked + distance acked byte) && nat_le (acked + distance acked byte) sent)
    (Acked (acked + distance acked byte - acked)) Ignored (and_right _ _ high)
