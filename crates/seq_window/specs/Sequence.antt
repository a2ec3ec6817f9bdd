-- Sequence numbers count from 0 without end, and a full frame carries each modulo 256 ("Message Transport").
use Rattle.std.specs.Prelude.{◌≡◌, ℕ, ◌+◌, ◌-◌, ◌≤◌, ◌%◌, ◌&&◌, nat_lt, nat_le, ℤ, pos, ◌+ℤ◌, ◌-ℤ◌, ◌≤ℤ◌, if◌then◌else◌}
use Rattle.std.specs.Int.{int_rem_euclid}
use Rattle.std.specs.Ordering.{int_cmp, match_ordering}
use Rattle.seq_window.specs.declared.judgements.Acknowledged.{Acknowledged}
use Rattle.seq_window.specs.declared.judgements.Acknowledged.TheVariants.{Acked, Ignored}
use Rattle.seq_window.specs.declared.judgements.Received.{Received}
use Rattle.seq_window.specs.declared.judgements.Received.TheVariants.{Taken, Repeat, Gap}

-- the octet in which a number is written
abbrev pub byte_of : ℕ → ℕ
byte_of number = number % 256

-- the number of steps from a number to the next one that is written as this octet: 0..=255
abbrev pub distance : ℕ → ℕ → ℕ
distance number byte = (byte + (256 - number % 256)) % 256

-- The number that an octet denotes near another: from 128 below it to 127 above it. It may be negative.
abbrev pub reading_near : ℕ → ℕ → ℤ
reading_near number byte =
    if nat_lt (distance number byte) 128
    then pos (number + distance number byte)
    else pos (number + distance number byte) -ℤ pos 256

-- the number that an octet denotes from another upwards: up to 255 above it
abbrev pub reading_from : ℕ → ℕ → ℕ
reading_from number byte = number + distance number byte

-- The judgement of a sequence number by the side that expects another: the next, a later one, or an earlier one.
abbrev pub number_judged : ℕ → ℤ → Received
number_judged expected number = match_ordering (int_cmp number (pos expected)) Repeat Taken Gap

abbrev pub number_byte_judged : ℕ → ℕ → Received
number_byte_judged expected byte = number_judged expected (reading_near expected byte)

-- The effect of an acknowledgement, the next number that the other side expects, given the numbers of acknowledged and of
-- sent frames.
abbrev pub acknowledgement_judged : ℕ → ℕ → ℕ → Acknowledged
acknowledgement_judged acked sent number =
    if nat_le acked number && nat_le number sent then Acked (number - acked) else Ignored

abbrev pub acknowledgement_byte_judged : ℕ → ℕ → ℕ → Acknowledged
acknowledgement_byte_judged acked sent byte = acknowledgement_judged acked sent (reading_from acked byte)

-- the properties of a reading, in one sentence each
pub record IsReadingNear (number byte : ℕ) (reading : ℤ) : Type 0 where
  pub from_below : (pos number -ℤ pos 128) ≤ℤ reading
  pub to_above : reading ≤ℤ (pos number +ℤ pos 127)
  pub written : int_rem_euclid reading (pos 256) ≡ pos byte

pub record IsReadingFrom (number byte reading : ℕ) : Type 0 where
  pub from_number : number ≤ reading
  pub to_above : reading ≤ number + 255
  pub written : byte_of reading ≡ byte
