-- Numbers in decimal digits.
use Rattle.std.proofs.Common.{◌≡◌, ◌+◌, ◌*◌, ◌^◌, ◌<◌, ◌≤◌, ℕ, List, [], ◌∷◌, drop, get_or, length, ap, sym, subst, arith}
use Rattle.std.proofs.Math.ListN.{drop_of_length-le}
use Rattle.std.proofs.lemmas.List.{drop_more}
use Rattle.std.specs.Char.{digit_value}
use Rattle.std.specs.Str.Parse.{AllDigits, IsNumeral, digits_value, digits_value_after}

-- more digits make no number smaller
grows : (n : ℕ) (ds : List ℕ) → n ≤ digits_value_after 10 n ds
grows n [] = omega arith
grows n (d ∷ ds) = omega (arith, grows (n * 10 + digit_value d) ds)

next_at_most : (n : ℕ) (ds : List ℕ) (i : ℕ) → i < length ds →
    n * 10 + digit_value (get_or ds i 0) ≤ digits_value_after 10 n (drop i ds)
next_at_most n ds i h = subst (λ rest. n * 10 + digit_value (get_or ds i 0) ≤ digits_value_after 10 n rest)
    (sym (drop_more ds i 0 h)) (grows (n * 10 + digit_value (get_or ds i 0)) (drop (i + 1) ds))

-- where a number with its next digit is too large, the whole number is
pub too_large : (most n : ℕ) (ds : List ℕ) (i : ℕ) → i < length ds → most ≤ n * 10 + digit_value (get_or ds i 0) →
    digits_value 10 ds ≡ digits_value_after 10 n (drop i ds) → digits_value 10 ds < most → ⊥
too_large most n ds i h large same small = omega (arith, next_at_most n ds i h, large, same, small)

all_read : (n : ℕ) (ds : List ℕ) (rest : List ℕ) → length rest ≡ 0 → digits_value 10 ds ≡ digits_value_after 10 n rest →
    (AllDigits 10 rest → AllDigits 10 ds) → AllDigits 10 ds × n ≡ digits_value 10 ds
all_read n ds [] none same front = (front tt, sym same)
all_read n ds (d ∷ rest) none same front = absurd (omega (arith, none))

-- after the last digit the number is that of the digits
pub is_whole : (n : ℕ) (ds : List ℕ) (i : ℕ) → length ds ≤ i → digits_value 10 ds ≡ digits_value_after 10 n (drop i ds) →
    (AllDigits 10 (drop i ds) → AllDigits 10 ds) → AllDigits 10 ds × n ≡ digits_value 10 ds
is_whole n ds i h same front = all_read n ds (drop i ds) (ap (λ (rest : List ℕ). length rest) (drop_of_length-le ds h)) same front
