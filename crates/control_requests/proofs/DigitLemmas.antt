-- Numbers in digits, counted up to a limit.
use Rattle.std.proofs.Common.{◌≡◌, ◌+◌, ◌-◌, ◌*◌, ◌<◌, ℕ, List, [], ◌∷◌, Bool, true, false, cond, nat_le, Option, Some, None}
use Rattle.std.proofs.Common.{option_map, refl, ap, arith}
use Rattle.std.proofs.lemmas.Bool.Decides.{nat_tests}
use Rattle.std.specs.Char.{is_ascii_digit}
use Rattle.control_requests.specs.Digits.{number_after, up_to}

same_choice : (limit : ℕ) (b : Bool) (m n : Option ℕ) → option_map (up_to limit) m ≡ option_map (up_to limit) n →
    option_map (up_to limit) (cond b m None) ≡ option_map (up_to limit) (cond b n None)
same_choice limit true m n h = h
same_choice limit false m n h = refl

above_limit : (limit n : ℕ) → limit < n → up_to limit n ≡ limit + 1
above_limit limit n h = grind (arith, nat_tests)

-- above the limit two numbers give the same result
above : (limit m n : ℕ) (ds : List ℕ) → limit < m → limit < n → option_map (up_to limit) (number_after m ds)
    ≡ option_map (up_to limit) (number_after n ds)
above limit m n [] hm hn = ap Some (grind (arith, above_limit limit m hm, above_limit limit n hn))
above limit m n (d ∷ ds) hm hn = same_choice limit (is_ascii_digit d) _ _ (above limit (10 * m + (d - 48)) (10 * n + (d - 48)) ds
    (omega (arith, hm)) (omega (arith, hn)))

over : (limit n : ℕ) → nat_le n limit ≡ false → limit < n
over limit n h = grind (arith, nat_tests)

kept_by : (limit n : ℕ) (ds : List ℕ) (b : Bool) → nat_le n limit ≡ b →
    option_map (up_to limit) (number_after (cond b n (limit + 1)) ds) ≡ option_map (up_to limit) (number_after n ds)
kept_by limit n ds true h = refl
kept_by limit n ds false h = above limit (limit + 1) n ds (omega arith) (over limit n h)

-- a number that was capped at the limit continues as the number itself does
pub kept : (limit n : ℕ) (ds : List ℕ) → option_map (up_to limit) (number_after (up_to limit n) ds)
    ≡ option_map (up_to limit) (number_after n ds)
kept limit n ds = kept_by limit n ds (nat_le n limit) refl

-- a digit in front
pub first_digit : (n d : ℕ) (ds : List ℕ) → is_ascii_digit d ≡ true → number_after n (d ∷ ds)
    ≡ number_after (10 * n + (d - 48)) ds
first_digit n d ds h = ap (λ b. cond b (number_after (10 * n + (d - 48)) ds) None) h
