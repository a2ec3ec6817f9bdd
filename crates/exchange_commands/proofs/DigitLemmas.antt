-- The digits of octets, written one octet after another.
use Rattle.std.proofs.Common.{◌≡◌, ◌≤◌, ◌<◌, ◌+◌, ℕ, zero, suc, List, [], ◌∷◌, ◌++◌, Option, None, Some, Result, Ok, Err, IsOk, OnOk, refl, sym, ap, ◌∙◌, append-nil, drop, length, slice_index, arith}
use native.Mathlib.Numerals.{unary_clauses}
use Rattle.std.proofs.KnownBytes.{Keeps-trans, append_known-moved}
use Rattle.std.specs.Io.KnownBytes.{Appends, Keeps, append_known}
use Rattle.hex.specs.Hex.{encode_lower, encode_with}

left : (octets : List ℕ) (k : ℕ) → k < length octets
    → encode_lower (drop k octets) ≡ encode_lower (slice_index octets k ∷ []) ++ encode_lower (drop (suc k) octets)
unfolding encode_with
left [] k within = absurd (omega arith)
left (octet ∷ octets) zero within = refl
left (octet ∷ octets) (suc k) within = left octets k (omega arith)

left_behind : (octets : List ℕ) (k : ℕ) → k < length octets
    → encode_lower (drop k octets) ≡ encode_lower (slice_index octets k ∷ []) ++ encode_lower (drop (k + 1) octets)
left_behind octets k within = simp unary_clauses (left octets k within)

none_left : (octets : List ℕ) (k : ℕ) → length octets ≤ k → drop k octets ≡ []
none_left [] zero most = refl
none_left [] (suc k) most = refl
none_left (octet ∷ octets) zero most = absurd (omega arith)
none_left (octet ∷ octets) (suc k) most = none_left octets k (omega arith)

of_ok : {A E : Type 0} {P : Type 0} (result : Result A E) → IsOk result → OnOk result P → P
of_ok (Ok value) is holds = holds
of_ok (Err error) is holds = cc

-- the digits of the next octet were written
pub written : {A E : Type 0} (before between after : Option (List ℕ)) (octets digits : List ℕ) (k : ℕ) (encoded : Result A E)
    → k < length octets → Keeps before (append_known between (encode_lower (drop k octets)))
    → IsOk encoded → OnOk encoded (digits ≡ encode_lower (slice_index octets k ∷ [])) → Appends between after digits
    → Keeps before (append_known after (encode_lower (drop (k + 1) octets)))
written before between after octets digits k encoded within kept is are appended =
    Keeps-trans before _ _ kept (append_known-moved between after digits _ _ appended
    (left_behind octets k within
    ∙ ap (λ front. front ++ encode_lower (drop (k + 1) octets)) (sym (of_ok encoded is are))))

no_digits : encode_lower [] ≡ []
unfolding encode_with
no_digits = refl

-- the digits of all octets were written
pub all_written : (before after : Option (List ℕ)) (octets : List ℕ) (k : ℕ) → length octets ≤ k
    → Keeps (append_known before (encode_lower octets)) (append_known after (encode_lower (drop k octets)))
    → Appends before after (encode_lower octets)
all_written None after octets k most kept = tt
all_written (Some x) None octets k most kept = absurd kept
all_written (Some x) (Some y) octets k most kept =
    let empty : encode_lower (drop k octets) ≡ [] = ap encode_lower (none_left octets k most) ∙ no_digits in
    sym (append-nil y) ∙ (ap (λ rest. y ++ rest) (sym empty) ∙ kept)
