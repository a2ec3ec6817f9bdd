-- The ranges of the peers follow one another.
use Rattle.std.proofs.Common.{◌≡◌, ◌≢◌, ℕ, zero, suc, ◌+◌, ◌<◌, ◌≤◌, ◌*◌, List, [], ◌∷◌, ◌++◌, get_or, length, ◌-◌, arith}
use Rattle.call_book.specs.Ranges.{IsNumberOf, first_number, total_of}

first_above : (counts : List ℕ) (p : ℕ) → 1 ≤ first_number counts p
first_above [] p = omega arith
first_above (c ∷ cs) zero = omega arith
first_above (c ∷ cs) (suc p) = let more : 1 ≤ first_number cs p = first_above cs p in let here : 1 ≤ c + first_number cs p =
    omega arith in here

first_past : (counts : List ℕ) (p q : ℕ) → p < q → first_number counts p + get_or counts p 0 ≤ first_number counts q
first_past [] p q h = omega arith
first_past (c ∷ cs) p zero h = absurd (omega arith)
first_past (c ∷ cs) zero (suc q) h = let here : 1 + c ≤ c + first_number cs q = omega (arith, first_above cs q) in here
first_past (c ∷ cs) (suc p) (suc q) h =
    let more : first_number cs p + get_or cs p 0 ≤ first_number cs q = first_past cs p q (omega arith) in
    let here : (c + first_number cs p) + get_or cs p 0 ≤ c + first_number cs q = omega arith in here

total_past : (counts : List ℕ) (p : ℕ) → first_number counts p + get_or counts p 0 ≤ total_of counts + 1
total_past [] p = omega arith
total_past (c ∷ cs) zero = let here : 1 + c ≤ c + total_of cs + 1 = omega arith in here
total_past (c ∷ cs) (suc p) =
    let more : first_number cs p + get_or cs p 0 ≤ total_of cs + 1 = total_past cs p in
    let here : (c + first_number cs p) + get_or cs p 0 ≤ (c + total_of cs) + 1 = omega arith in here

pub peer_within : (counts : List ℕ) (p n : ℕ) → IsNumberOf counts p n → p < length counts
peer_within [] p n h = absurd (omega arith)
peer_within (c ∷ cs) zero n h = omega arith
peer_within (c ∷ cs) (suc p) n h =
    let rest : IsNumberOf cs p (n - c) = (omega (arith, h.0), omega (arith, h.0, h.1)) in
    omega (arith, peer_within cs p (n - c) rest)

pub number_within : (counts : List ℕ) (p n : ℕ) → IsNumberOf counts p n → n < total_of counts + 1
number_within counts p n h = omega (arith, total_past counts p)

pub ranges_rise : (counts : List ℕ) (p q m n : ℕ) → p < q → IsNumberOf counts p m → IsNumberOf counts q n → m < n
ranges_rise counts p q m n lt h k = omega (arith, first_past counts p q lt)

pub ranges_apart : (counts : List ℕ) (p q m n : ℕ) → p ≢ q → IsNumberOf counts p m → IsNumberOf counts q n → m ≢ n
ranges_apart counts p q m n ne h k =
    let up : p < q → m < n = λ lt. ranges_rise counts p q m n lt h k in
    let down : q < p → n < m = λ lt. ranges_rise counts q p n m lt k h in
    λ same. grind (arith, up, down)

-- ---- their sum

pub total-push : (counts : List ℕ) (count : ℕ) → total_of (counts ++ count ∷ []) ≡ total_of counts + count
total-push [] count = omega arith
total-push (c ∷ cs) count = let rest = total-push cs count in omega (arith, rest)

-- the sum over peers with at most this number of numbers each
pub total_within : (counts : List ℕ) (most : ℕ) → ((i : ℕ) → i < length counts → get_or counts i 0 ≤ most)
    → total_of counts ≤ most * length counts
total_within [] most h = omega arith
total_within (c ∷ cs) most h =
    let rest : total_of cs ≤ most * length cs = total_within cs most (λ i lt. h (suc i) (omega arith)) in
    let here : c ≤ most = h 0 (omega arith) in
    let sum : most * length (c ∷ cs) ≡ most + most * length cs = omega arith in
    omega (arith, rest, here, sum)
