-- The call numbers of each peer: they follow those of the peers before it, from 1 on.
use Rattle.std.specs.Prelude.{ℕ, ◌+◌, ◌<◌, ◌≤◌, zero, suc, List, [], ◌∷◌, slice_index}
use Rattle.std.specs.List.{range_with_len}

-- the number of call numbers that a peer may have
abbrev pub IsCount : ℕ → Type 0
IsCount count = (1 ≤ count) × (count ≤ 512)

-- the first number of a peer
abbrev pub first_number : List ℕ → ℕ → ℕ
first_number [] peer = 1
first_number (count ∷ counts) zero = 1
first_number (count ∷ counts) (suc peer) = count + first_number counts peer

-- the number of all call numbers
abbrev pub total_of : List ℕ → ℕ
total_of [] = 0
total_of (count ∷ counts) = count + total_of counts

abbrev pub IsNumberOf : List ℕ → ℕ → ℕ → Type 0
IsNumberOf counts peer n = (first_number counts peer ≤ n) × (n < first_number counts peer + slice_index counts peer)

-- the numbers of each peer in ascending order, those of the first peer from here on
abbrev pub ranges_from : ℕ → List ℕ → List (List ℕ)
ranges_from first [] = []
ranges_from first (count ∷ counts) = range_with_len first count ∷ ranges_from (first + count) counts
