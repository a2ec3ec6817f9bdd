-- The first octets of a name.
use Rattle.std.proofs.Common.{◌≡◌, ℕ, List, length, take, min, ap, ◌∙◌, arith}
use Rattle.std.proofs.lemmas.List.{take_min}

pub shortest : (octets : List ℕ) → take (min (length octets) 64) octets ≡ take 64 octets
shortest octets =
    let same : min (length octets) 64 ≡ min 64 (length octets) = omega arith in
    ap (λ n. take n octets) same ∙ take_min 64 octets
