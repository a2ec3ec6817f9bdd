-- Equal shares, taken from the end.
use Rattle.std.proofs.Common.{◌≡◌, ℕ, ◌+◌, ◌-◌, List, replicate, ap, ◌∙◌, arith}

-- one less, counted by how many were taken
pub replicate-less : (ys : List ℕ) (n i x : ℕ) → ys ≡ replicate (n - i - 1) x → ys ≡ replicate (n - (i + 1)) x
replicate-less ys n i x e = let m : n - i - 1 ≡ n - (i + 1) = omega arith in e ∙ ap (λ k. replicate k x) m
