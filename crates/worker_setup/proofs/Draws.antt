-- Draws, one after the other.
use Rattle.std.proofs.Common.{◌≡◌, ◌+◌, ℕ, suc, ◌++◌, ◌∷◌, [], List, arith, refl}
use Rattle.rand_core.specs.Stream.{Stream}
use Rattle.worker_setup.specs.Drawing.{draw_list}

-- one value more
pub one_more : (draw : Stream → ℕ × Stream) (count : ℕ) (s t u : Stream) (values more : List ℕ) (value : ℕ)
    → (values, t) ≡ draw_list draw count s → (value, u) ≡ draw t → more ≡ values ++ value ∷ []
    → (more, u) ≡ draw_list draw (count + 1) s
unfolding draw_list
one_more draw count s t u values more value before drawn is_more =
    let on : count + 1 ≡ suc count = omega arith in
    rw (on, ← before, ← drawn, is_more) refl
