use Rattle.std.proofs.Common.{◌≡◌, ◌≤◌, ◌<◌, ℕ, get_or, take}
use Rattle.worker_setup.specs.Drawing.{draw_letter, draw_list}
use Rattle.worker_setup.proofs.drawing.twelve_letters.Given as goal

abbrev pub invariant-loop-letter : goal.invariant-loop-letter
invariant-loop-letter g l = record {
  letters : (k : ℕ) → k < l.letter-index → (97 ≤ get_or l.letter-items k 0) × (get_or l.letter-items k 0 ≤ 122);
  drawn : (take l.letter-index l.letter-items, g.R.Rng.stream l.generator)
      ≡ draw_list draw_letter l.letter-index (g.R.Rng.stream l.fn.generator);
}
