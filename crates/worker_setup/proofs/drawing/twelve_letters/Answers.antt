use Rattle.std.proofs.Common.{rules, refl}
use Rattle.std.proofs.lemmas.List.{take_more_set}
use Rattle.worker_setup.specs.Drawing.{draw_letter, draw_list}
use Rattle.worker_setup.proofs.Draws.{one_more}
use Rattle.worker_setup.proofs.drawing.twelve_letters.Goals as goal

pub loop-letter-init : goal.loop-letter-init
unfolding draw_list
loop-letter-init g c = record { letters = search rules; drawn = refl }

pub loop-letter-preserved : goal.loop-letter-preserved
loop-letter-preserved g c = record {
  letters = search rules;
  drawn = one_more draw_letter c.loop-letter.letter-index _ _ _ _ _ _ c.loop-letter.invariant.drawn
      c.one_letter.ensures.drawn (take_more_set c.loop-letter.letter-items c.loop-letter.letter-index _ (search rules));
}
