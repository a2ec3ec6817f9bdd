use Rattle.std.proofs.Common.{◌∙◌, ap, arith}
use Rattle.step_log.specs.Notes.{note}
use Rattle.step_log.specs.declared.made.Made.TheVariants as mades
use Rattle.exchange_core.proofs.losses.losses_of.Goals as goal

pub returns : goal.returns
returns g c = record {
  sums = c.sums-sums.result;
  noted = c.lost.ensures ∙ ap (note (mades.ShowLost c.args.peer c.lost.result)) c.sums-sums.ensures.noted;
  queue = omega (arith, c.sums-sums.ensures.part);
}
