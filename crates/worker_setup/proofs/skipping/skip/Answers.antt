use Rattle.std.proofs.Common.{refl}
use Rattle.worker_setup.specs.Skipping.{Skipped}
use Rattle.worker_setup.proofs.Skips.{one_name_more}
use Rattle.worker_setup.proofs.skipping.skip.Goals as goal

pub numbers-init : goal.numbers-init
unfolding Skipped
numbers-init g c = refl

pub numbers-preserved : goal.numbers-preserved
numbers-preserved g c =
    one_name_more c.args.peer c.numbers._done c.args.pass.now c.numbers.pass c.skip_number.new.pass c.numbers.invariant
    (c.in-Some.name, c.in-Some.ensures.skipped.0, c.in-Some.ensures.peer, c.in-Some.ensures.skipped.1)
