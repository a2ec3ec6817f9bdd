use Rattle.plan_faults.specs.Lines.{Adds}
use Rattle.plan_faults.proofs.hints.write_kept.Given as goal

abbrev pub invariant-loop-warning : goal.invariant-loop-warning
invariant-loop-warning l = Adds l.warning-index l.initial.report l.report
