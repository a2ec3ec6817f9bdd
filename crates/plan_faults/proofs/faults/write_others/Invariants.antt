use Rattle.plan_faults.specs.Lines.{Adds}
use Rattle.plan_faults.proofs.faults.write_others.Given as goal

abbrev pub invariant-loop-fault : goal.invariant-loop-fault
invariant-loop-fault l = Adds l.fault-index l.initial.report l.report
