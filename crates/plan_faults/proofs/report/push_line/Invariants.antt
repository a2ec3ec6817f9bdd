use Rattle.plan_faults.specs.Lines.{Adds}
use Rattle.plan_faults.proofs.report.push_line.Given as goal

abbrev pub invariant-loop-octet : goal.invariant-loop-octet
invariant-loop-octet l = Adds 0 l.initial.report l.report
