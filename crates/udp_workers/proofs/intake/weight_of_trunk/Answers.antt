use Rattle.std.proofs.Common.{arith}
use Rattle.udp_workers.proofs.IntakeLaws.{one_weighed}
use Rattle.udp_workers.proofs.intake.weight_of_trunk.Goals as goal

pub overflow_add-weight-in-Some : goal.overflow_add-weight-in-Some
overflow_add-weight-in-Some c =
    let entry = c.in-Some.entry in
    let one = one_weighed c.loop-entry.left c.next.new.self (entry.0, entry.1, entry.2.now) c.in-Some.ensures.steps in
    omega (arith, one.1, c.loop-entry.invariant.3, c.requires.short)

pub loop-entry-preserved : goal.loop-entry-preserved
loop-entry-preserved c =
    let entry = c.in-Some.entry in
    let one = one_weighed c.loop-entry.left c.next.new.self (entry.0, entry.1, entry.2.now) c.in-Some.ensures.steps in (
      tt,
      tt,
      omega (arith, one.0, c.loop-entry.invariant.2),
      omega (arith, one.1, c.loop-entry.invariant.3),
      c.loop-entry.invariant.4,
    )
