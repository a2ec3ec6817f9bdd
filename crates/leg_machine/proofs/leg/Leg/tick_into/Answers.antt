use Rattle.std.proofs.Common.{sym, subst}
use Rattle.leg_machine.specs.Leg.{Leg, leg_of, whole_leg}
use Rattle.leg_machine.specs.Tie.{SendsNumbered}
use Rattle.leg_machine.proofs.Growth.{Told, told}
use Rattle.leg_machine.proofs.SendingSteps.{tick-sent}
use Rattle.leg_machine.proofs.leg.Leg.tick_into.Goals as goal

pub returns : goal.returns
returns c =
    subst (λ (l : Leg). Told l c.args.now c.tick.result (whole_leg c.tick.new.self) c.tick.new.outs) c.self.view_is
    (told (whole_leg c.self.inside.machine) (whole_leg c.grow-grown.new.self) (whole_leg c.tick.new.self) c.tick.new.outs
    c.args.now c.tick.result
    c.grow-grown.result c.self.invariant c.grow-grown.ensures.had_room c.grow-grown.ensures.leg c.grow-grown.ensures.capacity
    c.tick.ensures.leg c.tick.ensures.replies c.tick.ensures.skipped c.tick.ensures.capacity)

pub invariant_of-self : goal.invariant_of-self
invariant_of-self c =
    let grown = leg_of c.grow-grown.new.self in
    subst SendsNumbered (sym c.tick.ensures.leg)
    (tick-sent c.grow-grown.result grown c.args.now (subst SendsNumbered (sym c.grow-grown.ensures.leg)
    c.self.invariant)).numbered
