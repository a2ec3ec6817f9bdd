use Rattle.std.proofs.Common.{◌≡◌, arith, ap, sym}
use Rattle.seq_window.specs.Window.{WindowState}
use Rattle.leg_machine.specs.Leg.{leg_of, with_window}
use Rattle.leg_machine.proofs.Again.{none-hastened}
use Rattle.leg_machine.proofs.machine.Machine.hasten_if.Goals as goal

pub returns-else-place-held_len-clause-leg : goal.returns-else-place-held_len-clause-leg
returns-else-place-held_len-clause-leg c =
    ap (λ (w : WindowState). with_window (leg_of c.args.self.now) w)
    (sym (none-hastened c.args.self.now.window.state c.args.place c.args.moment
    (omega (arith, c.if-place-held_len.false, c.held_len.ensures.value))))
