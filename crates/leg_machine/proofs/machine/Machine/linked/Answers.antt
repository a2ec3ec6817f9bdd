use Rattle.std.proofs.Common.{sym, ◌∙◌}
use Rattle.leg_machine.specs.Leg.{leg_of}
use Rattle.leg_machine.proofs.Rows.{linked-other}
use Rattle.leg_machine.proofs.machine.Machine.linked.Goals as goal

pub returns-in_default : goal.returns-in_default
returns-in_default c =
    c.talking.ensures ∙ sym (linked-other (leg_of c.args.self.now) c.args.frame.now c.args.message.now c.in_default.not-Indicates
    c.in_default.not-Answer)
