use Rattle.std.proofs.Common.{sym, ◌∙◌}
use Rattle.leg_machine.specs.Leg.{leg_of}
use Rattle.leg_machine.proofs.Rows.{talking-other}
use Rattle.leg_machine.proofs.machine.Machine.talking.Goals as goal

pub returns-in_default : goal.returns-in_default
returns-in_default c =
    c.any_stage.ensures
    ∙ sym (talking-other c.args.stage (leg_of c.args.self.now) c.args.frame.now c.args.message.now
    c.in_default.not-ClearsCall c.in_default.not-Dtmf c.in_default.not-Voice c.in_default.not-Quelch c.in_default.not-Unquelch)
