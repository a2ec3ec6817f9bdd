use Rattle.std.specs.Prelude.{map}
use Rattle.std.proofs.Common.{◌≡◌, sym, subst, rules}
use Rattle.iax_frames.specs.FullFrame.{spelling}
use Rattle.leg_machine.specs.Leg.{leg_of}
use Rattle.leg_machine.specs.Openings.{open_out_step}
use Rattle.leg_machine.specs.Tie.{HasSent, HasSentAtMostOne}
use Rattle.leg_machine.proofs.SendingSteps.{written, call-sent}
use Rattle.leg_machine.proofs.Sides.{call-sends}
use Rattle.leg_machine.proofs.leg.Leg.open_out_into.Goals as goal
use Rattle.leg_machine.proofs.leg.Leg.open_out_into.Goals.{After-send_frame}

sent : (c : After-send_frame) → HasSent (leg_of c.send_frame.new.self) c.send_frame.new.outs
sent c =
    let step = open_out_step c.args.rules.now c.args.number c.args.called.now c.args.caller.now c.args.format c.args.now in
    let leg : leg_of c.send_frame.new.self ≡ step.leg = search rules in
    let replies : c.send_frame.new.outs ≡ map spelling step.replies = search rules in
    written step.leg (leg_of c.send_frame.new.self) step.replies c.send_frame.new.outs
    (call-sent c.args.rules.now c.args.number c.args.called.now c.args.caller.now c.args.format c.args.now) leg replies

pub returns-clause-extends_history : goal.returns-clause-extends_history
returns-clause-extends_history c =
    let leg : leg_of c.send_frame.new.self ≡ (open_out_step c.args.rules.now c.args.number c.args.called.now c.args.caller.now
    c.args.format c.args.now).leg = search rules in
    subst HasSentAtMostOne (sym leg) (call-sends c.args.rules.now c.args.number c.args.called.now c.args.caller.now c.args.format
    c.args.now)

pub invariant_of-result : goal.invariant_of-result
invariant_of-result c = (sent c).numbered

pub returns-clause-sendings : goal.returns-clause-sendings
returns-clause-sendings c = (sent c).sendings
