use Rattle.std.proofs.Common.{rules}
use Rattle.leg_machine.specs.Leg.{leg_of}
use Rattle.leg_machine.proofs.Opened.{opened}
use Rattle.leg_machine.proofs.SendingSteps.{opened-written}
use Rattle.leg_machine.proofs.leg.Leg.open_in_into.Goals as goal

pub returns : goal.returns
returns c =
    opened c.args.rules.now c.args.number c.args.frame.now c.args.now c.args.challenge.now c.effect-effect.result _
    (leg_of c.take-heard.new.self)
    c.args.replies.now c.take-heard.new.outs c.take-heard.result c.requires.rules.window.0 c.take-heard.ensures.leg
    c.take-heard.ensures.replies
    c.take-heard.ensures.heard c.requires.empty (search rules) (search rules) (search rules) (search rules)

pub invariant_of-result : goal.invariant_of-result
invariant_of-result c =
    (opened-written c.effect-effect.result _ (leg_of c.take-heard.new.self) c.args.frame.now c.args.now c.args.replies.now
    c.take-heard.new.outs
    c.take-heard.ensures.leg c.take-heard.ensures.replies c.requires.empty (search rules)).numbered
