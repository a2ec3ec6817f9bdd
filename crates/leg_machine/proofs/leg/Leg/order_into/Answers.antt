use Rattle.std.proofs.Common.{rules}
use Rattle.leg_machine.specs.Leg.{leg_of}
use Rattle.leg_machine.specs.OrderTable.{order_refused, order_carried}
use Rattle.leg_machine.specs.Seen.{kind_of}
use Rattle.leg_machine.specs.Tie.{SendsAtMostOne, SendsNumbered, IsSendingOrMini}
use Rattle.leg_machine.proofs.Answered.{Answers, answers}
use Rattle.leg_machine.proofs.SeenOrders.{answered-seen, answered-wrong, order-seen, order-wrong}
use Rattle.leg_machine.proofs.Sides.{order-sent}
use Rattle.leg_machine.proofs.TiedSends.{order-sends}
use Rattle.leg_machine.proofs.leg.Leg.order_into.Goals as goal
use Rattle.leg_machine.proofs.leg.Leg.order_into.Goals.{After-order}

all : (c : After-order) → Answers c.order.result (SendsAtMostOne c.args.self.now.state) IsSendingOrMini (leg_of c.order.new.self)
    c.order.new.outs
all c =
    let old = c.args.self.now.state in
    let step = order_carried old c.args.order.now c.args.now in
    let numbered : SendsNumbered old = search rules in
    let sent = order-sent old c.args.order.now c.args.now (search rules) (search rules) numbered in
    answers c.order.result (SendsAtMostOne old) IsSendingOrMini old step.leg (leg_of c.order.new.self) step.datagrams
    c.order.new.outs
    (order-sends old c.args.order.now c.args.now) sent.numbered sent.sendings numbered (search rules) (search rules)
    (search rules)

pub returns-clause-extends_history : goal.returns-clause-extends_history
returns-clause-extends_history c = (all c).tied

pub returns-clause-sendings : goal.returns-clause-sendings
returns-clause-sendings c = (all c).sendings

pub returns-clause-refines_abstract_leg : goal.returns-clause-refines_abstract_leg
returns-clause-refines_abstract_leg c =
    let old = c.args.self.now.state in
    answered-seen c.order.result (kind_of c.args.order.now) old (order_carried old c.args.order.now c.args.now).leg
    (leg_of c.order.new.self) _
    (order-seen old c.args.order.now c.args.now) (search rules) (search rules)

pub returns-clause-wrong_stage : goal.returns-clause-wrong_stage
returns-clause-wrong_stage c =
    let old = c.args.self.now.state in
    answered-wrong c.order.result (order_refused old c.args.order.now c.args.now) _ (order-wrong old c.args.order.now c.args.now)
    (search rules) (search rules)

pub invariant_of-self : goal.invariant_of-self
invariant_of-self c = (all c).numbered
