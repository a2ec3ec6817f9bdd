use Rattle.std.specs.Prelude.{None}
use Rattle.std.proofs.Common.{ℕ, List, ap}
use Rattle.call_signals.specs.declared.outcomes.Judged.TheVariants.{Unnumbered}
use Rattle.leg_machine.proofs.Answered.{outcome}
use Rattle.leg_machine.proofs.leg.Leg.order.Goals as goal

pub returns-clause-leg : goal.returns-clause-leg
returns-clause-leg c = c.in_ok-order_into.ensures.leg

pub returns-clause-outcome : goal.returns-clause-outcome
returns-clause-outcome c = ap (λ (datagrams : List (List ℕ)). outcome Unnumbered datagrams None)
    c.in_ok-order_into.ensures.replies

pub returns-clause-refines_abstract_leg : goal.returns-clause-refines_abstract_leg
returns-clause-refines_abstract_leg c = c.in_ok-order_into.ensures.refines_abstract_leg

pub returns-clause-unrefused : goal.returns-clause-unrefused
returns-clause-unrefused c = c.in_ok-order_into.ensures.unrefused
