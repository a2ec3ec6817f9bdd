use Rattle.std.specs.Prelude.{None, map}
use Rattle.std.proofs.Common.{◌∙◌, ℕ, List, ap}
use Rattle.iax_frames.specs.FullFrame.{spelling}
use Rattle.call_signals.specs.declared.outcomes.Judged.TheVariants.{Unnumbered}
use Rattle.leg_machine.specs.Openings.{open_out_step}
use Rattle.leg_machine.proofs.Answered.{outcome}
use Rattle.leg_machine.proofs.leg.Leg.open_out.Goals as goal

pub returns-clause-leg : goal.returns-clause-leg
returns-clause-leg c =
    c.in_ok-leg.ensures.leg
    ∙ ap (λ (caller : List ℕ). (open_out_step c.args.rules.now c.args.number c.args.called.now caller c.args.format
    c.args.now).leg) c.numbered-caller.ensures

pub returns-clause-outcome : goal.returns-clause-outcome
returns-clause-outcome c =
    ap (λ (datagrams : List (List ℕ)). outcome Unnumbered datagrams None) (c.in_ok-leg.ensures.replies
    ∙ ap (λ (caller : List ℕ). map spelling (open_out_step c.args.rules.now c.args.number c.args.called.now caller c.args.format
    c.args.now).replies) c.numbered-caller.ensures)
