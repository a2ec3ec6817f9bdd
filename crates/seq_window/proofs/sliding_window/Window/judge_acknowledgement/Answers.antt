use Rattle.std.proofs.Common.{◌∙◌, ap, arith}
use Rattle.seq_window.specs.declared.judgements.Acknowledged.TheVariants.{Acked}
use Rattle.seq_window.specs.Window.{Window, judged_acknowledgement}
use Rattle.seq_window.proofs.Sound.{judged_near, judged_far}
use Rattle.seq_window.proofs.sliding_window.Window.judge_acknowledgement.Goals as goal

pub returns-then-distance-len : goal.returns-then-distance-len
returns-then-distance-len c =
    ap (λ n. Acked n) c.from.ensures ∙ judged_near c.self.inside c.self.invariant c.args.iseq (omega arith)
    ∙ ap (λ (w : Window). judged_acknowledgement w.state.history c.args.iseq) c.self.view_is

pub returns-else-distance-len : goal.returns-else-distance-len
returns-else-distance-len c =
    judged_far c.self.inside c.self.invariant c.args.iseq (omega arith)
    ∙ ap (λ (w : Window). judged_acknowledgement w.state.history c.args.iseq) c.self.view_is
