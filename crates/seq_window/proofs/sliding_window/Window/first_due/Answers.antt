use Rattle.std.proofs.Common.{◌∙◌, ap, sym}
use Rattle.seq_window.specs.Window.{Window, first_due}
use Rattle.seq_window.proofs.Kept.{first_due-kept}
use Rattle.seq_window.proofs.sliding_window.Window.first_due.Goals as goal

pub returns-clause-value : goal.returns-clause-value
returns-clause-value c =
    c.due.ensures.first ∙ sym (first_due-kept c.args.now c.args.retry_ms c.self.inside.held.held)
    ∙ ap (λ (w : Window). first_due c.args.now c.args.retry_ms w.state.sendings) c.self.view_is
