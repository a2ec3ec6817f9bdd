use Rattle.std.proofs.Common.{◌≡◌, ◌+◌, subst, arith}
use Rattle.seq_window.specs.History.{acked_count, sent_count}
use Rattle.seq_window.specs.Window.{Window}
use Rattle.seq_window.proofs.Sound.{held_is}
use Rattle.seq_window.proofs.sliding_window.Window.held_len.Goals as goal

pub returns-clause-held : goal.returns-clause-held
returns-clause-held c =
    subst (λ (w : Window). c.len.result + acked_count w.state.history ≡ sent_count w.state.history) c.self.view_is
    (omega (arith, held_is c.self.inside c.self.invariant, c.len.ensures.len))
