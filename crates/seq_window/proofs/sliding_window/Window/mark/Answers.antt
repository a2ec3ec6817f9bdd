use Rattle.std.proofs.Common.{ap, refl, ◌∙◌}
use Rattle.resend_queue.specs.Timing as queue
use Rattle.seq_window.specs.Window.{held_count, marked}
use Rattle.seq_window.proofs.Kept.{marked_keeps, sendings-changed, length-change_at}
use Rattle.seq_window.proofs.Sound.{changed_sound}
use Rattle.seq_window.proofs.sliding_window.Window.mark.Goals as goal

pub invariant_of-self : goal.invariant_of-self
invariant_of-self c = changed_sound c.self.inside c.self.invariant (queue.marked c.args.now) (marked_keeps c.args.now)
    c.mark.new.self c.args.place c.mark.ensures

pub returns-clause-state : goal.returns-clause-state
returns-clause-state c = rw (
  ← c.self.view_is,
  c.mark.ensures,
  sendings-changed (queue.marked c.args.now) (marked c.args.now)
      (λ h. refl) c.args.place c.self.inside.held.held,
) refl

pub returns-clause-count : goal.returns-clause-count
returns-clause-count c =
    ap held_count (returns-clause-state c) ∙ length-change_at (marked c.args.now) c.args.place c.args.self.now.state.sendings
