use Rattle.std.proofs.Common.{refl}
use Rattle.resend_queue.specs.Timing as queue
use Rattle.seq_window.specs.Window.{touched}
use Rattle.seq_window.proofs.Kept.{touched_keeps, sendings-all_changed}
use Rattle.seq_window.proofs.Sound.{all_changed_sound}
use Rattle.seq_window.proofs.sliding_window.Window.touch_all.Goals as goal

pub invariant_of-self : goal.invariant_of-self
invariant_of-self c = all_changed_sound c.self.inside c.self.invariant (queue.touched c.args.now) (touched_keeps c.args.now)
    c.touch_all.new.self c.touch_all.ensures

pub returns-clause-state : goal.returns-clause-state
returns-clause-state c = rw (
  ← c.self.view_is,
  c.touch_all.ensures,
  sendings-all_changed (queue.touched c.args.now)
      (touched c.args.now) (λ h. refl) c.self.inside.held.held,
) refl
