use Rattle.std.proofs.Common.{refl}
use Rattle.resend_queue.specs.Timing as queue
use Rattle.seq_window.specs.Window.{hastened}
use Rattle.seq_window.proofs.Kept.{hastened_keeps, sendings-changed}
use Rattle.seq_window.proofs.Sound.{changed_sound}
use Rattle.seq_window.proofs.sliding_window.Window.hasten.Goals as goal

pub invariant_of-self : goal.invariant_of-self
invariant_of-self c = changed_sound c.self.inside c.self.invariant (queue.hastened c.args.moment) (hastened_keeps c.args.moment)
    c.hasten.new.self c.args.place c.hasten.ensures

pub returns-clause-state : goal.returns-clause-state
returns-clause-state c = rw (
  ← c.self.view_is,
  c.hasten.ensures,
  sendings-changed (queue.hastened c.args.moment) (hastened c.args.moment)
      (λ h. refl) c.args.place c.self.inside.held.held,
) refl
