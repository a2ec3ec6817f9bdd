use Rattle.std.proofs.Common.{◌≡◌, ◌++◌, take, drop, map}
use Rattle.resend_queue.specs.Timing.{touched}
use Rattle.resend_queue.proofs.queue.Resend.touch_all.Given as goal

-- the front is touched
abbrev pub invariant-loop-place : goal.invariant-loop-place
invariant-loop-place g l =
    l.self ≡ record {
      held = map (touched l.now) (take l.place l.initial.self.held) ++ drop l.place l.initial.self.held;
      width = l.initial.self.width;
    }
