use Rattle.std.proofs.Common.{◌<◌, length, ◌∙◌, refl, arith}
use Rattle.resend_queue.specs.Timing.{touched}
use Rattle.resend_queue.proofs.Changes.{changed_front}
use Rattle.resend_queue.proofs.queue.Resend.touch_all.Goals as goal

pub loop-place-preserved : goal.loop-place-preserved
loop-place-preserved g c =
    let hs = c.args.self.now.held in
    let within : c.loop-place.place < length hs = omega (arith, c.loop-place-test.true, c.len-place-end.ensures.len) in
    c.touch.ensures ∙ rw (c.loop-place.invariant, changed_front (touched c.args.now) c.loop-place.place hs within) refl
