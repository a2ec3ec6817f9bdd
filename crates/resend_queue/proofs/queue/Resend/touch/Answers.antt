use Rattle.std.proofs.Common.{ap, sym, refl, ◌∙◌}
use Rattle.std.specs.Option.{option_copied_mut}
use Rattle.resend_queue.specs.Timing.{touched}
use Rattle.resend_queue.proofs.Changes.{noted}
use Rattle.resend_queue.proofs.queue.Resend.touch.Goals as goal

pub returns : goal.returns
returns g c =
    noted (touched c.args.now) c.args.place c.self.inside.ring.items c.self.inside.ring.capacity c.args.self.now _ _
    c.self.view_is
    (sym c.get_mut.ensures.value ∙ ap option_copied_mut c.unwrap.ensures) refl
