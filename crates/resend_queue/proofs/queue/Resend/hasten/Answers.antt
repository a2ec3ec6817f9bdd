use Rattle.std.proofs.Common.{ap, sym, ◌∙◌}
use Rattle.std.specs.Option.{option_copied_mut}
use Rattle.resend_queue.specs.Timing.{hastened}
use Rattle.resend_queue.proofs.Changes.{noted}
use Rattle.resend_queue.proofs.queue.Resend.hasten.Goals as goal

pub returns : goal.returns
returns g c =
    noted (hastened c.args.moment) c.args.place c.self.inside.ring.items c.self.inside.ring.capacity c.args.self.now _ _ c.self.view_is
    (sym c.get_mut.ensures.value ∙ ap option_copied_mut c.unwrap-held.ensures)
    (ap (λ n. record {
      number = c.unwrap-held.result.now.number;
      frame = c.unwrap-held.result.now.frame;
      last = c.args.moment;
      tries = n;
    }) c.saturating_sub-held.ensures)
