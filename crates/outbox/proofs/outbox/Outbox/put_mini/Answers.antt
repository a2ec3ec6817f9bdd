use Rattle.iax_frames.specs.declared.datagram.Datagram.TheVariants.{Mini}
use Rattle.outbox.proofs.outbox.Outbox.put_mini.Goals as goal

pub put_in_two-requires-clause-frame : goal.put_in_two-requires-clause-frame
put_in_two-requires-clause-frame c = (
  Mini (record { source = c.args.number; timestamp = c.args.timestamp; media = c.args.media.now }),
  c.mini_head.ensures.spelled c.requires.some c.args.media.now,
)
