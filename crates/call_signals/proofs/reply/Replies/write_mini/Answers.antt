use Rattle.iax_frames.specs.declared.datagram.Datagram.TheVariants.{Mini}
use Rattle.call_signals.proofs.reply.Replies.write_mini.Goals as goal

pub put-requires-clause-frame : goal.put-requires-clause-frame
put-requires-clause-frame c = (
  Mini (record { source = c.args.number; timestamp = c.args.timestamp; media = c.args.media.now }),
  c.mini_head.ensures.spelled c.requires.some c.args.media.now,
)
