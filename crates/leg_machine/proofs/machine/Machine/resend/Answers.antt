use Rattle.std.proofs.Common.{◌∙◌}
use Rattle.iax_frames.specs.FullFrame.{spelling}
use Rattle.seq_window.specs.Window.{held_frames}
use Rattle.leg_machine.specs.Replies.{sent_again}
use Rattle.leg_machine.specs.Leg.{leg_of}
use Rattle.leg_machine.proofs.Again.{map-after-map}
use Rattle.leg_machine.proofs.machine.Machine.resend.Goals as goal

pub returns-clause-replies : goal.returns-clause-replies
returns-clause-replies c =
    c.held_again.ensures ∙ map-after-map (sent_again (leg_of c.args.self.now)) spelling (held_frames c.args.self.now.window.state)
