use Rattle.std.proofs.Common.{sym}
use Rattle.seq_window.specs.HeldFrame.{held_of}
use Rattle.seq_window.proofs.Kept.{tries_at-held}
use Rattle.seq_window.proofs.sliding_window.Window.tries.Goals as goal

pub returns : goal.returns
returns c = sym (tries_at-held _ _ c.args.self.now.state.sendings c.args.place (held_of c.held_frame.result)
    c.held_frame.ensures.held)
