use Rattle.std.proofs.Common.{◌≡◌, ◌+◌, length, ap, sym, subst, arith}
use Rattle.seq_window.specs.Record.{RecordState, frame_of}
use Rattle.seq_window.specs.Window.{Window, entry_count}
use Rattle.seq_window.proofs.Sound.{taken_sound}
use Rattle.seq_window.proofs.sliding_window.Window.receive.Goals as goal

pub invariant_of-self-2 : goal.invariant_of-self-2
invariant_of-self-2 c =
    let free : c.free_entries.result + length c.self.inside.history.entries ≡ c.self.inside.limit
    = subst (λ (w : Window). c.free_entries.result + entry_count w.state ≡ w.state.limit) (sym c.self.view_is)
    c.free_entries.ensures in
    taken_sound c.self.inside c.self.invariant c.push.new.self (frame_of c.args.frame)
    (ap (λ (r : RecordState). r.entries) c.in-Ok.ensures.ok) (omega arith)
