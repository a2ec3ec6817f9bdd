use Rattle.std.proofs.Common.{◌≡◌, None, sym, subst, arith}
use Rattle.std.proofs.lemmas.Option.{slice_get_past}
use Rattle.seq_window.specs.Window.{Window, held_at, held_frames}
use Rattle.seq_window.specs.WindowFields.{window_of}
use Rattle.seq_window.proofs.Sound.{held_frames_count}
use Rattle.seq_window.proofs.sliding_window.Window.held.Goals as goal

pub returns-else-place-len : goal.returns-else-place-len
returns-else-place-len c =
    subst (λ (w : Window). None ≡ held_at w.state c.args.place) c.self.view_is
    (sym (slice_get_past (held_frames (window_of c.self.inside).state) c.args.place
    (omega (arith, held_frames_count c.self.inside c.self.invariant, c.len.ensures.len))))
