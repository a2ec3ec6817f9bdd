use Rattle.std.proofs.Common.{◌≡◌, Some, ◌∙◌, ap, sym, subst, slice_get}
use Rattle.std.specs.Prelude.{option_copied}
use Rattle.seq_window.specs.Entry.{Sent}
use Rattle.seq_window.specs.Record.{IsSent, frame_of}
use Rattle.seq_window.specs.Window.{Window, held_at, held_frames}
use Rattle.seq_window.specs.WindowFields.{window_of}
use Rattle.seq_window.proofs.Kept.{LiesAt, lies_as}
use Rattle.seq_window.proofs.Sound.{lies_at}
use Rattle.seq_window.proofs.sliding_window.Window.held_frame.Goals as goal

pub sent_frame-requires : goal.sent_frame-requires
sent_frame-requires c =
    let at : slice_get c.self.inside.held.held c.args.place ≡ Some c.unwrap-held.result.now = sym c.get.ensures ∙ ap option_copied
    c.unwrap-held.ensures in
    let lies : LiesAt c.self.inside.history.entries (held_frames (window_of c.self.inside).state) c.args.place
    c.unwrap-held.result.now
    = lies_at c.self.inside c.self.invariant c.args.place c.unwrap-held.result.now at in
    subst IsSent (sym lies.entry) tt

pub returns-clause-held : goal.returns-clause-held
returns-clause-held c =
    let at : slice_get c.self.inside.held.held c.args.place ≡ Some c.unwrap-held.result.now = sym c.get.ensures ∙ ap option_copied
    c.unwrap-held.ensures in
    let lies : LiesAt c.self.inside.history.entries (held_frames (window_of c.self.inside).state) c.args.place
    c.unwrap-held.result.now
    = lies_at c.self.inside c.self.invariant c.args.place c.unwrap-held.result.now at in
    let both : Some (Sent lies.frame) ≡ Some (Sent (frame_of c.sent_frame.result)) =
    sym lies.entry ∙ c.sent_frame.ensures.entry in
    let same : lies.frame ≡ frame_of c.sent_frame.result = cc in
    subst (λ (w : Window). held_at w.state c.args.place ≡ Some (lies_as c.unwrap-held.result.now (frame_of c.sent_frame.result)))
    c.self.view_is
    (lies.held ∙ ap (λ f. Some (lies_as c.unwrap-held.result.now f)) same)
