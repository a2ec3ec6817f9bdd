use Rattle.std.proofs.Common.{◌≡◌, ℕ, ◌+◌, length, ◌∙◌, sym, ap, subst, arith}
use Rattle.std.proofs.lemmas.List.{drop-map}
use Rattle.resend_queue.specs.Queue.{Queue}
use Rattle.seq_window.specs.declared.judgements.Acknowledged.TheVariants.{Acked}
use Rattle.seq_window.specs.Record.{RecordState}
use Rattle.seq_window.specs.Window.{Window, entry_count, judged_acknowledgement, after_acknowledgement}
use Rattle.seq_window.specs.WindowFields.{window_of}
use Rattle.seq_window.proofs.Sound.{count_held, acked_sound, counted}
use Rattle.seq_window.proofs.sliding_window.Window.acknowledge.Goals as goal

pub drop_front-requires : goal.drop_front-requires
drop_front-requires c =
    count_held c.self.inside c.self.invariant c.args.iseq c.in-Acked.count
    (c.in-Acked.ensures ∙ ap (λ (w : Window). judged_acknowledgement w.state.history c.args.iseq) (sym c.self.view_is))

pub invariant_of-self-2 : goal.invariant_of-self-2
invariant_of-self-2 c =
    let free : c.free_entries.result + length c.self.inside.history.entries ≡ c.self.inside.limit
    = subst (λ (w : Window). c.free_entries.result + entry_count w.state ≡ w.state.limit) (sym c.self.view_is)
    c.free_entries.ensures in
    acked_sound c.self.inside c.self.invariant c.push.new.self c.drop_front.new.self c.args.iseq c.in-Acked.count
    (ap (λ (r : RecordState). r.entries) c.in-Ok.ensures.ok)
    (ap (λ (q : Queue ℕ). q.held) c.drop_front.ensures) (ap (λ (q : Queue ℕ). q.width) c.drop_front.ensures) (omega arith)
    (omega arith)
    (c.in-Acked.ensures ∙ ap (λ (w : Window). judged_acknowledgement w.state.history c.args.iseq) (sym c.self.view_is))
    (omega arith)

pub returns-clause-state : goal.returns-clause-state
returns-clause-state c =
    let judged : Acked c.in-Acked.count ≡ judged_acknowledgement c.self.inside.history.entries c.args.iseq
    = c.in-Acked.ensures ∙ ap (λ (w : Window). judged_acknowledgement w.state.history c.args.iseq) (sym c.self.view_is) in
    rw (c.in-Ok.ensures.ok, c.drop_front.ensures, ← drop-map)
    (counted (window_of c.self.inside).state c.args.iseq c.in-Acked.count judged (omega arith)
    ∙ ap (λ (w : Window). after_acknowledgement w.state c.args.iseq) c.self.view_is)
