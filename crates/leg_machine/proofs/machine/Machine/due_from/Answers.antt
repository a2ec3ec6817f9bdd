use Rattle.std.proofs.Common.{◌≡◌, ◌+◌, ◌<◌, ◌^◌, ◌-◌, min, false, sym, ap, subst, ◌∙◌, arith}
use Rattle.std.proofs.lemmas.List.{take_all}
use Rattle.seq_window.specs.HeldFrame.{held_of}
use Rattle.seq_window.specs.History.{acked_count, held}
use Rattle.leg_machine.specs.Leg.{leg_of}
use Rattle.leg_machine.specs.Ticks.{is_none_due}
use Rattle.leg_machine.proofs.Idle.{due_at, due_at-more, sending_of, none_before, some_then}
use Rattle.leg_machine.proofs.machine.Machine.due_from.Goals as goal

pub loop-place-preserved : goal.loop-place-preserved
loop-place-preserved c =
    let w = c.args.self.now.window.state in
    let h = held_of c.held_frame-sent.result in
    let more = due_at-more c.args.self.now.rules.retry_ms w.sendings c.loop-place.place
    (record { last = h.last; tries = h.tries })
    (sending_of (acked_count w.history) (held w.history) w.sendings c.loop-place.place h c.held_frame-sent.ensures.held) in
    c.min-first.ensures ∙ ap (min c.loop-place.first) c.saturating_add.ensures
    ∙ ap (λ n. min n (min (h.last + c.args.self.now.rules.retry_ms) (2 ^ 64 - 1))) c.loop-place.invariant ∙ sym more

all : (c : goal.After-loop-place) → c.loop-place.first ≡ due_at c.args.self.now.rules.retry_ms
    c.args.self.now.window.state.sendings
all c =
    let w = c.args.self.now.window.state in
    c.loop-place.invariant ∙ ap (due_at c.args.self.now.rules.retry_ms) (take_all c.loop-place.place w.sendings
    (omega (arith, c.held_len-place-end.ensures.value, c.loop-place-test.false)))

pub returns-clause-before : goal.returns-clause-before
returns-clause-before c = λ now before.
    none_before now c.args.self.now.rules.retry_ms c.args.self.now.window.state.sendings (omega (arith, all c, before))

pub returns-clause-then : goal.returns-clause-then
returns-clause-then c =
    subst (λ n. n + 1 < 2 ^ 64 → is_none_due (leg_of c.args.self.now) n ≡ false) (sym (all c))
    (some_then c.args.self.now.rules.retry_ms c.args.self.now.window.state.sendings)
