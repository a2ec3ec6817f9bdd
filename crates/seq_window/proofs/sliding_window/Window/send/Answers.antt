use Rattle.std.proofs.Common.{◌≡◌, ℕ, ◌+◌, Result, Ok, Err, true, false, length, map, ap, ◌∙◌, refl, sym, subst, arith}
use Rattle.std.specs.Prelude.{OnOk, is_ok, nat_le}
use Rattle.resend_queue.specs.Queue.{Queue}
use Rattle.resend_queue.specs.declared.held_frame.Held.{Held}
use Rattle.seq_window.specs.Record.{RecordState, frame_of}
use Rattle.seq_window.specs.Window.{Window, entry_count, held_count, is_full}
use Rattle.seq_window.specs.WindowFields.{sending_of}
use Rattle.seq_window.proofs.Sound.{sent_sound, full_is, not_full_is}
use Rattle.seq_window.proofs.sliding_window.Window.send.Goals as goal

on_ok : {T E : Type 0} (r : Result T E) (P : Type 0) → is_ok r ≡ true → OnOk r P → P
on_ok (Ok x) P is holds = holds
on_ok (Err e) P is holds = cc

pub invariant_of-self-2 : goal.invariant_of-self-2
invariant_of-self-2 c =
    let free : c.free_entries.result + length c.self.inside.history.entries ≡ c.self.inside.limit
    = subst (λ (w : Window). c.free_entries.result + entry_count w.state ≡ w.state.limit) (sym c.self.view_is)
    c.free_entries.ensures in
    let one : Held ℕ = record { number = c.self.inside.next; frame = c.len-place.result; last = c.args.now; tries = 0 } in
    let room : nat_le c.self.inside.width (length (map sending_of c.self.inside.held.held)) ≡ false
    = ap (λ (w : Window). is_full w.state) c.self.view_is ∙ sym c.is_full.ensures ∙ c.if-is_full.false in
    let pushed = on_ok _ _ (sym c.is_ok-fits.ensures.value ∙ c.if-prove.false) c.push-pushed.ensures.ok in
    sent_sound c.self.inside c.self.invariant c.push.new.self c.push-pushed.new.self (frame_of c.args.frame) one
    (ap (λ (r : RecordState). r.entries) c.in-Ok.ensures.ok)
    (ap (λ (q : Queue ℕ). q.held) pushed) (ap (λ (q : Queue ℕ). q.width) pushed) refl c.len-place.ensures.len
    (not_full_is c.self.inside c.self.invariant room) (omega arith)

pub returns-then-is_full-clause-window_full : goal.returns-then-is_full-clause-window_full
returns-then-is_full-clause-window_full c =
    let full : nat_le c.self.inside.width (length (map sending_of c.self.inside.held.held)) ≡ true
    = ap (λ (w : Window). is_full w.state) c.self.view_is ∙ sym c.is_full.ensures ∙ c.if-is_full.true in
    let is : held_count c.args.self.now.state ≡ c.args.self.now.state.width
    = subst (λ (w : Window). held_count w.state ≡ w.state.width) c.self.view_is (full_is c.self.inside c.self.invariant full) in
    (λ _. is, λ _. refl)
