-- When a gap is answered.
use Rattle.std.specs.Prelude.{◌&&◌}
use Rattle.std.proofs.Common.{◌≡◌, ◌≢◌, ℕ, Bool, true, cond, List, [], ◌∷◌, length, Option, None, Some, refl, ap, ◌∙◌, arith}
use Rattle.std.proofs.lemmas.Bool.Decides.{nat_tests}
use Rattle.iax_frames.specs.FullFrame.{FullFrame}
use Rattle.iax_frames.specs.declared.stored_frame.Frame.{Frame}
use Rattle.seq_window.specs.History.{taken_count}
use Rattle.seq_window.specs.declared.judgements.Received.{Received}
use Rattle.seq_window.specs.declared.judgements.Received.TheVariants as received
use Rattle.seq_window.specs.Window.{is_full, judged_number, judged_acknowledgement}
use Rattle.leg_machine.specs.Effects.{is_reply}
use Rattle.leg_machine.specs.LegTable.{effect_of}
use Rattle.leg_machine.specs.Leg.{LegState}
use Rattle.leg_machine.specs.Replies.{vnak}
use Rattle.leg_machine.specs.Steps.{Step, full_step, nothing_sent, asking, not_asking, judged_step, taken, replied, answered}
use Rattle.leg_machine.specs.Steps.{no_room, prepared, numbered_step}
use Rattle.leg_machine.specs.Working.{is_past, wants_vnak}
use Rattle.call_signals.specs.Message.{message_of, is_numbered}
use Rattle.call_signals.specs.declared.effects.Answering.{Answering}
use Rattle.call_signals.specs.declared.effects.Answering.TheVariants.{Acknowledged, Answered, Silent}
use Rattle.call_signals.specs.declared.message.Message.{Message}
use Rattle.leg_machine.proofs.Tied.{either, of-full-step, of-vnak-step, Begins, begins-itself, begins-prepared, same-taken}

-- ---- without `vnak_ms`

always-past : (now : ℕ) (moment : Option ℕ) → is_past 0 now moment ≡ true
always-past now None = refl
always-past now (Some moment) = grind (arith, nat_tests)

pub each-answered : (leg : LegState) (frame : FullFrame) (message : Message) (now : ℕ) → leg.rules.vnak_ms ≡ 0
    → (judged_step received.Gap leg frame message now).replies ≡ vnak leg frame ∷ []
each-answered leg frame message now none =
    ap (λ (b : Bool). (cond b (asking leg frame now) (not_asking leg)).replies)
    (ap (λ (least : ℕ). is_past least now leg.vnak_sent) none ∙ always-past now leg.vnak_sent)

-- ---- another number is expected

-- a leg that expects another number has no VNAK that asked for it
abbrev AsksAnew : LegState → Step → Type 0
AsksAnew leg s = taken_count s.leg.window.history ≢ taken_count leg.window.history → s.leg.vnak_sent ≡ None

replied-anew : (leg : LegState) (now : ℕ) (answer : Answering) → leg.vnak_sent ≡ None → (replied leg now answer).vnak_sent ≡ None
replied-anew leg now (Answered reply) none = none
replied-anew leg now Acknowledged none = none
replied-anew leg now Silent none = none

same-count : (leg : LegState) (frame : FullFrame) (mid : LegState) → Begins leg frame mid
    → taken_count mid.window.history ≡ taken_count leg.window.history
same-count leg frame mid begins = ap (λ (fs : List Frame). length fs) (same-taken leg frame mid begins)

judged-anew : (r : Received) (leg : LegState) (frame : FullFrame) (mid : LegState) → Begins leg frame mid
    → (message : Message) (now : ℕ) → AsksAnew leg (judged_step r mid frame message now)
judged-anew received.Taken leg frame mid begins message now =
    let effect = effect_of mid frame message in
    either (AsksAnew leg) (is_reply effect.answer && is_full mid.window) (no_room mid)
    (answered effect.answer (taken effect mid frame message now) frame now effect.signal)
    (λ other. absurd (other (same-count leg frame mid begins)))
    (λ other. replied-anew (taken effect mid frame message now) now effect.answer refl)
judged-anew received.Repeat leg frame mid begins message now =
    λ other. absurd (other (same-count leg frame mid begins))
judged-anew received.Gap leg frame mid begins message now =
    either (AsksAnew leg) (wants_vnak mid now) (asking mid frame now) (not_asking mid)
    (λ other. absurd (other (same-count leg frame mid begins))) (λ other. absurd (other (same-count leg frame mid begins)))

numbered-anew : (leg : LegState) (frame : FullFrame) (mid : LegState) → Begins leg frame mid → (now : ℕ)
    → AsksAnew leg (numbered_step mid frame (message_of frame.head) now)
numbered-anew leg frame mid begins now =
    let message = message_of frame.head in
    let judged = judged_number mid.window.history frame.head.oseqno in
    either (AsksAnew leg) (is_numbered message) (judged_step judged mid frame message now) (nothing_sent mid)
    (judged-anew judged leg frame mid begins message now) (λ ne. absurd (ne (same-count leg frame mid begins)))

pub full-anew : (leg : LegState) (frame : FullFrame) (now : ℕ) → AsksAnew leg (full_step leg frame now)
full-anew leg frame now =
    let mid = prepared leg frame in
    let begins = begins-prepared leg frame in
    let counted = judged_acknowledgement leg.window.history frame.head.iseqno in
    of-full-step (AsksAnew leg) leg frame now (λ ne. absurd (ne refl)) (λ ne. absurd (ne refl))
    (numbered-anew leg frame leg (begins-itself leg frame) now)
    (of-vnak-step (AsksAnew leg) counted mid frame.head.iseqno now (λ ne. absurd (ne (same-count leg frame mid begins)))
    (λ ne. absurd (ne (same-count leg frame mid begins)))
    (λ ne. absurd (ne (same-count leg frame mid begins))))
    (numbered-anew leg frame mid begins now)
