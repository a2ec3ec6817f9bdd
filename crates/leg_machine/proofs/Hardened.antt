-- The steps of legs that are hardened against their peers, and of legs that aren't.
use Rattle.std.specs.Prelude.{◌&&◌, ◌||◌, not, min, map, option_map, is_some}
use Rattle.std.proofs.Common.{◌≡◌, ◌≤◌, ℕ, ◌++◌, Bool, true, false, cond, length, Option, None, Some, refl, sym, ap, subst, arith}
use Rattle.std.proofs.Common.{length-append}
use Rattle.std.specs.Option.{option_to_list}
use Rattle.iax_frames.specs.FullFrame.{FullFrame}
use Rattle.seq_window.specs.Window.{held_at, held_frames, judged_number}
use Rattle.leg_machine.specs.Leg.{LegState, is_record_full}
use Rattle.leg_machine.specs.OrderTable.{refuses_digits}
use Rattle.leg_machine.specs.Replies.{sent_again}
use Rattle.leg_machine.specs.Steps.{Step, full_step, handled_step, message_step, numbered_step, judged_step, answer_step}
use Rattle.leg_machine.specs.Steps.{oldest_step, resend_step, inval_step, invalidated, nothing_sent}
use Rattle.leg_machine.specs.Tries.{frames_again}
use Rattle.leg_machine.specs.Working.{is_repetition, is_soon, brings_nothing, brings_oldest, vnak_noted, names_leg, heeds_inval}
use Rattle.leg_machine.specs.Working.{is_unanswered, is_unaddressed, is_stray, is_early, has_acknowledged, refusal, frame_refused}
use Rattle.call_signals.specs.Message.{message_of, is_inval, is_numbered, answers_new}
use Rattle.call_signals.specs.Stage.{is_waiting}
use Rattle.call_signals.specs.declared.message.Message.{Message}
use Rattle.call_signals.specs.declared.message.Message.TheVariants as messages
use Rattle.call_signals.specs.declared.outcomes.StepError.{StepError}
use Rattle.call_signals.specs.declared.outcomes.StepError.TheVariants as errors
use Rattle.call_signals.specs.declared.stage.Stage.TheVariants as stages
use Rattle.leg_machine.proofs.Tied.{either}

-- ---- refusals

-- no refusal by the frame is for want of memory
pub never-memory : (leg : LegState) (frame : FullFrame) → frame_refused leg frame ≡ Some errors.Memory → ⊥
never-memory leg frame =
    let P : Option StepError → Type 0 = λ o. o ≡ Some errors.Memory → ⊥ in
    either P (is_record_full leg) (Some errors.RecordFull) (refusal leg frame) (λ e. cc)
    (either P (is_stray leg frame) (Some errors.Unaddressed) (cond (is_early leg frame) (Some errors.NewUnacknowledged) None)
    (λ e. cc)
    (either P (is_early leg frame) (Some errors.NewUnacknowledged) None (λ e. cc) (λ e. cc)))

unrefused : (full : Bool) (r : Option StepError) → cond full (Some errors.RecordFull) r ≡ None → r ≡ None
unrefused true r e = cc
unrefused false r e = e

-- a frame that isn't refused is handled
pub unrefused-handled : (leg : LegState) (frame : FullFrame) (now : ℕ) → frame_refused leg frame ≡ None
    → handled_step leg frame now ≡ full_step leg frame now
unrefused-handled leg frame now none =
    ap (λ (o : Option StepError). cond (is_some o) (nothing_sent leg) (handled_step leg frame now))
    (sym (unrefused (is_record_full leg) (refusal leg frame) none))

pub soft-handled : (leg : LegState) (frame : FullFrame) (now : ℕ) → leg.rules.is_hardened ≡ false
    → (refusal leg frame ≡ None) × (full_step leg frame now ≡ message_step (message_of frame.head) leg frame now)
soft-handled leg frame now soft = (rw soft refl, rw soft refl)

-- ---- VNAK

one-at-most : (o : Option FullFrame) → length (option_to_list o) ≤ 1
one-at-most None = omega arith
one-at-most (Some frame) = omega arith

pub repetition-brings-nothing : (leg : LegState) (number now : ℕ) → leg.rules.is_hardened ≡ true
    → is_repetition leg.vnak_answered number now (min leg.rules.retry_ms 10) ≡ true
    → answer_step leg number now ≡ nothing_sent leg
repetition-brings-nothing leg number now hardened repeats = rw (hardened, repeats) refl

two-at-most : (leg : LegState) → length (frames_again leg 0 ++ frames_again leg 1) ≤ 2
two-at-most leg =
    omega (
      arith,
      length-append (frames_again leg 0) (frames_again leg 1),
      one-at-most (option_map (sent_again leg) (held_at leg.window 0)),
      one-at-most (option_map (sent_again leg) (held_at leg.window 1)),
    )

and-true : (a b : Bool) → a ≡ true → b ≡ true → (a && b) ≡ true
and-true true true e f = refl
and-true true false e f = cc
and-true false b e f = cc

pub soon-brings-two : (leg : LegState) (number now : ℕ) → leg.rules.is_hardened ≡ true
    → is_soon leg.vnak_answered now 100 ≡ true → length (answer_step leg number now).replies ≤ 2
soon-brings-two leg number now hardened soon =
    let noted = vnak_noted leg number now in
    let P : Step → Type 0 = λ s. length s.replies ≤ 2 in
    either P (brings_nothing leg number now) (nothing_sent leg)
    (cond (brings_oldest leg now) (oldest_step noted now) (resend_step noted now)) (omega arith)
    (subst (λ (b : Bool). P (cond b (oldest_step noted now) (resend_step noted now)))
    (sym (and-true leg.rules.is_hardened (is_soon leg.vnak_answered now 100) hardened soon)) (two-at-most noted))

pub all-brought : (leg : LegState) (number now : ℕ) → leg.rules.is_hardened ≡ false
    → (answer_step leg number now).replies ≡ map (sent_again leg) (held_frames leg.window)
all-brought leg number now soft = rw soft refl

-- ---- INVAL

-- an INVAL isn't numbered
inval-unnumbered : (message : Message) → is_inval message ≡ true → is_numbered message ≡ false
inval-unnumbered messages.Inval e = refl
inval-unnumbered _ e = cc

-- an INVAL that the leg doesn't heed changes nothing
unheeded : (leg : LegState) (frame : FullFrame) (now : ℕ) → is_inval (message_of frame.head) ≡ true
    → heeds_inval leg frame ≡ false → full_step leg frame now ≡ nothing_sent leg
unheeded leg frame now inval fails =
    let P : Step → Type 0 = λ s. s ≡ nothing_sent leg in
    let message = message_of frame.head in
    let bare = inval-unnumbered message inval in
    either P (is_some (refusal leg frame)) (nothing_sent leg) (handled_step leg frame now) refl
    (either P (is_unaddressed leg frame) (numbered_step leg frame message now) (message_step message leg frame now)
    (ap (λ (b : Bool). cond b (judged_step (judged_number leg.window.history frame.head.oseqno) leg frame message now)
    (nothing_sent leg)) bare)
    (rw (inval, fails) refl))

-- it doesn't heed one that doesn't name it, or comes before any answer
unnamed-fails : (hardened names unanswered : Bool) → hardened ≡ true → names ≡ false
    → (not hardened || (names && not unanswered)) ≡ false
unnamed-fails true false unanswered e f = refl
unnamed-fails true true unanswered e f = cc
unnamed-fails false names unanswered e f = cc

unanswered-fails : (hardened names unanswered : Bool) → hardened ≡ true → unanswered ≡ true
    → (not hardened || (names && not unanswered)) ≡ false
unanswered-fails true true true e f = refl
unanswered-fails true false true e f = refl
unanswered-fails true names false e f = cc
unanswered-fails false names unanswered e f = cc

pub inval-ignored : (leg : LegState) (frame : FullFrame) (now : ℕ) → leg.rules.is_hardened ≡ true
    → is_inval (message_of frame.head) ≡ true
    → names_leg leg frame ≡ false → full_step leg frame now ≡ nothing_sent leg
inval-ignored leg frame now hardened inval others =
    unheeded leg frame now inval
    (unnamed-fails leg.rules.is_hardened (names_leg leg frame) (is_unanswered leg) hardened others)

pub inval-unanswered : (leg : LegState) (frame : FullFrame) (now : ℕ) → leg.rules.is_hardened ≡ true
    → is_inval (message_of frame.head) ≡ true
    → is_unanswered leg ≡ true → full_step leg frame now ≡ nothing_sent leg
inval-unanswered leg frame now hardened inval none =
    unheeded leg frame now inval
    (unanswered-fails leg.rules.is_hardened (names_leg leg frame) (is_unanswered leg) hardened none)

pub inval-heeded : (leg : LegState) (frame : FullFrame) (now : ℕ) → leg.rules.is_hardened ≡ false
    → inval_step leg frame now ≡ invalidated leg now
inval-heeded leg frame now soft = rw soft refl

-- ---- answers to a NEW

early-refused : (stray : Bool) (early : Bool) (leg : LegState) (rest : Step) → early ≡ true
    → cond (is_some (cond stray (Some errors.Unaddressed) (cond early (Some errors.NewUnacknowledged) None)))
    (nothing_sent leg) rest ≡ nothing_sent leg
early-refused true early leg rest e = refl
early-refused false true leg rest e = refl
early-refused false false leg rest e = cc

four : (a b c d : Bool) → a ≡ true → b ≡ true → c ≡ true → d ≡ false → (a && b && c && not d) ≡ true
four true true true false e f g h = refl
four true true true true e f g h = cc
four true true false d e f g h = cc
four true false c d e f g h = cc
four false b c d e f g h = cc

pub early-changes-nothing : (leg : LegState) (frame : FullFrame) (now : ℕ) → leg.rules.is_hardened ≡ true
    → leg.stage ≡ stages.Waiting → answers_new (message_of frame.head) ≡ true → has_acknowledged leg frame ≡ false
    → full_step leg frame now ≡ nothing_sent leg
early-changes-nothing leg frame now hardened waits answers none =
    early-refused (is_stray leg frame) (is_early leg frame) leg (handled_step leg frame now)
    (four leg.rules.is_hardened (is_waiting leg.stage) (answers_new (message_of frame.head)) (has_acknowledged leg frame)
    hardened (ap is_waiting waits) answers none)

-- ---- digits

pub digits-taken : (leg : LegState) → leg.rules.is_hardened ≡ false → refuses_digits leg ≡ false
digits-taken leg soft = rw soft refl
