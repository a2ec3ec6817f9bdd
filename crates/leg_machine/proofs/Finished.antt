-- The turns of a tick suffice for its tries.
use Rattle.std.specs.Prelude.{◌&&◌, nat_le, All}
use Rattle.std.specs.List.{position_from}
use Rattle.std.proofs.Common.{◌≡◌, ℕ, zero, suc, ◌+◌, ◌-◌, ◌≤◌, Bool, true, false, cond, List, [], ◌∷◌, ◌++◌, length, Option}
use Rattle.std.proofs.Common.{None, Some, ◌⊎◌, inl, inr, refl, sym, ap, subst, ◌∙◌, arith, add-zero, zero-add}
use Rattle.std.proofs.lemmas.Bool.Decides.{nat_tests}
use Rattle.std.proofs.lemmas.Iterator.Adapters.{position_from-zero}
use Rattle.std.proofs.lemmas.List.Elements.{All-nil, All-cons, All-push}
use Rattle.seq_window.specs.Window.{Sending, held_count, is_due, first_due, tries_at, mark_at, resent, resent_if}
use Rattle.seq_window.specs.declared.judgements.Resent.{Resent}
use Rattle.seq_window.specs.declared.judgements.Resent.TheVariants as resents
use Rattle.leg_machine.specs.Leg.{LegState, entered, failed, must_end, end_failure}
use Rattle.call_signals.specs.Stage.{is_ended}
use Rattle.leg_machine.specs.Ticks.{Tick, quiet, sends_if, must_hang_up, hang_up_step, must_ping, pinged, last_step, due_frames}
use Rattle.leg_machine.specs.Ticks.{tick_step}
use Rattle.leg_machine.specs.Tries.{Tried, tries, one_try, after_try, NoneDue, IsFinished}
use Rattle.call_signals.specs.declared.reply.ReplyFrame.TheVariants as replies
use Rattle.call_signals.specs.declared.rules.PeerRules.{PeerRules}
use Rattle.call_signals.specs.declared.stage.Stage.{Stage}
use Rattle.call_signals.specs.declared.stage.Stage.TheVariants as stages
use Rattle.leg_machine.proofs.Tied.{either, either_by}

-- the number of due frames
abbrev due : ℕ → ℕ → List Sending → ℕ
due now retry [] = 0
due now retry (s ∷ rest) = cond (is_due now retry s) (suc (due now retry rest)) (due now retry rest)

due-length : (now retry : ℕ) (sendings : List Sending) → due now retry sendings ≤ length sendings
due-length now retry [] = omega arith
due-length now retry (s ∷ rest) =
    either (λ n. n ≤ length (s ∷ rest)) (is_due now retry s) (suc (due now retry rest)) (due now retry rest)
    (omega (arith, due-length now retry rest)) (omega (arith, due-length now retry rest))

-- a frame sent now isn't due now
pub fresh : (now retry : ℕ) → 1 ≤ retry → (nat_le now now && nat_le retry (now - now)) ≡ false
fresh now retry some = grind (arith, nat_tests)

-- a further frame sent now
due-push : (now retry tries : ℕ) (sendings : List Sending) → 1 ≤ retry
    → let sending : Sending = record { last = now; tries = tries } in due now retry (sendings ++ sending ∷ []) ≡ due now retry
    sendings
due-push now retry tries [] some = ap (λ (b : Bool). cond b 1 0) (fresh now retry some)
due-push now retry tries (s ∷ rest) some = ap (λ n. cond (is_due now retry s) (suc n) n) (due-push now retry tries rest some)

-- none is due, or the first that is due is so no more once it is marked
abbrev Found : ℕ → ℕ → List Sending → Option ℕ → ℕ → Type 0
Found now retry sendings first start =
    ((first ≡ None) × (due now retry sendings ≡ 0))
    ⊎ ((place : ℕ) × (first ≡ Some (start + place)) × (suc (due now retry (mark_at place now sendings)) ≡ due now retry sendings))

found-further : (now retry : ℕ) (s : Sending) (rest : List Sending) (start : ℕ) → is_due now retry s ≡ false
    → Found now retry rest (position_from (is_due now retry) (start + 1) rest) (start + 1)
    → Found now retry (s ∷ rest) (position_from (is_due now retry) (start + 1) rest) start
found-further now retry s rest start late (inl none) =
    inl (none.0, ap (λ (b : Bool). cond b (suc (due now retry rest)) (due now retry rest)) late ∙ none.1)
found-further now retry s rest start late (inr (place, at, falls)) =
    let same : (n : ℕ) → cond (is_due now retry s) (suc n) n ≡ n = λ n. ap (λ (b : Bool). cond b (suc n) n) late in
    let further : (start + 1) + place ≡ start + suc place = omega arith in
    inr (
      suc place,
      at ∙ ap Some further,
      ap suc (same (due now retry (mark_at place now rest))) ∙ falls
          ∙ sym (same (due now retry rest)),
    )

found : (now retry : ℕ) (sendings : List Sending) (start : ℕ) → 1 ≤ retry
    → Found now retry sendings (position_from (is_due now retry) start sendings) start
found now retry [] start some = inl (refl, refl)
found now retry (s ∷ rest) start some =
    either_by (λ (first : Option ℕ). Found now retry (s ∷ rest) first start) (is_due now retry s) (Some start)
    (position_from (is_due now retry) (start + 1) rest)
    (λ due_now. inr (
      zero,
      ap Some (sym (add-zero start)),
      ap suc (ap (λ (b : Bool). cond b (suc (due now retry rest)) (due now retry rest)) (fresh now retry some))
          ∙ ap (λ (b : Bool). cond b (suc (due now retry rest)) (due now retry rest)) (sym due_now),
    ))
    (λ late. found-further now retry s rest start late (found now retry rest (start + 1) some))

none-due : (now retry : ℕ) (sendings : List Sending) → due now retry sendings ≡ 0 → All (λ s. is_due now retry s ≡ false) sendings
none-due now retry [] none = All-nil (λ (s : Sending). is_due now retry s ≡ false)
none-due now retry (s ∷ rest) none =
    either_by (λ n. n ≡ 0 → All (λ (s : Sending). is_due now retry s ≡ false) (s ∷ rest)) (is_due now retry s)
    (suc (due now retry rest)) (due now retry rest)
    (λ due_now e. absurd (omega arith))
    (λ late e. All-cons (λ (s : Sending). is_due now retry s ≡ false) s rest late (none-due now retry rest e))
    none

-- ---- the tries

-- one turn: nothing is due, a frame is spent, or one fewer is due afterwards
one-turn : (turns : ℕ) (leg : LegState) (now : ℕ) (first : Option ℕ) → Found now leg.rules.retry_ms leg.window.sendings first 0
    → ((place : ℕ) → suc (due now leg.rules.retry_ms (mark_at place now leg.window.sendings)) ≡ due now leg.rules.retry_ms
    leg.window.sendings
    → IsFinished (tries turns (after_try leg place now) now) now)
    → IsFinished (one_try (resent_if first leg.window leg.rules.max_retries) leg now (λ l. tries turns l now)) now
one-turn turns leg now first (inl none) later =
    subst (λ (f : Option ℕ). IsFinished (one_try (resent_if f leg.window leg.rules.max_retries) leg now (λ l. tries turns l now))
    now) (sym none.0)
    (inr (none-due now leg.rules.retry_ms leg.window.sendings none.1))
one-turn turns leg now first (inr (place, at, falls)) later =
    subst (λ (f : Option ℕ). IsFinished (one_try (resent_if f leg.window leg.rules.max_retries) leg now (λ l. tries turns l now))
    now)
    (sym (at ∙ ap Some (zero-add place)))
    (either (λ (r : Resent). IsFinished (one_try r leg now (λ l. tries turns l now)) now)
    (nat_le leg.rules.max_retries (tries_at place leg.window.sendings))
    resents.Spent (resents.Again place) (inl refl) (later place falls))

-- one turn for each due frame suffices
finishes : (turns : ℕ) (leg : LegState) (now : ℕ) → 1 ≤ leg.rules.retry_ms → due now leg.rules.retry_ms leg.window.sendings
    ≤ turns
    → IsFinished (tries turns leg now) now
finishes zero leg now some enough = inr (none-due now leg.rules.retry_ms leg.window.sendings (omega arith))
finishes (suc turns) leg now some enough =
    let retry = leg.rules.retry_ms in
    one-turn turns leg now (first_due now retry leg.window.sendings)
    (subst (λ (f : Option ℕ). Found now retry leg.window.sendings f 0)
    (sym (position_from-zero (is_due now retry) leg.window.sendings))
    (found now retry leg.window.sendings 0 some))
    (λ place falls. finishes turns (after_try leg place now) now some (omega (arith, falls)))

pub tries-finish : (leg : LegState) (now : ℕ) → 1 ≤ leg.rules.retry_ms → IsFinished (tries (held_count leg.window) leg now) now
tries-finish leg now some = finishes (held_count leg.window) leg now some (due-length now leg.rules.retry_ms leg.window.sendings)

-- ---- a tick

hung-finish : (grown : Bool) (leg : LegState) (now : ℕ) → 1 ≤ leg.rules.retry_ms
    → IsFinished (tries (held_count leg.window) (sends_if grown leg (entered leg stages.Closing now) now
    (replies.Hangup leg.cause)).leg now) now
hung-finish true leg now some =
    let hung = sends_if true leg (entered leg stages.Closing now) now (replies.Hangup leg.cause) in
    finishes (held_count leg.window) hung.leg now some
    (omega (
      arith,
      due-push now leg.rules.retry_ms 0 leg.window.sendings some,
      due-length now leg.rules.retry_ms
          leg.window.sendings,
    ))
hung-finish false leg now some = tries-finish leg now some

pub tick-tries-finish : (grown : Bool) (leg : LegState) (now : ℕ) → 1 ≤ leg.rules.retry_ms
    → IsFinished (tries (held_count leg.window) (hang_up_step grown leg now).leg now) now
tick-tries-finish grown leg now some =
    either (λ (hung : Tick). IsFinished (tries (held_count leg.window) hung.leg now) now) (must_hang_up leg)
    (sends_if grown leg (entered leg stages.Closing now) now (replies.Hangup leg.cause)) (quiet leg)
    (hung-finish grown leg now some) (tries-finish leg now some)

-- ended, or holding nothing that is due
abbrev EndedOrNoneDue : LegState → ℕ → Type 0
EndedOrNoneDue leg now = (leg.stage ≡ stages.Ended) ⊎ NoneDue leg now

rules-try : (r : Resent) (leg : LegState) (now : ℕ) (rest : LegState → Tried) → ((l : LegState) → (rest l).leg.rules ≡ l.rules)
    → (one_try r leg now rest).leg.rules ≡ leg.rules
rules-try resents.Nothing leg now rest kept = refl
rules-try resents.Spent leg now rest kept = refl
rules-try (resents.Again place) leg now rest kept = kept (after_try leg place now)

rules-tries : (turns : ℕ) (leg : LegState) (now : ℕ) → (tries turns leg now).leg.rules ≡ leg.rules
rules-tries zero leg now = refl
rules-tries (suc turns) leg now =
    rules-try (resent leg.window now leg.rules.retry_ms leg.rules.max_retries) leg now (λ l. tries turns l now)
    (λ l. rules-tries turns l now)

rules-hung : (grown : Bool) (leg : LegState) (now : ℕ) → (hang_up_step grown leg now).leg.rules ≡ leg.rules
rules-hung grown leg now =
    either (λ (hung : Tick). hung.leg.rules ≡ leg.rules) (must_hang_up leg)
    (sends_if grown leg (entered leg stages.Closing now) now (replies.Hangup leg.cause)) (quiet leg) (sent grown) refl
  where
    sent : (g : Bool) → (sends_if g leg (entered leg stages.Closing now) now (replies.Hangup leg.cause)).leg.rules ≡ leg.rules
    sent true = refl
    sent false = refl

-- a PING that is sent isn't due
ping-none : (grown : Bool) (leg : LegState) (now : ℕ) → 1 ≤ leg.rules.retry_ms → NoneDue leg now
    → NoneDue (sends_if grown leg (pinged leg now) now replies.Ping).leg now
ping-none true leg now some none =
    All-push (λ (s : Sending). is_due now leg.rules.retry_ms s ≡ false) leg.window.sendings (record { last = now; tries = 0 })
    none (fresh now leg.rules.retry_ms some)
ping-none false leg now some none = none

last-done : (grown spent : Bool) (leg : LegState) (now : ℕ) → 1 ≤ leg.rules.retry_ms → (spent ≡ true) ⊎ NoneDue leg now
    → EndedOrNoneDue (last_step grown spent leg now).leg now
last-done grown true leg now some done = inl refl
last-done grown false leg now some (inl spent) = cc
last-done grown false leg now some (inr none) =
    either (λ (t : Tick). EndedOrNoneDue t.leg now) (must_ping leg now) (sends_if grown leg (pinged leg now) now replies.Ping)
    (quiet leg)
    (inr (ping-none grown leg now some none)) (inr none)

due-done : (grown : Bool) (leg : LegState) (now : ℕ) → 1 ≤ leg.rules.retry_ms → EndedOrNoneDue (due_frames grown leg now).leg now
due-done grown leg now some =
    let hung = hang_up_step grown leg now in
    let tried = tries (held_count leg.window) hung.leg now in
    let same : tried.leg.rules ≡ leg.rules = rules-tries (held_count leg.window) hung.leg now ∙ rules-hung grown leg now in
    last-done grown tried.spent tried.leg now (subst (λ (r : PeerRules). 1 ≤ r.retry_ms) (sym same) some)
    (tick-tries-finish grown leg now some)

ended-is : (stage : Stage) → is_ended stage ≡ true → stage ≡ stages.Ended
ended-is stages.Ended over = refl
ended-is _ over = cc

pub tick-done : (grown : Bool) (leg : LegState) (now : ℕ) → 1 ≤ leg.rules.retry_ms → EndedOrNoneDue (tick_step grown leg now).leg
    now
tick-done grown leg now some =
    either_by (λ (t : Tick). EndedOrNoneDue t.leg now) (is_ended leg.stage) (quiet leg) _ (λ over. inl (ended-is leg.stage over))
    (λ on. either (λ (t : Tick). EndedOrNoneDue t.leg now) (must_end leg now) (quiet (failed leg (end_failure leg) now))
    (due_frames grown leg now)
    (inl refl) (due-done grown leg now some))
