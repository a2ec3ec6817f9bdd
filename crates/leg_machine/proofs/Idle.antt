-- Idle legs, and the moment until which a leg is idle.
use Rattle.std.specs.Prelude.{◌||◌, ◌&&◌, not, is_none}
use Rattle.std.specs.List.{position_from}
use Rattle.std.proofs.Common.{◌≡◌, ◌≢◌, ℕ, zero, suc, ◌+◌, ◌-◌, ◌^◌, ◌<◌, min, Bool, true, false, cond, List, [], ◌∷◌, ◌++◌, take}
use Rattle.std.proofs.Common.{Option, None, Some, slice_get, refl, sym, ap, ◌∙◌, arith}
use Rattle.std.proofs.lemmas.Bool.Decides.{nat_tests}
use Rattle.std.proofs.lemmas.Iterator.Adapters.{position_from-zero}
use Rattle.iax_frames.specs.declared.stored_frame.Frame.{Frame}
use Rattle.resend_queue.specs.declared.held_frame.Held.{Held}
use Rattle.seq_window.specs.Sequence.{byte_of}
use Rattle.seq_window.specs.Window.{Sending, held_count, numbered_from, is_due, first_due, resent_if}
use Rattle.leg_machine.specs.Leg.{LegState, entered, failed, must_end, end_failure}
use Rattle.call_signals.specs.Stage.{is_ended}
use Rattle.leg_machine.specs.Ticks.{Tick, quiet, sends_if, must_hang_up, must_ping, pinged, last_step, due_frames, tick_step}
use Rattle.leg_machine.specs.Ticks.{is_none_due, is_idle}
use Rattle.leg_machine.specs.Tries.{Tried, tried, tries, one_try}
use Rattle.call_signals.specs.declared.reply.ReplyFrame.TheVariants as replies
use Rattle.call_signals.specs.declared.stage.Stage.TheVariants as stages
use Rattle.leg_machine.proofs.Tied.{either_by}

-- the state of an idle leg that hasn't ended
record IsWaiting (short hangs none pings : Bool) : Type 0 where
  enough : short ≡ false
  stays : hangs ≡ false
  none_due : none ≡ true
  silent : pings ≡ false

waits : (ended short hangs none pings : Bool) → (ended || (not short && not hangs && none && not pings)) ≡ true → ended ≡ false
    → IsWaiting short hangs none pings
waits true short hangs none pings idle on = cc
waits false true hangs none pings idle on = cc
waits false false true none pings idle on = cc
waits false false false false pings idle on = cc
waits false false false true true idle on = cc
waits false false false true false idle on = record { enough = refl; stays = refl; none_due = refl; silent = refl }

none-is : {A : Type 0} (o : Option A) → is_none o ≡ true → o ≡ None
none-is None is = refl
none-is (Some a) is = cc

-- no try if none is due
no-tries : (turns : ℕ) (leg : LegState) (now : ℕ) → first_due now leg.rules.retry_ms leg.window.sendings ≡ None
    → tries turns leg now ≡ tried leg false
no-tries zero leg now none = refl
no-tries (suc turns) leg now none =
    ap (λ (first : Option ℕ). one_try (resent_if first leg.window leg.rules.max_retries) leg now (λ l. tries turns l now)) none

no-frames : (grown : Bool) (leg : LegState) (now : ℕ) → must_hang_up leg ≡ false
    → first_due now leg.rules.retry_ms leg.window.sendings ≡ None
    → must_ping leg now ≡ false → due_frames grown leg now ≡ quiet leg
no-frames grown leg now stays none silent =
    ap (λ (b : Bool). after (cond b (sends_if grown leg (entered leg stages.Closing now) now (replies.Hangup leg.cause))
    (quiet leg))) stays
    ∙ ap at_last (no-tries (held_count leg.window) leg now none)
    ∙ ap (λ (b : Bool). alone (cond b (sends_if grown leg (pinged leg now) now replies.Ping) (quiet leg))) silent
  where
    after : Tick → Tick
    after hung =
        let again = tries (held_count leg.window) hung.leg now in
        let last = last_step grown again.spent again.leg now in
        record { leg = last.leg; replies = hung.replies ++ again.replies ++ last.replies; skipped = hung.skipped + last.skipped }

    at_last : Tried → Tick
    at_last again =
        let last = last_step grown again.spent again.leg now in
        record { leg = last.leg; replies = again.replies ++ last.replies; skipped = 0 + last.skipped }

    alone : Tick → Tick
    alone last = record { leg = last.leg; replies = last.replies; skipped = 0 + last.skipped }

pub idle-stays : (grown : Bool) (leg : LegState) (now : ℕ) → is_idle leg now ≡ true → tick_step grown leg now ≡ quiet leg
idle-stays grown leg now idle =
    either_by (λ (t : Tick). t ≡ quiet leg) (is_ended leg.stage) (quiet leg) _ (λ over. refl)
    (λ on.
    let w = waits (is_ended leg.stage) (must_end leg now) (must_hang_up leg) (is_none_due leg now) (must_ping leg now) idle on in
    ap (λ (b : Bool). cond b (quiet (failed leg (end_failure leg) now)) (due_frames grown leg now)) w.enough
    ∙ no-frames grown leg now w.stays (none-is (first_due now leg.rules.retry_ms leg.window.sendings) w.none_due) w.silent)

-- ---- when a held frame is due

-- the first moment at which one of these is due, as far as 64 bits go
abbrev pub due_at : ℕ → List Sending → ℕ
due_at retry [] = 2 ^ 64 - 1
due_at retry (s ∷ rest) = min (min (s.last + retry) (2 ^ 64 - 1)) (due_at retry rest)

pub due_at-more : (retry : ℕ) (sendings : List Sending) (place : ℕ) (s : Sending) → slice_get sendings place ≡ Some s
    → due_at retry (take (place + 1) sendings) ≡ min (due_at retry (take place sendings)) (min (s.last + retry) (2 ^ 64 - 1))
due_at-more retry [] place s at = cc
due_at-more retry (t ∷ rest) zero s at = let same : t ≡ s = cc in rw same (omega arith)
due_at-more retry (t ∷ rest) (suc place) s at =
    let one : suc place + 1 ≡ suc (place + 1) = omega arith in
    rw one (omega (arith, due_at-more retry rest place s at))

-- the sending of a held frame
pub sending_of : (first : ℕ) (frames : List Frame) (sendings : List Sending) (place : ℕ) (held : Held Frame)
    → slice_get (numbered_from first frames sendings) place ≡ Some held
    → slice_get sendings place ≡ Some (record { last = held.last; tries = held.tries })
sending_of first [] sendings place held at = cc
sending_of first (frame ∷ frames) [] place held at = cc
sending_of first (frame ∷ frames) (s ∷ sendings) zero held at =
    let same : record { number = byte_of first; frame = frame; last = s.last; tries = s.tries } ≡ held = cc in
    ap (λ (h : Held Frame). Some (record { last = h.last; tries = h.tries })) same
sending_of first (frame ∷ frames) (s ∷ sendings) (suc place) held at = sending_of (first + 1) frames sendings place held at

late : (now retry : ℕ) (s : Sending) → now < s.last + retry → is_due now retry s ≡ false
late now retry s before = grind (arith, nat_tests)

due : (now retry : ℕ) (s : Sending) → now ≡ s.last + retry → is_due now retry s ≡ true
due now retry s then = grind (arith, nat_tests)

none_from : (now retry : ℕ) (sendings : List Sending) (start : ℕ) → now < due_at retry sendings
    → position_from (is_due now retry) start sendings ≡ None
none_from now retry [] start before = refl
none_from now retry (s ∷ rest) start before =
    ap (λ (b : Bool). cond b (Some start) (position_from (is_due now retry) (start + 1) rest)) (late now retry s (omega arith))
    ∙ none_from now retry rest (start + 1) (omega arith)

some_from : (now retry : ℕ) (sendings : List Sending) (start : ℕ) → now ≡ due_at retry sendings → now + 1 < 2 ^ 64
    → is_none (position_from (is_due now retry) start sendings) ≡ false
some_from now retry [] start then within = absurd (omega arith)
some_from now retry (s ∷ rest) start then within =
    either_by (λ (first : Option ℕ). is_none first ≡ false) (is_due now retry s) (Some start)
    (position_from (is_due now retry) (start + 1) rest) (λ _. refl)
    (λ not_due.
    let other : now ≢ s.last + retry = λ here. (let both : true ≡ false = sym (due now retry s here) ∙ not_due in cc) in
    some_from now retry rest (start + 1) (omega arith) within)

-- none of these is due before that moment
pub none_before : (now retry : ℕ) (sendings : List Sending) → now < due_at retry sendings → is_none (first_due now retry sendings)
    ≡ true
none_before now retry sendings before = ap is_none (position_from-zero (is_due now retry) sendings ∙ none_from now retry sendings
    0 before)

-- and then one is
pub some_then : (retry : ℕ) (sendings : List Sending) → due_at retry sendings + 1 < 2 ^ 64
    → is_none (first_due (due_at retry sendings) retry sendings) ≡ false
some_then retry sendings within =
    let now = due_at retry sendings in
    ap is_none (position_from-zero (is_due now retry) sendings) ∙ some_from now retry sendings 0 refl within
