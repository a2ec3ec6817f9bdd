-- The number of frames that a tick skipped shows whether it had memory.
use Rattle.std.specs.Prelude.{◌&&◌, nat_lt, map, All}
use Rattle.std.proofs.Common.{◌≡◌, ℕ, zero, suc, ◌+◌, ◌<◌, ◌≤◌, Bool, true, false, cond, eqb, List, [], ◌∷◌, ◌++◌, length, ◌⊎◌}
use Rattle.std.proofs.Common.{inl, inr, refl, sym, ap, subst, ◌∙◌, arith}
use Rattle.iax_frames.specs.FullFrame.{spelling}
use Rattle.std.proofs.lemmas.Bool.Decides.{nat_tests}
use Rattle.seq_window.specs.Window.{Sending, held_count, mark_at, resent}
use Rattle.seq_window.specs.declared.judgements.Resent.{Resent}
use Rattle.seq_window.specs.declared.judgements.Resent.TheVariants as resents
use Rattle.leg_machine.specs.Leg.{Leg, LegState, capacity_of, entered, failed, local_room, must_end, end_failure}
use Rattle.leg_machine.specs.Seen.{seen as seen_leg, IsSeenTick}
use Rattle.call_signals.specs.Stage.{is_ended, is_talking}
use Rattle.leg_machine.specs.Ticks.{Tick, quiet, sends_if, must_hang_up, must_ping, pinged, is_ping_time, last_step, due_frames}
use Rattle.leg_machine.specs.Ticks.{tick_step}
use Rattle.leg_machine.specs.Tries.{Tried, tries, one_try, after_try}
use Rattle.call_signals.specs.declared.reply.ReplyFrame.TheVariants as replies
use Rattle.call_signals.specs.declared.stage.Stage.TheVariants as stages
use Rattle.leg_machine.specs.Tie.{SendsAtMostOne, SendsNumbered, IsSending}
use Rattle.leg_machine.proofs.SeenTicks.{tick-seen}
use Rattle.leg_machine.proofs.SendingSteps.{written, tick-sent}
use Rattle.leg_machine.proofs.Tied.{either}
use Rattle.leg_machine.proofs.TiedSends.{tick-sends}

-- two cases of one test
both : {A : Type 0} (R : A → A → Type 0) (b : Bool) (x y x' y' : A) → R x x' → R y y' → R (cond b x y) (cond b x' y')
both R true x y x' y' p q = p
both R false x y x' y' p q = q

-- with memory nothing is skipped; without it nothing differs, or something is skipped
abbrev Tells : Tick → Tick → Type 0
Tells with without = (with.skipped ≡ 0) × ((without ≡ with) ⊎ (0 < without.skipped))

test_of : (n : ℕ) → 0 < n → eqb n 0 ≡ false
test_of n h = grind (arith, nat_tests)

agrees : (f : Bool → Tick) → Tells (f true) (f false) → (g : Bool) → f (eqb (f g).skipped 0) ≡ f g
agrees f (zero_with, other) true = ap (λ (n : ℕ). f (eqb n 0)) zero_with
agrees f (zero_with, inl same) false = ap (λ (n : ℕ). f (eqb n 0)) (ap (λ (t : Tick). t.skipped) same ∙ zero_with) ∙ sym same
agrees f (zero_with, inr more) false = ap f (test_of (f false).skipped more)

last-true : (spent : Bool) (leg : LegState) (now : ℕ) → (last_step true spent leg now).skipped ≡ 0
last-true true leg now = refl
last-true false leg now =
    either (λ (t : Tick). t.skipped ≡ 0) (must_ping leg now) (sends_if true leg (pinged leg now) now replies.Ping) (quiet leg)
    refl refl

-- the parts of a tick joined
abbrev joined : (hung last : Tick) (leg : LegState) (now : ℕ) → Tick
joined hung last leg now = record {
  leg = last.leg;
  replies = hung.replies ++ (tries (held_count leg.window) hung.leg now).replies ++ last.replies;
  skipped = hung.skipped + last.skipped;
}

-- the frames after the doomed leg's HANGUP, with memory and without
last-tells : (hung : Tick) (spent : Bool) (mid leg : LegState) (now : ℕ) → hung.skipped ≡ 0
    → Tells (joined hung (last_step true spent mid now) leg now) (joined hung (last_step false spent mid now) leg now)
last-tells hung true mid leg now e = (omega (arith, e), inl refl)
last-tells hung false mid leg now e =
    both (λ (a b : Tick). Tells (joined hung a leg now) (joined hung b leg now)) (must_ping mid now)
    (sends_if true mid (pinged mid now) now replies.Ping) (quiet mid) (sends_if false mid (pinged mid now) now replies.Ping)
    (quiet mid)
    (omega (arith, e), inr (omega (arith, e))) (omega (arith, e), inl refl)

abbrev finish : Bool → LegState → ℕ → Tick → Tick
finish grown leg now hung =
    let tried = tries (held_count leg.window) hung.leg now in
    joined hung (last_step grown tried.spent tried.leg now) leg now

due-tells : (leg : LegState) (now : ℕ) → Tells (due_frames true leg now) (due_frames false leg now)
due-tells leg now =
    let closing = entered leg stages.Closing now in
    let bye = replies.Hangup leg.cause in
    let after_hung = tries (held_count leg.window) (sends_if true leg closing now bye).leg now in
    let after = tries (held_count leg.window) leg now in
    both (λ (a b : Tick). Tells (finish true leg now a) (finish false leg now b)) (must_hang_up leg)
    (sends_if true leg closing now bye) (quiet leg) (sends_if false leg closing now bye) (quiet leg)
    (omega (arith, last-true after_hung.spent after_hung.leg now), inr (omega arith))
    (last-tells (quiet leg) after.spent after.leg leg now refl)

tick-tells : (leg : LegState) (now : ℕ) → Tells (tick_step true leg now) (tick_step false leg now)
tick-tells leg now =
    both Tells (is_ended leg.stage) (quiet leg) _ (quiet leg) _ (refl, inl refl)
    (both Tells (must_end leg now) (quiet (failed leg (end_failure leg) now)) (due_frames true leg now)
    (quiet (failed leg (end_failure leg) now)) (due_frames false leg now)
    (refl, inl refl) (due-tells leg now))

-- the step of a tick is that with memory if nothing was skipped, and that without if something was
tick-told : (leg : LegState) (now : ℕ) (grown : Bool) → tick_step (eqb (tick_step grown leg now).skipped 0) leg now ≡ tick_step
    grown leg now
tick-told leg now grown = agrees (λ (g : Bool). tick_step g leg now) (tick-tells leg now) grown

-- ---- if neither a HANGUP nor a PING is due

length-mark_at : (place now : ℕ) (sendings : List Sending) → length (mark_at place now sendings) ≡ length sendings
length-mark_at place now [] = refl
length-mark_at zero now (s ∷ sendings) = refl
length-mark_at (suc place) now (s ∷ sendings) = ap (λ n. suc n) (length-mark_at place now sendings)

-- tries make no PING due
ping-try : (r : Resent) (leg : LegState) (now : ℕ) (rest : LegState → Tried)
    → ((l : LegState) → must_ping (rest l).leg now ≡ must_ping l now)
    → must_ping (one_try r leg now rest).leg now ≡ must_ping leg now
ping-try resents.Nothing leg now rest same = refl
ping-try resents.Spent leg now rest same = refl
ping-try (resents.Again place) leg now rest same =
    same (after_try leg place now)
    ∙ ap (λ (held : ℕ). is_talking leg.stage && nat_lt held (local_room leg.window.width) && is_ping_time leg now)
    (length-mark_at place now leg.window.sendings)

ping-tries : (turns : ℕ) (leg : LegState) (now : ℕ) → must_ping (tries turns leg now).leg now ≡ must_ping leg now
ping-tries zero leg now = refl
ping-tries (suc turns) leg now =
    ping-try (resent leg.window now leg.rules.retry_ms leg.rules.max_retries) leg now (λ l. tries turns l now)
    (λ l. ping-tries turns l now)

last-silent : (spent : Bool) (leg : LegState) (now : ℕ) → must_ping leg now ≡ false → (last_step false spent leg now).skipped ≡ 0
last-silent true leg now silent = refl
last-silent false leg now silent =
    ap (λ (b : Bool). (cond b (sends_if false leg (pinged leg now) now replies.Ping) (quiet leg)).skipped) silent

due-silent : (leg : LegState) (now : ℕ) → must_hang_up leg ≡ false → must_ping leg now ≡ false
    → (due_frames false leg now).skipped ≡ 0
due-silent leg now stays silent =
    let tried = tries (held_count leg.window) leg now in
    let last = last-silent tried.spent tried.leg now (ping-tries (held_count leg.window) leg now ∙ silent) in
    ap (λ (b : Bool). (finish false leg now
    (cond b (sends_if false leg (entered leg stages.Closing now) now (replies.Hangup leg.cause)) (quiet leg))).skipped) stays
    ∙ omega (arith, last)

-- nothing is skipped if there was memory, or no need for it
unskipped : (grown : Bool) (leg : LegState) (now : ℕ) → (grown ≡ false → (must_hang_up leg ≡ false) × (must_ping leg now ≡ false))
    → (tick_step grown leg now).skipped ≡ 0
unskipped true leg now needless = (tick-tells leg now).0
unskipped false leg now needless =
    either (λ (t : Tick). t.skipped ≡ 0) (is_ended leg.stage) (quiet leg) _ refl
    (either (λ (t : Tick). t.skipped ≡ 0) (must_end leg now) (quiet (failed leg (end_failure leg) now)) (due_frames false leg now)
    refl (due-silent leg now (needless refl).0 (needless refl).1))

-- the clauses of a leg's tick, by the number of frames that it skipped
abbrev pub Told : Leg → ℕ → ℕ → Leg → List (List ℕ) → Type 0
Told old now missed new outs = record {
  leg : new.state ≡ (tick_step (eqb missed 0) old.state now).leg;
  replies : outs ≡ map spelling (tick_step (eqb missed 0) old.state now).replies;
  skipped : missed ≡ (tick_step (eqb missed 0) old.state now).skipped;
  spare : 2 ≤ old.spare → missed ≡ 0;
  extends_history : SendsAtMostOne old.state new.state;
  sendings : All (IsSending new.state) outs;
  refines_abstract_leg : IsSeenTick (seen_leg old.state) (seen_leg new.state);
  capacity : capacity_of old ≤ capacity_of new;
}

-- the step was made with memory, or without
pub told : (old mid new : Leg) (outs : List (List ℕ)) (now skipped : ℕ) (grown : Bool) → SendsNumbered old.state
    → (2 ≤ old.spare → grown ≡ false → (must_hang_up old.state ≡ false) × (must_ping old.state now ≡ false))
    → mid.state ≡ old.state → capacity_of old ≤ capacity_of mid → new.state ≡ (tick_step grown mid.state now).leg
    → outs ≡ map spelling (tick_step grown mid.state now).replies → skipped ≡ (tick_step grown mid.state now).skipped
    → capacity_of mid ≤ capacity_of new → Told old now skipped new outs
told old mid new outs now skipped grown numbered needless e more leg replies count kept =
    let t = tick_step grown old.state now in
    let moved : tick_step grown mid.state now ≡ t = ap (λ (l : LegState). tick_step grown l now) e in
    let leg_is : new.state ≡ t.leg = leg ∙ ap (λ (u : Tick). u.leg) moved in
    let replies_are : outs ≡ map spelling t.replies = replies ∙ ap (λ (u : Tick). map spelling u.replies) moved in
    let count_is : skipped ≡ t.skipped = count ∙ ap (λ (u : Tick). u.skipped) moved in
    let same : t ≡ tick_step (eqb skipped 0) old.state now =
    sym (ap (λ (n : ℕ). tick_step (eqb n 0) old.state now) count_is ∙ tick-told old.state now grown) in
    record {
      leg = leg_is ∙ ap (λ (u : Tick). u.leg) same;
      replies = replies_are ∙ ap (λ (u : Tick). map spelling u.replies) same;
      skipped = count_is ∙ ap (λ (u : Tick). u.skipped) same;
      spare = λ enough. count_is ∙ unskipped grown old.state now (needless enough);
      extends_history = subst (SendsAtMostOne old.state) (sym leg_is) (tick-sends grown old.state now);
      sendings = (written t.leg new.state t.replies outs (tick-sent grown old.state now numbered) leg_is replies_are).sendings;
      refines_abstract_leg = subst (λ (l : LegState). IsSeenTick (seen_leg old.state) (seen_leg l)) (sym leg_is)
          (tick-seen grown old.state now);
      capacity = omega (arith, more, kept);
    }
