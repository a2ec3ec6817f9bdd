-- The part of a leg that callers at once see, when it opens, and when a tick reaches it.
use Rattle.std.specs.Prelude.{◌&&◌, not, nat_le}
use Rattle.std.proofs.Common.{◌≡◌, ℕ, zero, suc, ◌≤◌, Bool, true, false, cond, List, ◌⊎◌, inl, inr, refl, sym, ap, subst, ◌∙◌}
use Rattle.std.proofs.Common.{arith}
use Rattle.std.proofs.lemmas.Bool.Decides.{nat_tests}
use Rattle.iax_frames.specs.FullFrame.{FullFrame}
use Rattle.seq_window.specs.Window.{held_count, is_full, resent}
use Rattle.seq_window.specs.declared.judgements.Resent.{Resent}
use Rattle.seq_window.specs.declared.judgements.Resent.TheVariants as resents
use Rattle.leg_machine.specs.Effects.{is_reply}
use Rattle.leg_machine.specs.Leg.{LegState, entered, failed, must_end, end_failure}
use Rattle.leg_machine.specs.Openings.{opening_of, opening_effect, leg_for_new, open_in_step}
use Rattle.leg_machine.specs.Seen.{SeenLeg, seen, moved, fresh_leg, opening_effect as seen_opening, IsSeenOpening, Ends}
use Rattle.leg_machine.specs.Seen.{ClosesDoomed, IsSeenTick}
use Rattle.call_signals.specs.Stage.{is_over, is_ended}
use Rattle.leg_machine.specs.Steps.{Step, heard_of, taken_step, taken, answered, no_room}
use Rattle.leg_machine.specs.Ticks.{Tick, quiet, sends_if, must_hang_up, must_ping, pinged, last_step, due_frames, tick_step}
use Rattle.leg_machine.specs.Tries.{Tried, tries, one_try, after_try}
use Rattle.call_signals.specs.declared.effects.Effect.{Effect}
use Rattle.call_signals.specs.declared.message.Message.TheVariants.{New}
use Rattle.call_signals.specs.declared.openings.Opening.{Opening}
use Rattle.call_signals.specs.declared.openings.Opening.TheVariants as openings
use Rattle.call_signals.specs.declared.outcomes.Heard.{Heard}
use Rattle.call_signals.specs.declared.reply.ReplyFrame.TheVariants as replies
use Rattle.call_signals.specs.declared.rules.PeerRules.{PeerRules}
use Rattle.call_signals.specs.declared.stage.Stage.TheVariants as stages
use Rattle.leg_machine.proofs.SeenFrames.{or-none, seen-taken}
use Rattle.leg_machine.proofs.Tied.{either, either_by}

-- ---- openings

-- a window has room for a first frame
some-room : (width : ℕ) (b : Bool) → 1 ≤ width → (b && nat_le width 0) ≡ false
some-room width true some = grind (arith, nat_tests)
some-room width false some = refl

-- a leg that enters its first stage
fresh : (opening : Opening) → moved (fresh_leg stages.Offered) (opening_effect opening).stage ≡ fresh_leg
    (seen_opening opening).stage
fresh openings.Refused = refl
fresh openings.Challenges = refl
fresh openings.Offers = refl

same-signal : (opening : Opening) → (opening_effect opening).signal ≡ (seen_opening opening).signal
same-signal openings.Refused = refl
same-signal openings.Challenges = refl
same-signal openings.Offers = refl

pub opening-seen : (rules : PeerRules) (number : ℕ) (frame : FullFrame) (now : ℕ) (challenge : List ℕ) → 1 ≤ rules.window
    → let s = open_in_step rules number frame now challenge in IsSeenOpening (seen s.leg) s.signal
opening-seen rules number frame now challenge some =
    let opening = opening_of rules frame in
    let effect = opening_effect opening in
    let leg = leg_for_new rules number frame now challenge in
    let step : Step = answered effect.answer (taken effect leg frame New now) frame now effect.signal in
    let has_room = some-room rules.window (is_reply effect.answer) some in
    let goal : IsSeenOpening (seen step.leg) step.signal = (
      opening,
      seen-taken effect leg frame New now ∙ fresh opening,
      same-signal opening,
    ) in
    subst (λ (b : Bool). let s : Step = cond b (no_room leg) step in IsSeenOpening (seen s.leg) s.signal) (sym has_room) goal

-- the answer of a call that took the NEW with this effect on this leg
pub opened-seen : (rules : PeerRules) (number : ℕ) (frame : FullFrame) (now : ℕ) (challenge : List ℕ) (effect : Effect)
    (leg new : LegState) (heard : Heard) → 1 ≤ rules.window
    → new ≡ (taken_step effect leg frame New now).leg → heard ≡ heard_of (taken_step effect leg frame New now)
    → effect ≡ opening_effect (opening_of rules frame) → leg ≡ leg_for_new rules number frame now challenge
    → IsSeenOpening (seen new) heard.signal
opened-seen rules number frame now challenge effect leg new heard some ends answer by on =
    let same : taken_step effect leg frame New now ≡ open_in_step rules number frame now challenge =
    λ i. taken_step (by i) (on i) frame New now in
    let s = opening-seen rules number frame now challenge some in (
      s.0,
      ap seen ends ∙ ap (λ (t : Step). seen t.leg) same ∙ s.1,
      ap (λ (h : Heard). h.signal) answer ∙ ap (λ (t : Step). t.signal) same ∙ s.2,
    )

-- ---- ticks

seen-try : (r : Resent) (leg : LegState) (now : ℕ) (rest : LegState → Tried) → ((l : LegState) → seen (rest l).leg ≡ seen l)
    → seen (one_try r leg now rest).leg ≡ seen leg
seen-try resents.Nothing leg now rest kept = refl
seen-try resents.Spent leg now rest kept = refl
seen-try (resents.Again place) leg now rest kept = kept (after_try leg place now)

seen-tries : (turns : ℕ) (leg : LegState) (now : ℕ) → seen (tries turns leg now).leg ≡ seen leg
seen-tries zero leg now = refl
seen-tries (suc turns) leg now =
    seen-try (resent leg.window now leg.rules.retry_ms leg.rules.max_retries) leg now (λ l. tries turns l now)
    (λ l. seen-tries turns l now)

seen-sends : (grown : Bool) (leg changed : LegState) (now : ℕ) → seen changed ≡ seen leg
    → seen (sends_if grown leg changed now replies.Ping).leg ≡ seen leg
seen-sends true leg changed now e = e
seen-sends false leg changed now e = refl

-- a leg stays, or ends
abbrev StaysOrEnds : SeenLeg → SeenLeg → Type 0
StaysOrEnds old new = (new ≡ old) ⊎ (new ≡ moved old stages.Ended)

last-seen : (grown spent : Bool) (leg : LegState) (now : ℕ) → StaysOrEnds (seen leg) (seen (last_step grown spent leg now).leg)
last-seen grown true leg now = inr refl
last-seen grown false leg now =
    either (λ (t : Tick). StaysOrEnds (seen leg) (seen t.leg)) (must_ping leg now) (sends_if grown leg (pinged leg now) now
    replies.Ping) (quiet leg)
    (inl (seen-sends grown leg (pinged leg now) now refl)) (inl refl)

-- the frames after the doomed leg's HANGUP, if there was one
tried-seen : (turns : ℕ) (grown : Bool) (leg : LegState) (now : ℕ)
    → let tried = tries turns leg now in StaysOrEnds (seen leg) (seen (last_step grown tried.spent tried.leg now).leg)
tried-seen turns grown leg now =
    let tried = tries turns leg now in
    subst (λ (old : SeenLeg). StaysOrEnds old (seen (last_step grown tried.spent tried.leg now).leg)) (seen-tries turns leg now)
    (last-seen grown tried.spent tried.leg now)

lives-on : (old new : SeenLeg) → StaysOrEnds old new → IsSeenTick old new
lives-on old new (inl same) = inl same
lives-on old new (inr ended) = inr (Ends, ended)

and-left : (a b : Bool) → (a && b) ≡ true → a ≡ true
and-left true b e = refl
and-left false b e = e

closes : (old new : SeenLeg) → (old.doomed && not (is_over old.stage)) ≡ true → StaysOrEnds (moved old stages.Closing) new
    → IsSeenTick old new
closes old new doomed (inl same) =
    inr (ClosesDoomed, same ∙ ap (λ (b : Bool). cond b (moved old stages.Closing) old) (sym doomed))
closes old new doomed (inr ended) =
    inr (
      Ends,
      ended ∙ ap (λ (owes : Bool). record old { stage = stages.Ended; owes = owes })
          (or-none (moved old stages.Closing).owes),
    )

-- the rest of a tick after the HANGUP, if there was one
abbrev finished : Bool → LegState → ℕ → Tick → LegState
finished grown leg now hung =
    let tried = tries (held_count leg.window) hung.leg now in
    (last_step grown tried.spent tried.leg now).leg

hung-seen : (grown : Bool) (leg : LegState) (now : ℕ) → must_hang_up leg ≡ true
    → IsSeenTick (seen leg) (seen (finished grown leg now (sends_if grown leg (entered leg stages.Closing now) now
    (replies.Hangup leg.cause))))
hung-seen true leg now must =
    let hung = sends_if true leg (entered leg stages.Closing now) now (replies.Hangup leg.cause) in
    closes (seen leg) (seen (finished true leg now hung)) (and-left (leg.doomed && not (is_over leg.stage))
    (not (is_full leg.window)) must)
    (tried-seen (held_count leg.window) true hung.leg now)
hung-seen false leg now must = lives-on (seen leg) (seen (finished false leg now (quiet leg)))
    (tried-seen (held_count leg.window) false leg now)

due-seen : (grown : Bool) (leg : LegState) (now : ℕ) → IsSeenTick (seen leg) (seen (due_frames grown leg now).leg)
due-seen grown leg now =
    either_by (λ (hung : Tick). IsSeenTick (seen leg) (seen (finished grown leg now hung))) (must_hang_up leg)
    (sends_if grown leg (entered leg stages.Closing now) now (replies.Hangup leg.cause)) (quiet leg)
    (hung-seen grown leg now)
    (λ _. lives-on (seen leg) (seen (finished grown leg now (quiet leg))) (tried-seen (held_count leg.window) grown leg now))

pub tick-seen : (grown : Bool) (leg : LegState) (now : ℕ) → IsSeenTick (seen leg) (seen (tick_step grown leg now).leg)
tick-seen grown leg now =
    either (λ (t : Tick). IsSeenTick (seen leg) (seen t.leg)) (is_ended leg.stage) (quiet leg) _ (inl refl)
    (either (λ (t : Tick). IsSeenTick (seen leg) (seen t.leg)) (must_end leg now) (quiet (failed leg (end_failure leg) now))
    (due_frames grown leg now)
    (inr (Ends, refl)) (due-seen grown leg now))
