-- Laws of what turns note under a pass.
use Rattle.std.specs.Prelude.{Option, ◌||◌}
use Rattle.std.proofs.Common.{◌≡◌, ℕ, ◌++◌, Bool, true, false, List, [], ◌∷◌, refl, sym, ap, subst, ◌∙◌, append_assoc, append-nil}
use Rattle.std.proofs.Common.{inl, inr}
use Rattle.call_control.specs.WorkState.{WorkState}
use Rattle.exchange_core.specs.Traces.{Call, IsHeard, MakesAll}
use Rattle.step_log.specs.Notes.{Noted}
use Rattle.peer_plan.specs.Plan.{PlanView}
use Rattle.peer_plan.specs.declared.endpoint.Endpoint.{Endpoint}
use Rattle.udp_workers.specs.Intake.{TurnView, last_moment, ticks_all}
use Rattle.udp_workers.specs.declared.intake.Intake.{Intake}
use Rattle.udp_workers.specs.Ticked.{IsLater, Ticks, TicksDue, TicksIfDue, is_due}

-- ---- one peer

never : {X : Type 0} → true ≡ false → X
never clash = absurd cc

pub if_ticked : (plan : PlanView) (now : ℕ) (all : Bool) (peer : ℕ) (old new : Noted)
    → is_due all peer old ≡ true → Ticks plan now peer old new → TicksIfDue plan now all peer old new
if_ticked plan now all peer old new due ticks = record { due = λ again. ticks; left_out = λ out. never (sym due ∙ out) }

pub if_left_out : (plan : PlanView) (now : ℕ) (all : Bool) (peer : ℕ) (pass : Noted) → is_due all peer pass ≡ false
    → TicksIfDue plan now all peer pass pass
if_left_out plan now all peer pass out = record { due = λ due. never (sym due ∙ out); left_out = λ again. refl }

-- ---- one peer more

pub due_more : (plan : PlanView) (now : ℕ) (all : Bool) (peers : List ℕ) (peer : ℕ) (old mid new : Noted)
    → TicksDue plan now all peers old mid → TicksIfDue plan now all peer mid new → TicksDue plan now all (peers ++ peer ∷ []) old
    new
due_more plan now all [] peer old mid new is more = (new, subst (λ from. TicksIfDue plan now all peer from new) is more, refl)
due_more plan now all (first ∷ rest) peer old mid new is more =
    (is.0, is.1, due_more plan now all rest peer is.0 mid new is.2 more)

-- ---- all peers

-- a turn that has to tick all does
pub must_tick : (intake : Intake) (before : Option ℕ) (now : ℕ) (full all : Bool) (turns : List TurnView)
    → before ≡ last_moment turns → all ≡ (ticks_all intake before now || full) → ticks_all intake (last_moment turns) now ≡ true
    → all ≡ true
must_tick intake before now full all turns is all_is must =
    all_is ∙ ap (λ (one : Bool). one || full) (ap (λ (moment : Option ℕ). ticks_all intake moment now) is ∙ must)

-- ---- what comes later

pub later_same : (pass : Noted) → IsLater pass pass
later_same pass = ([], sym (append-nil pass.made))

pub later_on : (old mid new : Noted) → IsLater old mid → IsLater mid new → IsLater old new
later_on old mid new before after =
    (before.0 ++ after.0, after.1 ∙ ap (λ made. made ++ after.0) before.1 ∙ append_assoc old.made before.0 after.0)

makes_later : (call : Call) (from : WorkState) (old new : Noted) → MakesAll call from old new → IsLater old new
makes_later call from old new makes = (makes.traces.steps, makes.traces.noted)

pub heard_later : (plan : PlanView) (from : Endpoint) (call : Call) (old new : Noted) → IsHeard plan from call old new
    → IsLater old new
heard_later plan from call old new (inl stranger) = subst (IsLater old) (sym stranger.1) (later_same old)
heard_later plan from call old new (inr peer) = makes_later call _ old new peer.2

if_due : (plan : PlanView) (now peer : ℕ) (old new : Noted) (due : Bool)
    → (due ≡ true → Ticks plan now peer old new) → (due ≡ false → new ≡ old) → IsLater old new
if_due plan now peer old new true ticks left_out = makes_later _ _ old new (ticks refl)
if_due plan now peer old new false ticks left_out = subst (IsLater old) (sym (left_out refl)) (later_same old)

pub due_later : (plan : PlanView) (now : ℕ) (all : Bool) (peers : List ℕ) (old new : Noted) → TicksDue plan now all peers old new
    → IsLater old new
due_later plan now all [] old new is = subst (IsLater old) (sym is) (later_same old)
due_later plan now all (peer ∷ rest) old new is =
    later_on old is.0 new (if_due plan now peer old is.0 (is_due all peer old) is.1.due is.1.left_out)
    (due_later plan now all rest is.0 new is.2)
