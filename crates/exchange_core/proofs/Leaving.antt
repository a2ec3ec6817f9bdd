-- The legs taken out in a step, and in one more step.
use Rattle.std.specs.Prelude.{◌≡◌, ℕ, List, [], ◌∷◌, ◌++◌, Bool, true, false, Option, None, Some, refl}
use Rattle.std.proofs.Common.{append_assoc, append-nil, ap, sym, ◌∙◌}
use Rattle.call_control.specs.declared.need.Need.{Need}
use Rattle.call_control.specs.declared.need.Need.TheVariants as needs
use Rattle.call_control.specs.declared.reply.Reply.{Reply}
use Rattle.step_log.specs.Notes.{Noted}
use Rattle.step_log.specs.declared.made.Made.{Made}
use Rattle.step_log.specs.declared.made.Made.TheVariants as mades
use Rattle.peer_accounts.specs.declared.onwards.Offer.{Offer}
use Rattle.exchange_core.specs.Leaving.{Leaves, LeftSince, Leaving, left_after, left_by, nobody}
use Rattle.exchange_core.specs.Traces.{Call, IsMade, Makes}

-- a step that takes out a leg, or returns its name to the book
abbrev pub takes_out : Need → Bool
takes_out (needs.Retire name) = true
takes_out (needs.Release name) = true
takes_out need = false

none_left : (call : Call) (offer : Option Offer) (need : Need) (reply : Reply) (step : Made) → IsMade call offer need reply step
    → takes_out need ≡ false
    → (now : ℕ) (leaving : Leaving) → leaving ≡ left_by now step leaving
none_left call offer need reply (mades.Retire peer name answer) made none now leaving =
    let differ : true ≡ false = sym (ap takes_out made.0) ∙ none in cc
none_left call offer need reply (mades.Release name answer) made none now leaving =
    let differ : true ≡ false = sym (ap takes_out made.0) ∙ none in cc
none_left call offer need reply step made none now leaving = refl

-- no other step takes a leg out
pub none_leave : (call : Call) (offer : Option Offer) (need : Need) (reply : Reply) (old new : Noted)
    → Makes call offer need reply old new → takes_out need ≡ false
    → (now : ℕ) (leaving : Leaving) → Leaves now old new leaving leaving
none_leave call offer need reply old new makes none now leaving = record {
  step = makes.step;
  noted = makes.noted.made;
  left = none_left call offer need reply makes.step makes.made none now leaving;
}

left_longer : (now : ℕ) (steps : List Made) (step : Made) (leaving : Leaving) → left_after now (steps ++ step ∷ []) leaving
    ≡ left_by now step (left_after now steps leaving)
left_longer now [] step leaving = refl
left_longer now (first ∷ rest) step leaving = left_longer now rest step (left_by now first leaving)

pub nobody_left : (now : ℕ) (pass : Noted) → LeftSince now pass pass nobody
nobody_left now pass = record { steps = []; noted = sym (append-nil pass.made); left = refl }

pub left_since : (now : ℕ) (first old new : Noted) (before after : Leaving) → LeftSince now first old before
    → Leaves now old new before after
    → LeftSince now first new after
left_since now first old new before after since leaves = record {
  steps = since.steps ++ leaves.step ∷ [];
  noted = leaves.noted ∙ ap (λ made. made ++ leaves.step ∷ []) since.noted ∙ append_assoc first.made since.steps
      (leaves.step ∷ []);
  left = leaves.left ∙ ap (left_by now leaves.step) since.left ∙ sym (left_longer now since.steps leaves.step nobody);
}
