-- The effect and the frames of an order that isn't refused, and the answers of calls that return an outcome.
use Rattle.std.specs.Prelude.{map, All, OnOk, OnErr, Result, Ok, Err}
use Rattle.std.proofs.Common.{◌≡◌, ℕ, List, Option, ◌∙◌, sym, subst}
use Rattle.std.proofs.lemmas.List.Elements.{All-same}
use Rattle.iax_frames.specs.FullFrame.{spelling}
use Rattle.leg_machine.specs.Leg.{LegState}
use Rattle.leg_machine.specs.Onward.{onward_if, outcome_of}
use Rattle.leg_machine.specs.Steps.{Step, heard_of}
use Rattle.leg_machine.specs.Tie.{SendsNumbered}
use Rattle.call_signals.specs.declared.outcomes.Heard.{Heard}
use Rattle.call_signals.specs.declared.outcomes.Judged.{Judged}
use Rattle.call_signals.specs.declared.outcomes.Outcome.{Outcome}
use Rattle.call_signals.specs.declared.signal.Onward.{Onward}

-- ---- calls that may be refused

-- The leg's record grows as it may, the frames sent are sendings from it, and its sent frames are numbered.
pub record Answers {A E : Type 0} (result : Result A E) (Grows : LegState → Type 0) (IsSent : LegState → List ℕ → Type 0)
    (new : LegState) (outs : List (List ℕ)) : Type 0 where
  pub tied : OnOk result (Grows new)
  pub sendings : OnOk result (All (IsSent new) outs)
  pub numbered : SendsNumbered new

-- a call that isn't refused leaves the leg as its step does, and sends what the step sends
pub answers : {A E : Type 0} (result : Result A E) (Grows : LegState → Type 0) (IsSent : LegState → List ℕ → Type 0)
    (old step new : LegState)
    (datagrams outs : List (List ℕ)) → Grows step → SendsNumbered step → All (IsSent step) datagrams → SendsNumbered old
    → OnOk result (new ≡ step) → OnOk result (outs ≡ datagrams) → OnErr result (new ≡ old) → Answers result Grows IsSent new outs
answers (Ok x) Grows IsSent old step new datagrams outs grows numbered sendings all leg replies stays = record {
  tied = subst Grows (sym leg) grows;
  sendings = subst (λ (l : LegState). All (IsSent l) outs) (sym leg) (All-same (IsSent step) outs datagrams replies sendings);
  numbered = subst SendsNumbered (sym leg) numbered;
}
answers (Err e) Grows IsSent old step new datagrams outs grows numbered sendings all leg replies stays =
    record { tied = tt; sendings = tt; numbered = subst SendsNumbered (sym stays) all }

-- ---- outcomes

abbrev pub outcome : Judged → List (List ℕ) → Option Onward → Outcome
outcome judged datagrams handed = record { judged = judged; replies = datagrams; onward = handed }

-- a call's outcome is that of its step
pub outcome-is : (step : Step) (leg : LegState) (heard : Heard) (datagrams : List (List ℕ)) (handed : Option Onward)
    → leg ≡ step.leg
    → datagrams ≡ map spelling step.replies → heard ≡ heard_of step → handed ≡ onward_if leg heard.signal
    → outcome heard.judged datagrams handed ≡ outcome_of step
outcome-is step leg heard datagrams handed leg-is spelt answer up =
    λ i. outcome (answer i).judged (spelt i) ((up ∙ (λ j. onward_if (leg-is j) (answer j).signal)) i)
