use Rattle.std.specs.Prelude.{Result, Err}
use Rattle.std.proofs.Common.{rules, ◌≡◌, Some, ap, sym, ◌∙◌}
use Rattle.call_signals.specs.declared.outcomes.StepError.{StepError}
use Rattle.call_signals.specs.declared.outcomes.StepError.TheVariants as errors
use Rattle.leg_machine.specs.Leg.{leg_of}
use Rattle.leg_machine.proofs.Hardened.{never-memory}
use Rattle.leg_machine.proofs.machine.Machine.room_for_frame.Goals as goal
use Rattle.leg_machine.proofs.machine.Machine.room_for_frame.Goals.{In-Some}

same_error : (one other : StepError) → ◌≡◌ {A = Result (Unit {0}) StepError} (Err one) (Err other) → one ≡ other
same_error one other same = cc

refused-for-another : (c : In-Some) → ◌≡◌ {A = Result (Unit {0}) StepError} (Err c.in-Some.error) (Err errors.Memory) → ⊥
refused-for-another c same =
    never-memory (leg_of c.args.self.now) c.args.frame.now
    (sym c.frame_refused.ensures ∙ c.in-Some.is ∙ ap (λ (e : StepError). Some e) (same_error c.in-Some.error errors.Memory same))

pub returns-in_err-reserve-clause-leg : goal.returns-in_err-reserve-clause-leg
returns-in_err-reserve-clause-leg c = search rules

pub returns-in_err-reserve-clause-memory : goal.returns-in_err-reserve-clause-memory
returns-in_err-reserve-clause-memory c = search rules

pub returns-in_err-reserve-clause-err : goal.returns-in_err-reserve-clause-err
returns-in_err-reserve-clause-err c = search rules

pub returns-in-Some-clause-memory : goal.returns-in-Some-clause-memory
returns-in-Some-clause-memory c = λ same. absurd (refused-for-another c same)

pub returns-in-Some-clause-no_memory : goal.returns-in-Some-clause-no_memory
returns-in-Some-clause-no_memory c = λ same. absurd (refused-for-another c same)

pub returns-clause-leg : goal.returns-clause-leg
returns-clause-leg c = search rules

pub returns-clause-room : goal.returns-clause-room
returns-clause-room c = search rules
