use Rattle.std.specs.Prelude.{Result, Err}
use Rattle.std.proofs.Common.{rules, ◌≡◌, ◌∙◌, ℕ, true, cond, Option, None, Some, refl, subst, sym}
use Rattle.call_signals.specs.declared.outcomes.StepError.{StepError}
use Rattle.call_signals.specs.declared.outcomes.StepError.TheVariants as step_errors
use Rattle.iax_frames.specs.FullFrame.{FullFrame}
use Rattle.leg_machine.specs.Leg.{LegState, is_record_full}
use Rattle.leg_machine.specs.Steps.{full_step}
use Rattle.leg_machine.specs.Working.{frame_refused, is_early, is_stray, refusal}
use Rattle.peer_legs.specs.Finding.{can_reach}
use Rattle.peer_legs.specs.Legs.{NamedLeg, PeerLegs, leg_at}
use Rattle.peer_lock.specs.Errors.{from_step}
use Rattle.peer_lock.specs.Peer.{PeerView}
use Rattle.peer_lock.specs.declared.errors.PeerError.{PeerError}
use Rattle.peer_lock.specs.declared.errors.PeerError.TheVariants as errors
use Rattle.peer_lock.specs.declared.steps.Step.{Step}
use Rattle.peer_lock.proofs.Choices.{either}
use Rattle.peer_lock.proofs.Reached.{reached}
use Rattle.peer_lock.proofs.state.PeerState.reach.Goals as goal

pub returns-clause-made : goal.returns-clause-made
returns-clause-made g c named here =
    let after : NamedLeg = record { name = named.name; leg = (full_step named.leg c.args.frame.now c.args.now).leg } in
    let there = c.in_ok-heard.ensures.there named here in
    reached g.J.LedgerSet.first_octets c.args.self.now c.deliver.new.self c.hand_on.new.self named c.args.frame.now c.args.now
    c.in_ok-heard.heard
    c.hand_on.result c.args.pass.now c.hand_on.new.pass c.hand_on.new.onwards
    (c.in_ok-heard.ensures.peer named here) (c.in_ok-heard.ensures.heard named here) c.hand_on.ensures.peer
    (c.hand_on.ensures.step after there)
    (c.hand_on.ensures.signals after there) (c.hand_on.ensures.offer after there) c.hand_on.ensures.credit

pub returns-in_err-reserve-clause-err : goal.returns-in_err-reserve-clause-err
returns-in_err-reserve-clause-err c = search rules

-- no refusal by the leg is for want of memory
another : (one error : StepError) → (from_step one ≡ errors.Memory → ⊥) → Some one ≡ Some error
    → from_step error ≡ errors.Memory → ⊥
another one error other is same =
    let same_error : one ≡ error = cc in
    other (subst (λ (e : StepError). from_step e ≡ errors.Memory) (sym same_error) same)

never : (leg : LegState) (frame : FullFrame) (error : StepError) → frame_refused leg frame ≡ Some error
    → from_step error ≡ errors.Memory → ⊥
never leg frame error =
    let P : Option StepError → Type 0 = λ o. o ≡ Some error → from_step error ≡ errors.Memory → ⊥ in
    either P (is_record_full leg) (Some step_errors.RecordFull) (refusal leg frame)
    (another step_errors.RecordFull error (λ e. cc))
    (either P (is_stray leg frame) (Some step_errors.Unaddressed)
    (cond (is_early leg frame) (Some step_errors.NewUnacknowledged) None) (another step_errors.Unaddressed error (λ e. cc))
    (either P (is_early leg frame) (Some step_errors.NewUnacknowledged) None
    (another step_errors.NewUnacknowledged error (λ e. cc)) (λ e f. cc)))

never_there : (legs : PeerLegs) (source : ℕ) (at : Option NamedLeg) (frame : FullFrame) (refused : Option StepError)
    (error : StepError) → can_reach legs source at ≡ true
    → ((named : NamedLeg) → at ≡ Some named → refused ≡ frame_refused named.leg frame) → refused ≡ Some error
    → from_step error ≡ errors.Memory → ⊥
never_there legs source None frame refused error there is some same = cc
never_there legs source (Some named) frame refused error there is some same =
    never named.leg frame error (sym (is named refl) ∙ some) same

same_refusal : (one other : PeerError) → ◌≡◌ {A = Result Step PeerError} (Err one) (Err other) → one ≡ other
same_refusal one other is = cc

pub returns-in-Some-clause-no_memory : goal.returns-in-Some-clause-no_memory
returns-in-Some-clause-no_memory g c = λ is.
    let source = c.args.frame.now.head.source in
    let there = subst (λ (v : PeerView). can_reach v.legs source (leg_at v.legs c.args.number) ≡ true) (sym c.self.view_is)
    c.requires.there in
    absurd (never_there c.self.inside.legs source (leg_at c.self.inside.legs c.args.number) c.args.frame.now
    c.frame_refused.result c.in-Some.error there c.frame_refused.ensures c.in-Some.is
    (sym c.from.ensures ∙ same_refusal c.from.result errors.Memory is))
