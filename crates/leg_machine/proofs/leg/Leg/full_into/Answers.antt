use Rattle.std.specs.Prelude.{map}
use Rattle.std.proofs.Common.{◌≡◌, ◌∙◌, ap, subst, sym}
use Rattle.iax_frames.specs.FullFrame.{spelling}
use Rattle.leg_machine.specs.Leg.{Leg, LegState, leg_of}
use Rattle.leg_machine.specs.Seen.{seen, IsSeenFrame}
use Rattle.leg_machine.specs.Steps.{Step, full_step, handled_step, heard_of}
use Rattle.leg_machine.specs.Tie.{HasSent, SendsNumbered, TakesTurn}
use Rattle.leg_machine.specs.Working.{frame_refused}
use Rattle.leg_machine.proofs.Hardened.{unrefused-handled}
use Rattle.leg_machine.proofs.SeenFrames.{heard-seen}
use Rattle.leg_machine.proofs.SendingSteps.{full-sent, written}
use Rattle.leg_machine.proofs.Tied.{full-turn}
use Rattle.leg_machine.proofs.leg.Leg.full_into.Goals as goal
use Rattle.leg_machine.proofs.leg.Leg.full_into.Goals.{After-full}

-- the leg when there is room is the leg before
abbrev roomy : After-full → LegState
roomy c = leg_of c.room_for_frame.new.self

still : (c : After-full) → roomy c ≡ c.args.self.now.state
still c = c.room_for_frame.ensures.leg ∙ ap (λ (l : Leg). l.state) c.self.view_is

-- a frame that isn't refused is handled
handled : (c : After-full) → handled_step (roomy c) c.args.frame.now c.args.now ≡ full_step (roomy c) c.args.frame.now c.args.now
handled c =
    unrefused-handled (roomy c) c.args.frame.now c.args.now
    (ap (λ (l : LegState). frame_refused l c.args.frame.now) c.room_for_frame.ensures.leg ∙ c.in_ok-room_for_frame.ensures.unrefused)

leg_is : (c : After-full) → leg_of c.full.new.self ≡ (full_step (roomy c) c.args.frame.now c.args.now).leg
leg_is c = c.full.ensures.leg ∙ ap (λ (s : Step). s.leg) (handled c)

sent : (c : After-full) → HasSent (leg_of c.full.new.self) c.full.new.outs
sent c =
    let step = full_step (roomy c) c.args.frame.now c.args.now in
    written step.leg (leg_of c.full.new.self) step.replies c.full.new.outs
    (full-sent (roomy c) c.args.frame.now c.args.now (subst SendsNumbered (sym c.room_for_frame.ensures.leg) c.self.invariant))
    (leg_is c) (c.full.ensures.replies ∙ ap (λ (s : Step). map spelling s.replies) (handled c))

pub returns-clause-leg : goal.returns-clause-leg
returns-clause-leg c = leg_is c ∙ ap (λ (l : LegState). (full_step l c.args.frame.now c.args.now).leg) (still c)

pub returns-clause-replies : goal.returns-clause-replies
returns-clause-replies c =
    c.full.ensures.replies ∙ ap (λ (s : Step). map spelling s.replies) (handled c)
    ∙ ap (λ (l : LegState). map spelling (full_step l c.args.frame.now c.args.now).replies) (still c)

pub returns-clause-heard : goal.returns-clause-heard
returns-clause-heard c =
    c.full.ensures.heard ∙ ap heard_of (handled c)
    ∙ ap (λ (l : LegState). heard_of (full_step l c.args.frame.now c.args.now)) (still c)

pub returns-clause-extends_history : goal.returns-clause-extends_history
returns-clause-extends_history c =
    let turn = subst (TakesTurn (roomy c) c.args.frame.now) (sym (leg_is c))
    (full-turn (roomy c) c.args.frame.now c.args.now) in
    subst (λ (l : LegState). TakesTurn l c.args.frame.now (leg_of c.full.new.self)) (still c) turn

pub returns-clause-sendings : goal.returns-clause-sendings
returns-clause-sendings c = (sent c).sendings

pub returns-clause-refines_abstract_leg : goal.returns-clause-refines_abstract_leg
returns-clause-refines_abstract_leg c =
    subst (λ (l : LegState). IsSeenFrame (seen l) (seen (leg_of c.full.new.self)) c.full.result.signal) (still c)
    (heard-seen (roomy c) (leg_of c.full.new.self) c.args.frame.now c.args.now c.full.result (leg_is c)
    (c.full.ensures.heard ∙ ap heard_of (handled c)))

pub invariant_of-self-2 : goal.invariant_of-self-2
invariant_of-self-2 c = (sent c).numbered
