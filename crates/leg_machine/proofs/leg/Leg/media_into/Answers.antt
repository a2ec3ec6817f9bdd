use Rattle.std.proofs.Common.{◌≡◌, ◌∙◌, ap, arith, refl, subst, sym, true}
use Rattle.std.proofs.lemmas.Grind.{common_steps}
use Rattle.call_signals.specs.Stage.{is_talking}
use Rattle.leg_machine.specs.declared.media.MediaSent.TheVariants.{Voice}
use Rattle.leg_machine.specs.Leg.{Leg, leg_of}
use Rattle.leg_machine.specs.Media.{after_media, media_frames}
use Rattle.leg_machine.specs.Seen.{seen}
use Rattle.leg_machine.specs.Tie.{HasSent, SendsAtMostOne}
use Rattle.leg_machine.proofs.SeenOrders.{talking-seen}
use Rattle.leg_machine.proofs.SendingSteps.{media-sent, written}
use Rattle.leg_machine.proofs.TiedSends.{media-sends}
use Rattle.leg_machine.proofs.leg.Leg.media_into.Goals as goal

voice : (c : goal.In_ok-send_voice) → HasSent (leg_of c.send_voice.new.self) c.send_voice.new.outs
voice c =
    let old = leg_of c.self.inside.machine in
    written (after_media Voice old c.args.media.now c.args.now) (leg_of c.send_voice.new.self)
    (media_frames Voice old c.args.media.now c.args.now) c.send_voice.new.outs
    (media-sent Voice old c.args.media.now c.args.now c.self.invariant) c.in_ok-send_voice.ensures.leg
    c.in_ok-send_voice.ensures.replies

pub returns-in_ok-send_voice-clause-extends_history : goal.returns-in_ok-send_voice-clause-extends_history
returns-in_ok-send_voice-clause-extends_history c =
    let old = leg_of c.self.inside.machine in
    let sends = subst (SendsAtMostOne old) (sym c.in_ok-send_voice.ensures.leg) (media-sends Voice old c.args.media.now
    c.args.now) in
    subst (λ (l : Leg). SendsAtMostOne l.state (leg_of c.send_voice.new.self)) c.self.view_is sends

pub returns-in_ok-send_voice-clause-sendings : goal.returns-in_ok-send_voice-clause-sendings
returns-in_ok-send_voice-clause-sendings c = (voice c).sendings

pub returns-in_ok-send_voice-clause-refines_abstract_leg : goal.returns-in_ok-send_voice-clause-refines_abstract_leg
returns-in_ok-send_voice-clause-refines_abstract_leg c =
    let talks : is_talking c.args.self.now.state.stage ≡ true = grind (arith, common_steps) in
    talking-seen c.args.self.now.state (leg_of c.send_voice.new.self) talks
    (ap seen c.in_ok-send_voice.ensures.leg ∙ ap (λ (l : Leg). seen l.state) c.self.view_is)

pub returns-else-eq-clause-refines_abstract_leg : goal.returns-else-eq-clause-refines_abstract_leg
returns-else-eq-clause-refines_abstract_leg c =
    let talks : is_talking c.args.self.now.state.stage ≡ true = grind (arith, common_steps) in
    talking-seen c.args.self.now.state c.args.self.now.state talks refl

pub invariant_of-self : goal.invariant_of-self
invariant_of-self c = (voice c).numbered
