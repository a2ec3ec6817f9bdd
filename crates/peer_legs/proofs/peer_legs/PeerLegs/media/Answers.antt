use Rattle.std.specs.Option.{option_copied_mut}
use Rattle.std.proofs.Common.{◌∙◌, ap, sym}
use Rattle.leg_machine.specs.Leg.{LegState}
use Rattle.leg_machine.specs.Media.{media_sent, after_media}
use Rattle.leg_machine.specs.Tie.{SendsAtMostOne}
use Rattle.peer_legs.specs.Legs.{leg_at}
use Rattle.peer_legs.proofs.AtRest.{rest_media}
use Rattle.peer_legs.proofs.LegSearch.{found}
use Rattle.peer_legs.proofs.LegSteps.{IsMade, named_leg, made_at, of_said, tied_made, still_made, kept_made, sound_made}
use Rattle.peer_legs.proofs.LegSteps.{step_made}
use Rattle.peer_legs.proofs.SameCall.{IsSameCall, same_media}
use Rattle.peer_legs.proofs.peer_legs.PeerLegs.media.Goals as goal

abbrev step : goal.After-self-2-1 → LegState → LegState
step c leg = after_media (media_sent leg c.args.now) leg c.args.media.now c.args.now

same : (c : goal.After-self-2-1) → IsSameCall c.named.inside.leg.state (step c c.named.inside.leg.state)
same c = same_media (media_sent c.named.inside.leg.state c.args.now) c.named.inside.leg.state c.args.media.now c.args.now

made : (c : goal.After-self-2-1) → IsMade c.self.inside c.args.self.now c.place_of-index.result
    (leg_at c.args.self.now c.args.number) c.named.inside c.media_into-sent.new.self c.media_into-sent.result (step c)
made c =
    made_at c.self.invariant c.self.view_is (found c.args.number c.self.view_is c.place_of-index.ensures.place
    c.place_of-index.ensures.within c.place_of-index.ensures.leg c.index_mut.ensures.value
    (sym c.as_mut.ensures.value ∙ ap option_copied_mut c.unwrap-named.ensures) c.named.view_is) c.media_into-sent.ensures.leg
    c.media_into-sent.ensures.err (same c).ruled c.recorded.ensures

pub invariant_of-self : goal.invariant_of-self
invariant_of-self c = sound_made (made c) (same c)
    (rest_media c.self.inside.rest_until c.rest_after_media-self-inside.result c.self.inside.places.items c.place_of-index.result
    (named_leg c.named.inside.lease c.named.inside.leg.state)
    c.media_into-sent.new.self.state c.self.invariant.rest (made c).at c.rest_after_media-self-inside.ensures.within
    c.media_into-sent.result c.args.media.now c.args.now
    c.rest_after_media-self-inside.ensures.voice c.media_into-sent.ensures.sent c.media_into-sent.ensures.leg
    (still_made (made c)))

pub returns : goal.returns
returns c = record {
  step = step_made (made c) (kept_made (made c) (same c)).legs_are;
  replies = of_said (made c) _ c.media_into-sent.ensures.replies;
  sent = of_said (made c) _ c.media_into-sent.ensures.sent;
  extends_history = tied_made (made c) SendsAtMostOne c.media_into-sent.ensures.extends_history;
  answer = of_said (made c) _ (record {
    unrefused = c.media_into-sent.ensures.unrefused;
    refused = c.media_into-sent.ensures.refused;
    memory = c.media_into-sent.ensures.memory;
  });
  none_sent = c.media_into-sent.ensures.none_sent;
  no_memory = c.media_into-sent.ensures.no_memory;
}
