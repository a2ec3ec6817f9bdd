use Rattle.std.specs.Option.{option_copied_mut}
use Rattle.std.proofs.Common.{◌∙◌, Some, ap, sym}
use Rattle.leg_machine.specs.Leg.{LegState}
use Rattle.leg_machine.specs.OrderTable.{order_carried}
use Rattle.leg_machine.specs.Tie.{SendsAtMostOne}
use Rattle.peer_legs.specs.Legs.{leg_at}
use Rattle.peer_legs.proofs.AtRest.{rest_placed}
use Rattle.peer_legs.proofs.LegSearch.{found}
use Rattle.peer_legs.proofs.LegSteps.{IsMade, named_leg, made_at, of_said, tied_made, kept_made, sound_made, step_made}
use Rattle.peer_legs.proofs.SameCall.{IsSameCall, same_order}
use Rattle.peer_legs.proofs.peer_legs.PeerLegs.order.Goals as goal

abbrev step : goal.After-self-2-1 → LegState → LegState
step c leg = (order_carried leg c.args.order.now c.args.now).leg

same : (c : goal.After-self-2-1) → IsSameCall c.named.inside.leg.state (step c c.named.inside.leg.state)
same c = same_order c.named.inside.leg.state c.args.order.now c.args.now

made : (c : goal.After-self-2-1) → IsMade c.self.inside c.args.self.now c.place_of-index.result
    (leg_at c.args.self.now c.args.number) c.named.inside c.order_into-obeyed.new.self c.order_into-obeyed.result (step c)
made c =
    made_at c.self.invariant c.self.view_is (found c.args.number c.self.view_is c.place_of-index.ensures.place
    c.place_of-index.ensures.within c.place_of-index.ensures.leg c.index_mut.ensures.value
    (sym c.as_mut.ensures.value ∙ ap option_copied_mut c.unwrap-named.ensures) c.named.view_is) c.order_into-obeyed.ensures.leg
    c.order_into-obeyed.ensures.err (same c).ruled c.recorded.ensures

pub invariant_of-self : goal.invariant_of-self
invariant_of-self c = sound_made (made c) (same c) (rw c.min-self-inside.ensures
    (rest_placed c.self.inside.rest_until c.rest_until.result c.self.inside.places.items c.place_of-index.result
    (Some (named_leg c.named.inside.lease c.order_into-obeyed.new.self.state)) c.self.invariant.rest c.rest_until.ensures))

pub returns : goal.returns
returns c = record {
  step = step_made (made c) (kept_made (made c) (same c)).legs_are;
  replies = of_said (made c) _ c.order_into-obeyed.ensures.replies;
  extends_history = tied_made (made c) SendsAtMostOne c.order_into-obeyed.ensures.extends_history;
  answer = of_said (made c) _ (record {
    unrefused = c.order_into-obeyed.ensures.unrefused;
    refused = c.order_into-obeyed.ensures.refused;
    memory = c.order_into-obeyed.ensures.memory;
  });
  none_sent = c.order_into-obeyed.ensures.none_sent;
  no_memory = c.order_into-obeyed.ensures.no_memory;
}
