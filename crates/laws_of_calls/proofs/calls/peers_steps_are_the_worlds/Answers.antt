use Rattle.peer_lock.specs.Openings.{opens_out}
use Rattle.peer_lock.specs.Orders.{ordered_step}
use Rattle.call_control.specs.Scene.{Goes, RefusesDatagram, RefusesRejecting, RefusesOpening, RefusesTick, KeepsLeg}
use Rattle.peer_lock.specs.Arrivals.{datagram_step}
use Rattle.peer_lock.specs.Legs.{with_place}
use Rattle.peer_lock.specs.Openings.{opens_in}
use Rattle.peer_lock.specs.Seen.{IsSeenRefusal, Obeys}
use Rattle.std.proofs.Common.{None, refl, subst}
use Rattle.laws_of_calls.proofs.PeerSteps.{nothing_changed, datagram_is, call_in_is, call_out_is, order_is, refusal_is, look_is}
use Rattle.laws_of_calls.proofs.PeerSteps.{retiring_is}
use Rattle.laws_of_calls.proofs.PeerSteps.{tick_is}
use Rattle.laws_of_calls.proofs.calls.peers_steps_are_the_worlds.Goals as goal

pub returns : goal.returns
returns c =
    let are_seen = c.steps_are_seen.ensures in
    record {
      datagrams = λ first peer datagram now scene called are sees. datagram_is scene called peer.legs sees
          (datagram_step first peer datagram now) (are_seen.datagrams first peer datagram now are);
      refused_datagrams = λ legs error scene called sees. nothing_changed scene called legs sees (RefusesDatagram error) refl;
      calls_in = λ peer name frame now challenge scene called are some free sees leased. call_in_is scene called peer.legs sees
          (opens_in peer name frame now challenge) name leased (are_seen.calls_in peer name frame now challenge are some free);
      refused_calls_in = λ legs name error scene called sees. nothing_changed scene called legs sees (RefusesOpening error) refl;
      rejected_calls = λ peer frame scene called sees. nothing_changed scene called peer.legs sees Goes refl;
      unrejected_calls = λ legs error scene called sees. nothing_changed scene called legs sees (RefusesRejecting error) refl;
      calls_out = λ peer name number caller format now scene called are free sees leased. call_out_is scene called peer.legs sees
          (opens_out peer name number caller format now).peer.legs name leased
          (are_seen.calls_out peer name number caller format now are free);
      refused_calls_out = λ legs name error scene called sees. nothing_changed scene called legs sees (RefusesOpening error) refl;
      orders = λ peer credit name command order now scene called are is same none sees. order_is scene called peer.legs sees name
          is (ordered_step peer name order now).legs command
          (subst (Obeys peer.legs (ordered_step peer name order now).legs name) same
          (are_seen.orders peer credit name order now are none));
      refused_orders = λ peer credit name command order now error scene called are is same refused wants sees. refusal_is scene
          called peer.legs sees name is command error (subst (λ kind. IsSeenRefusal peer.legs name kind error) same
          (are_seen.refusals peer credit name order now error are refused wants));
      ticks = λ old new now report scene called are ticks sees. tick_is scene called old.legs sees new.legs report.is_quiet
          (are_seen.ticks old new now report are ticks);
      refused_ticks = λ legs scene called sees. nothing_changed scene called legs sees RefusesTick refl;
      looks = λ legs number scene called sees. look_is scene called legs sees number;
      retiring = λ legs name scene called are is done sees none. retiring_is scene called legs sees name is
          (with_place legs name.number None) none (are_seen.retiring legs name are done);
      keeping = λ legs name scene called sees. nothing_changed scene called legs sees KeepsLeg refl;
    }
