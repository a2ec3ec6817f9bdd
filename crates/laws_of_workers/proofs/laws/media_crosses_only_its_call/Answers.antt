use Rattle.laws_of_workers.proofs.CrossingLaws.{call_spans}
use Rattle.laws_of_workers.proofs.CrossingTurns.{all_order, turns_order}
use Rattle.laws_of_workers.proofs.CrossingWires.{run_hands}
use Rattle.laws_of_workers.proofs.laws.media_crosses_only_its_call.Goals as goal

pub returns-clause-call : goal.returns-clause-call
returns-clause-call c call peer steps to trace before after follow place =
    let once = c.media_is_handed_up_once.ensures in
    call_spans c.media_is_the_datagrams.ensures once.datagrams once.calls_in call.octets peer steps before after
    (c.media_follows_its_call.ensures.call call peer steps to trace) follow place

pub returns-clause-turn : goal.returns-clause-turn
returns-clause-turn c plan turn arrivals old new trail before after takes noted follow place =
    let once = c.media_is_handed_up_once.ensures in
    all_order (call_spans c.media_is_the_datagrams.ensures once.datagrams once.calls_in) plan place turn arrivals old new trail
    before
    after takes noted follow

pub returns-clause-run : goal.returns-clause-run
returns-clause-run c intake plan peers turns left received old new came now run before after follows place first last at_first
    at_last =
    let once = c.media_is_handed_up_once.ensures in
    record {
      orders = turns_order (call_spans c.media_is_the_datagrams.ensures once.datagrams once.calls_in) plan place intake peers
          turns
          left received old new came now run follows.trail before after follows.noted follows.follow;
      carries = c.trails_keep_their_order.ensures follows.trail before after follows.sound follows.follow place first last
          at_first
          at_last;
      hands = run_hands plan intake peers turns left received old new came now run follows.trail follows.noted;
    }
