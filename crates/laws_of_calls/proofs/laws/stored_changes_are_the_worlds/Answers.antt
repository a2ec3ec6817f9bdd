use Rattle.laws_of_calls.proofs.Events.{begin_seen, draining_seen, out_seen, step_seen}
use Rattle.laws_of_calls.proofs.Kept.{peers_kept, ranges_kept}
use Rattle.laws_of_calls.proofs.WorldSteps.{PeersSteps}
use Rattle.laws_of_calls.proofs.laws.stored_changes_are_the_worlds.Goals as goal

pub returns-clause-begins : goal.returns-clause-begins
returns-clause-begins c = begin_seen

pub returns-clause-steps : goal.returns-clause-steps
returns-clause-steps c called old new world are busy stale serve seen s =
    let laws = c.peers_steps_are_the_worlds.ensures in
    let peers : PeersSteps = record {
      datagrams = laws.datagrams;
      rejected_calls = laws.rejected_calls;
      calls_in = laws.calls_in;
      calls_out = laws.calls_out;
      orders = laws.orders;
      refused_orders = laws.refused_orders;
      ticks = laws.ticks;
      looks = laws.looks;
      retiring = laws.retiring;
    } in
    step_seen peers c.calls_at_once.ensures.seen called old new world are busy stale serve seen s

pub returns-clause-outboxes : goal.returns-clause-outboxes
returns-clause-outboxes c = out_seen

pub returns-clause-drains : goal.returns-clause-drains
returns-clause-drains c = draining_seen

pub returns-clause-peers : goal.returns-clause-peers
returns-clause-peers c = peers_kept

pub returns-clause-ranges : goal.returns-clause-ranges
returns-clause-ranges c = ranges_kept
