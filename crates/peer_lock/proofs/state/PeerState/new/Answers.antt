use Rattle.std.proofs.Common.{rules}
use Rattle.peer_lock.proofs.Kept.{empty_frame, no_entries}
use Rattle.peer_lock.proofs.state.PeerState.new.Goals as goal

pub invariant_of-result : goal.invariant_of-result
invariant_of-result g c = record {
  rules = search rules;
  ruled = c.in-Ok.ensures.ruled _;
  queued = search rules;
  one_frame = λ waiting. empty_frame _ _ c.in-Ok.ensures.queue;
  few_of_call = λ waiting number. no_entries _ number _ c.in-Ok.ensures.queue;
}

pub returns-in-Ok-clause-sound : goal.returns-in-Ok-clause-sound
returns-in-Ok-clause-sound g c = record { legs = c.in-Ok.ensures.sound; kept = invariant_of-result g c }
