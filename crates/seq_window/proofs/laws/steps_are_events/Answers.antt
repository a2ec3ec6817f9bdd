use Rattle.seq_window.proofs.Turns.{added_by_actions, sent_by_actions}
use Rattle.seq_window.proofs.laws.steps_are_events.Goals as goal

pub returns-clause-history : goal.returns-clause-history
returns-clause-history c own other which datagram turn at legal = added_by_actions own other which datagram turn at legal

pub returns-clause-datagrams : goal.returns-clause-datagrams
returns-clause-datagrams c own other which datagram turn at legal = sent_by_actions own other which datagram turn at legal
