use Rattle.std.proofs.Common.{rules}
use Rattle.udp_workers.proofs.worker.Worker.turn.Goals as goal

pub turn_at-requires-clause-asked : goal.turn_at-requires-clause-asked
turn_at-requires-clause-asked c = search rules

pub turn_at-requires-clause-going : goal.turn_at-requires-clause-going
turn_at-requires-clause-going c = search rules

pub returns-clause-given : goal.returns-clause-given
returns-clause-given c = search rules
