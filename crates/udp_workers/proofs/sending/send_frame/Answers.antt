use Rattle.std.proofs.Common.{rules}
use Rattle.udp_workers.proofs.sending.send_frame.Goals as goal

pub returns-in-Ok-false-clause-failures : goal.returns-in-Ok-false-clause-failures
returns-in-Ok-false-clause-failures c = search rules

pub returns-in-Ok-true-clause-observed : goal.returns-in-Ok-true-clause-observed
returns-in-Ok-true-clause-observed c = search rules

pub returns-in-Ok-false-clause-one : goal.returns-in-Ok-false-clause-one
returns-in-Ok-false-clause-one c = search rules

pub returns-in-Ok-false-clause-observed : goal.returns-in-Ok-false-clause-observed
returns-in-Ok-false-clause-observed c = search rules
