use Rattle.laws_of_calls.proofs.LeftDatagrams.{told_puts}
use Rattle.laws_of_calls.proofs.calls.calls_put_few_datagrams.Goals as goal

pub returns-clause-steps : goal.returns-clause-steps
returns-clause-steps c work reply few = told_puts work.place reply work.rest few
