use Rattle.std.proofs.Common.{rules}
use Rattle.control_requests.proofs.LengthLemmas.{too_large}
use Rattle.control_requests.proofs.request.read_request.Goals as goal

pub returns-then-length-clause-reads : goal.returns-then-length-clause-reads
returns-then-length-clause-reads c =
    too_large c.args.octets.now c.parse.new.self c.in-Ok-Complete.head c.in-Some.length (search rules) (search rules)
    (search rules) (search rules)

pub returns-in-Some-get-clause-reads : goal.returns-in-Some-get-clause-reads
returns-in-Some-get-clause-reads c = search rules

pub returns-in-None-clause-bounded : goal.returns-in-None-clause-bounded
returns-in-None-clause-bounded c = search rules

pub returns-in-Ok-Partial-clause-reads : goal.returns-in-Ok-Partial-clause-reads
returns-in-Ok-Partial-clause-reads c = search rules
