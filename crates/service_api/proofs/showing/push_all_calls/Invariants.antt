use Rattle.service_api.specs.Calls.{TellsAllCalls}
use Rattle.service_api.proofs.showing.push_all_calls.Given as goal

abbrev pub invariant-loop-place : goal.invariant-loop-place
invariant-loop-place g l = TellsAllCalls l.exchange l.now l.place l.initial.pass l.pass l.initial.rows l.rows
