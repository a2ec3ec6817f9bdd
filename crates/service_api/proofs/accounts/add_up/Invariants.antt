use Rattle.service_api.specs.Accounts.{AddsUp}
use Rattle.service_api.proofs.accounts.add_up.Given as goal

abbrev pub invariant-loop-place : goal.invariant-loop-place
invariant-loop-place g l = AddsUp l.place l.row l.initial.pass l.pass
