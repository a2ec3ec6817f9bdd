use Rattle.control_server.specs.Clients.{SparesOthers}
use Rattle.control_server.proofs.clients.Clients.admit_all.Given as goal

abbrev pub invariant-loop : goal.invariant-loop
invariant-loop l = SparesOthers l.now l.initial.self.clients.items l.self.clients.items
