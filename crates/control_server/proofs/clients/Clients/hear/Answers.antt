use Rattle.std.proofs.Common.{rules}
use Rattle.control_server.specs.Clients.{WasHeardOut}
use Rattle.control_server.proofs.Places.{at-place, at-none}
use Rattle.control_server.proofs.clients.Clients.hear.Goals as goal

pub returns-in-Some : goal.returns-in-Some
returns-in-Some c =
    at-place WasHeardOut c.args.place c.args.self.now.clients.items c.in-Some.client.now c.hear.new.self
    (search rules) (search rules) (record {
      served = c.hear.ensures.served;
      fault = c.hear.ensures.fault;
    })

pub returns-in_default : goal.returns-in_default
returns-in_default c = at-none WasHeardOut c.args.place c.args.self.now.clients.items (search rules)
