use Rattle.std.proofs.Common.{rules}
use Rattle.control_server.proofs.Places.{at-place, at-none}
use Rattle.control_server.proofs.clients.Clients.answer.Goals as goal

pub returns-in-Some : goal.returns-in-Some
returns-in-Some c =
    at-place _ c.args.place c.args.self.now.clients.items c.in-Some.client.now c.answer.new.self
    (search rules) (search rules) (search rules)

pub returns-in_default : goal.returns-in_default
returns-in_default c = at-none _ c.args.place c.args.self.now.clients.items (search rules)
