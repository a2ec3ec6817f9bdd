use Rattle.std.proofs.Common.{rules}
use Rattle.control_server.proofs.Places.{spared}
use Rattle.control_server.proofs.clients.Clients.make_place.Goals as goal

pub returns-in-Some : goal.returns-in-Some
returns-in-Some c =
    spared c.args.now c.in-Some.place c.args.self.now.clients.items
    c.swap_remove-closed.new.self.items c.swap_remove-closed.result (search rules) (search rules) (search rules)
    (search rules)
