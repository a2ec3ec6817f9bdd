use Rattle.std.proofs.Common.{arith}
use Rattle.udp_wires.proofs.BitLaws.{high, nearest_high, nearest_low}
use Rattle.udp_wires.proofs.socket_set.SocketSet.first_from.Goals as goal

pub returns-then-above-ne0-clause-first : goal.returns-then-above-ne0-clause-first
returns-then-above-ne0-clause-first c =
    let near = nearest_high c.args.self.bits c.args.from c.requires (omega arith) (omega (arith, c.if-above-ne0.true)) in
    record { there = near.there; within = near.within; first = near.first }

pub returns-clause-first : goal.returns-clause-first
returns-clause-first c =
    let near = nearest_low c.args.self.bits c.args.from c.requires (omega arith) (omega (arith, c.if-above-ne0.false))
    (omega (arith, c.if-self-eq0.false)) in
    record { there = near.there; within = near.within; first = near.first }
