use Rattle.std.proofs.Common.{arith, subst}
use Rattle.iax_frames.specs.Datagram.{Spells}
use Rattle.udp_workers.proofs.IntakeLaws.{trunk_short}
use Rattle.udp_workers.proofs.intake.weigh.Goals as goal

pub weight_of_trunk-requires-clause-few : goal.weight_of_trunk-requires-clause-few
weight_of_trunk-requires-clause-few c =
    let short = trunk_short c.args.octets.now c.in-Ok-Trunk.frame (subst (Spells c.args.octets.now) c.in-Ok-Trunk.field-0-is
    c.in-Ok-Trunk.ensures.exact) in
    omega arith

pub weight_of_trunk-requires-clause-short : goal.weight_of_trunk-requires-clause-short
weight_of_trunk-requires-clause-short c =
    let short = trunk_short c.args.octets.now c.in-Ok-Trunk.frame (subst (Spells c.args.octets.now) c.in-Ok-Trunk.field-0-is
    c.in-Ok-Trunk.ensures.exact) in
    omega arith
