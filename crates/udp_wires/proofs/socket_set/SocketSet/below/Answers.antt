use Rattle.std.proofs.Common.{arith}
use Rattle.udp_wires.proofs.BitLaws.{below_count}
use Rattle.udp_wires.proofs.socket_set.SocketSet.below.Goals as goal

pub returns : goal.returns
returns c place within = below_count c.args.count c.requires place within
