use Rattle.std.proofs.Common.{w64}
use Rattle.std.proofs.lemmas.Nat.Bits.{bit_at_set_other, bit_at_set_same}
use Rattle.udp_wires.proofs.BitLaws.{as_before}
use Rattle.udp_wires.proofs.socket_set.SocketSet.with.Goals as goal

pub returns-clause-there : goal.returns-clause-there
returns-clause-there c = bit_at_set_same w64 c.args.self.bits c.args.place c.requires

pub returns-clause-others : goal.returns-clause-others
returns-clause-others c other within apart = as_before _ _ (bit_at_set_other w64 c.args.self.bits c.args.place c.requires other
    apart)
