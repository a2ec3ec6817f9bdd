use Rattle.std.proofs.Common.{arith, w64}
use Rattle.std.proofs.lemmas.Nat.Bits.{bit_at_clear_other, bit_at_clear_same}
use Rattle.udp_wires.proofs.BitLaws.{as_before}
use Rattle.udp_wires.proofs.socket_set.SocketSet.without.Goals as goal

pub returns-clause-gone : goal.returns-clause-gone
returns-clause-gone c there =
    let gone = bit_at_clear_same w64 c.args.self.bits c.args.place c.requires in
    omega (arith, gone, there)

pub returns-clause-others : goal.returns-clause-others
returns-clause-others c other within apart = as_before _ _ (bit_at_clear_other w64 c.args.self.bits c.args.place c.requires other
    within apart)
