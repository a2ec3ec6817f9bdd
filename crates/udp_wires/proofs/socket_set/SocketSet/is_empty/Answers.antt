use Rattle.std.proofs.Common.{◌≡◌, arith}
use Rattle.std.proofs.lemmas.Bool.Decides.{nat_tests}
use Rattle.udp_wires.proofs.BitLaws.{none_of_zero, zero_of_none}
use Rattle.udp_wires.proofs.socket_set.SocketSet.is_empty.Goals as goal

pub returns : goal.returns
returns c = (
  λ empty. none_of_zero c.args.self.bits (grind (arith, nat_tests, empty)),
  λ none.
      let zero : c.args.self.bits ≡ 0 = zero_of_none c.args.self.bits (omega arith) none in
      grind (arith, nat_tests, zero),
)
