use Rattle.std.proofs.Common.{arith}
use Rattle.laws_of_calls.proofs.LeftDatagrams.{call_in_brings, full_brings, mini_brings, trunk_brings, vnak_brings}
use Rattle.laws_of_calls.proofs.calls.datagrams_bring_few.Goals as goal

pub returns : goal.returns
returns c = record {
  full = full_brings;
  vnaks = vnak_brings;
  mini = mini_brings;
  video = λ first peer frame now. omega arith;
  trunk = trunk_brings;
  calls_in = call_in_brings;
}
