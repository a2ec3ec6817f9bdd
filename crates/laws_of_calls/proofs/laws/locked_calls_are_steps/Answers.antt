use Rattle.std.proofs.Common.{refl}
use Rattle.laws_of_calls.proofs.Locked.{datagrams, rejected_calls, calls_in, calls_out, orders, ticks, looks, retiring}
use Rattle.laws_of_calls.proofs.laws.locked_calls_are_steps.Goals as goal

pub returns : goal.returns
returns c = record {
  datagrams = datagrams;
  rejected_calls = rejected_calls;
  calls_in = calls_in;
  calls_out = calls_out;
  orders = orders;
  ticks = ticks;
  looks = looks;
  retiring = retiring;
  reserves = λ old peer. record { becomes = refl; peers = refl; answers = refl };
  bridges = λ old a b. record { becomes = refl; peers = refl; answers = refl };
  partners = λ old name. record { becomes = refl; peers = refl; answers = refl };
  releases = λ old name. record { becomes = refl; peers = refl; answers = refl };
}
