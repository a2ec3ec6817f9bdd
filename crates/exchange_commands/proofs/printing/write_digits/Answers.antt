use Rattle.std.proofs.Common.{arith, rules}
use Rattle.exchange_commands.proofs.DigitLemmas.{all_written, written}
use Rattle.exchange_commands.proofs.printing.write_digits.Goals as goal

pub loop-octet-preserved : goal.loop-octet-preserved
loop-octet-preserved g c =
    written _ _ _ c.args.octets.now c.encode_to_slice.new.output c.loop-octet.octet-index c.encode_to_slice.result
    (omega (arith, c.loop-octet-test.true)) c.loop-octet.invariant (search rules) c.encode_to_slice.ensures.written
    (search rules)

pub returns : goal.returns
returns g c =
    all_written _ _ c.args.octets.now c.loop-octet.octet-index (omega (arith, c.loop-octet-test.false)) c.loop-octet.invariant
