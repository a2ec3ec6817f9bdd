use Rattle.std.proofs.Common.{drop}
use Rattle.std.specs.Io.KnownBytes.{Keeps, append_known}
use Rattle.hex.specs.Hex.{encode_lower}
use Rattle.exchange_commands.proofs.printing.write_digits.Given as goal

-- what the writer has, and then the digits of the octets that are left
abbrev pub invariant-loop-octet : goal.invariant-loop-octet
invariant-loop-octet g l =
    Keeps (append_known (g.W.Write.contents l.fn.writer) (encode_lower l.octets))
    (append_known (g.W.Write.contents l.writer) (encode_lower (drop l.octet-index l.octets)))
