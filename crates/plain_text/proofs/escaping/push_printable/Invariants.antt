use Rattle.std.proofs.Common.{◌≡◌, ◌++◌, drop}
use Rattle.std.specs.List.{flat_map}
use Rattle.plain_text.specs.Printable.{printable_octet}
use Rattle.plain_text.proofs.escaping.push_printable.Given as goal

abbrev pub invariant-loop-octet : goal.invariant-loop-octet
invariant-loop-octet l =
    l.text.items ++ flat_map printable_octet (drop l.octet-index l.octets)
    ≡ l.initial.text.items ++ flat_map printable_octet l.octets
