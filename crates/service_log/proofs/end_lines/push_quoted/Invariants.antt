use Rattle.std.proofs.Common.{◌≡◌, ◌++◌, drop}
use Rattle.std.specs.List.{flat_map}
use Rattle.service_log.specs.Shown.{quoted_octet}
use Rattle.service_log.proofs.end_lines.push_quoted.Given as goal

abbrev pub invariant-loop-octet : goal.invariant-loop-octet
invariant-loop-octet l =
    l.text.items ++ flat_map quoted_octet (drop l.octet-index l.octets)
    ≡ l.initial.text.items ++ flat_map quoted_octet l.octets
