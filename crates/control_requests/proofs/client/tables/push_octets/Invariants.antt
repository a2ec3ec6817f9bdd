use Rattle.std.proofs.Common.{◌≡◌, ◌++◌, drop}
use Rattle.std.specs.List.{flat_map}
use Rattle.control_requests.specs.Tables.{word_octet}
use Rattle.control_requests.proofs.client.tables.push_octets.Given as goal

abbrev pub invariant-loop-octet : goal.invariant-loop-octet
invariant-loop-octet l =
    l.word.items ++ flat_map word_octet (drop l.octet-index l.octets)
    ≡ l.initial.word.items ++ flat_map word_octet l.octets
