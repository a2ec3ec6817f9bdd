use Rattle.std.proofs.Common.{◌≡◌, ◌++◌, drop}
use Rattle.std.specs.List.{flat_map}
use Rattle.service_state.specs.Metrics.{text_octet}
use Rattle.service_state.proofs.spelling.push_text.Given as goal

abbrev pub invariant-loop-octet : goal.invariant-loop-octet
invariant-loop-octet l =
    l.octets.items ++ flat_map (text_octet l.is_value) (drop l.octet-index l.text)
    ≡ l.initial.octets.items ++ flat_map (text_octet l.is_value) l.text
