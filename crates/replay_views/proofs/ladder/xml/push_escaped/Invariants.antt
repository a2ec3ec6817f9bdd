use Rattle.std.proofs.Common.{◌≡◌, ◌++◌, drop}
use Rattle.std.specs.List.{flat_map}
use Rattle.replay_views.specs.Xml.{xml_octet}
use Rattle.replay_views.proofs.ladder.xml.push_escaped.Given as goal

abbrev pub invariant-loop-octet : goal.invariant-loop-octet
invariant-loop-octet l =
    l.out.items ++ flat_map xml_octet (drop l.octet-index l.text) ≡ l.initial.out.items ++ flat_map xml_octet l.text
