use Rattle.std.proofs.Common.{◌≡◌, map, take}
use Rattle.peer_plan.specs.UnknownKeys.{shown_octet}
use Rattle.peer_plan.proofs.key_name.KeyName.new.Given as goal

-- the octets so far
abbrev pub invariant-loop-octet : goal.invariant-loop-octet
invariant-loop-octet l = l.text.bytes ≡ map shown_octet (take l.octet-index l.first)
