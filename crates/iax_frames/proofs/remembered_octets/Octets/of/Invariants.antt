use Rattle.std.proofs.Common.{◌≡◌, take}
use Rattle.iax_frames.proofs.remembered_octets.Octets.of.Given as goal

-- the octets so far
abbrev pub invariant-loop-octet : goal.invariant-loop-octet
invariant-loop-octet l = l.looked ≡ take l.octet-index l.octets
