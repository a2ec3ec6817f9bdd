use Rattle.std.proofs.Common.{◌≡◌, ◌+◌, length}
use Rattle.udp_workers.specs.Intake.{media_octets}
use Rattle.udp_workers.proofs.intake.weight_of_trunk.Given as goal

abbrev pub invariant-loop-entry : goal.invariant-loop-entry
invariant-loop-entry l =
    (goal.iterator-loop-entry).can_next l.left × (goal.iterator-loop-entry).is_finite l.left
    × (l.weight.entries + length l.left ≡ length l.frame.entries)
    × (l.weight.octets + media_octets l.left ≡ media_octets l.frame.entries)
    × (l.weight.openings ≡ 0)
