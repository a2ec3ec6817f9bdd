use Rattle.std.proofs.Common.{◌≡◌}
use Rattle.call_files.specs.Lines.{followed_by, rest_of}
use Rattle.call_files.proofs.appender.write_line.Given as goal

abbrev pub invariant-loop : goal.invariant-loop
invariant-loop g l =
    (l.line.octets ≡ l.initial.line.octets)
    × (followed_by (rest_of l.line) (g.F.RowFile.contents l.file) ≡ followed_by (rest_of l.initial.line)
    (g.F.RowFile.contents l.initial.file))
