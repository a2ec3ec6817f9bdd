use Rattle.std.proofs.Common.{◌≤◌}
use Rattle.call_files.specs.Logs.{IsWritten}
use Rattle.call_files.proofs.row_log.RowLog.write_all.Given as goal

abbrev pub invariant-loop : goal.invariant-loop
invariant-loop g l =
    IsWritten (g.S.Spelling.is_line l.spelling) l.initial.self l.count l.self × (l.count ≤ l.counter)
