use Rattle.std.proofs.Common.{drop}
use Rattle.std.specs.List.{enumerate_from, flat_map}
use Rattle.std.specs.Io.KnownBytes.{Keeps, append_known}
use Rattle.worker_setup.specs.Reports.{report_line, reports_text}
use Rattle.worker_setup.proofs.reports.write_reports.Given as goal

-- what the writer has, and then the lines of the workers that are left
abbrev pub invariant-loop-place : goal.invariant-loop-place
invariant-loop-place g l =
    Keeps (append_known (g.W.Write.contents l.initial.writer) (reports_text l.reports))
    (append_known (g.W.Write.contents l.writer)
    (flat_map report_line (enumerate_from l.place-counter (drop l.place-counter l.reports))))
