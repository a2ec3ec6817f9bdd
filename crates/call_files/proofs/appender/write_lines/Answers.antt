use Rattle.std.proofs.Common.{rules}
use Rattle.call_files.proofs.appender.write_lines.Goals as goal

pub returns-in_err-write_line-clause-same : goal.returns-in_err-write_line-clause-same
returns-in_err-write_line-clause-same c = search rules

pub returns-in_err-write_line-3-clause-kept : goal.returns-in_err-write_line-3-clause-kept
returns-in_err-write_line-3-clause-kept c = search rules

pub returns-clause-done : goal.returns-clause-done
returns-clause-done c = search rules
