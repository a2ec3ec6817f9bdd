use Rattle.std.proofs.Common.{rules}
use Rattle.call_files.proofs.appender.Appender.open.Goals as goal

pub returns-in-Ok-clause-ok : goal.returns-in-Ok-clause-ok
returns-in-Ok-clause-ok g c =
    (g.F.RowFile.contents c.open.new.self, c.in-Ok.beginning, c.in-Ok.ensures, search rules)

pub returns-in-Err-clause-err : goal.returns-in-Err-clause-err
returns-in-Err-clause-err g c = (g.F.RowFile.contents c.open.new.self, search rules)
