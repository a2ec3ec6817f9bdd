use Rattle.std.proofs.Common.{rules, refl, inl, inr}
use Rattle.call_files.specs.declared.row_file.Beginning.TheVariants.{Empty}
use Rattle.call_files.proofs.appender.Appender.follow_name.Goals as goal

pub returns-in-Emptied : goal.returns-in-Emptied
returns-in-Emptied g c =
    inr (inl (g.F.RowFile.contents c.look.new.self, Empty, search rules, search rules))
