use Rattle.std.proofs.Common.{◌≡◌, ℕ, List, ◌++◌, ◌∷◌, [], OnOk, refl, sym, ap, subst, ◌∙◌, rules}
use Rattle.call_files.specs.Logs.{LogView}
use Rattle.call_files.proofs.LogLaws.{none_goes, row_goes, front_leaves, on_ok}
use Rattle.call_files.proofs.row_log.RowLog.take_next.Goals as goal

pub returns-in_default : goal.returns-in_default
returns-in_default g c =
    none_goes (g.S.Spelling.is_line c.args.spelling.now) c.args.self.now c.args.self.now [] refl refl refl

pub returns-then-is_err : goal.returns-then-is_err
returns-then-is_err g c =
    none_goes (g.S.Spelling.is_line c.args.spelling.now) c.args.self.now c.args.self.now [] refl refl refl

pub returns : goal.returns
returns g c =
    let spelled = on_ok c.spell.result c.if-is_err.ensures.value c.spell.ensures.line in
    row_goes (g.S.Spelling.is_line c.args.spelling.now) c.args.self.now
    (record { backlog = c.take-taken.new.self; file = c.take.new.self }) c.in-Some.row.now c.spell.new.octets.items
    (subst (λ l. g.S.Spelling.is_line c.args.spelling.now c.in-Some.row.now l) (search rules) spelled.1)
    c.requires (search rules) (search rules)
