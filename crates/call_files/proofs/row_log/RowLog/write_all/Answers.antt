use Rattle.std.proofs.Common.{◌≡◌, ℕ, ◌+◌, List, [], length, refl, sym, ap, subst, ◌∙◌, rules}
use Rattle.call_files.specs.Lines.{row_octets}
use Rattle.call_files.specs.Logs.{LogView, IsWritten, one_if_any}
use Rattle.call_files.proofs.LogLaws.{none_goes, goes_on, row_is_one}
use Rattle.call_files.proofs.row_log.RowLog.write_all.Goals as goal
use Rattle.call_files.proofs.row_log.RowLog.write_all.Goals.{then-is_row, else-is_row}

pub loop-init : goal.loop-init
loop-init g c =
    (none_goes (g.S.Spelling.is_line c.args.spelling.now) c.args.self.now c.args.self.now [] refl refl refl, search rules)

pub loop-preserved : goal.loop-preserved
loop-preserved g c =
    let IsLine = g.S.Spelling.is_line c.args.spelling.now in
    let next : LogView g.row.T.Denot = record { backlog = c.self.inside.waiting; file = c.go_on.new.self } in
    let done : List (List ℕ) = row_octets c.loop.self.file.row in
    let one : length done ≡ one_if_any c.loop.self.file.row = row_is_one c.loop.self.file.row in
    let written : IsWritten IsLine c.loop.self (length done) next =
    none_goes IsLine c.loop.self next done (search rules) (search rules) (search rules) in
    let count : c.loop.count + (length done + 0) ≡ c.if-is_row.count =
    elim c.if-is_row.branch [ then-is_row w ↦ search rules | else-is_row w ↦ search rules ] in (
      subst (λ n. IsWritten IsLine c.args.self.now n c.take_next.new.self) count
          (goes_on IsLine c.args.self.now c.loop.self c.take_next.new.self c.loop.count (length done + 0) c.loop.invariant.0
          (goes_on IsLine c.loop.self next c.take_next.new.self (length done) 0 written c.take_next.ensures)),
      elim c.if-is_row.branch [ then-is_row w ↦ search rules | else-is_row w ↦ search rules ],
    )

pub returns-then-not-take_next-clause-written : goal.returns-then-not-take_next-clause-written
returns-then-not-take_next-clause-written g c =
    let IsLine = g.S.Spelling.is_line c.args.spelling.now in
    let next : LogView g.row.T.Denot = record { backlog = c.self.inside.waiting; file = c.go_on.new.self } in
    let done : List (List ℕ) = row_octets c.loop.self.file.row in
    let one : length done ≡ one_if_any c.loop.self.file.row = row_is_one c.loop.self.file.row in
    let written : IsWritten IsLine c.loop.self (length done) next =
    none_goes IsLine c.loop.self next done (search rules) (search rules) (search rules) in
    let count : c.loop.count + (length done + 0) ≡ c.if-is_row.count =
    elim c.if-is_row.branch [ then-is_row w ↦ search rules | else-is_row w ↦ search rules ] in
    subst (λ n. IsWritten IsLine c.args.self.now n c.take_next.new.self) count
    (goes_on IsLine c.args.self.now c.loop.self c.take_next.new.self c.loop.count (length done + 0) c.loop.invariant.0
    (goes_on IsLine c.loop.self next c.take_next.new.self (length done) 0 written c.take_next.ensures))
