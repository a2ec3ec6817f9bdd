use Rattle.std.proofs.Common.{◌≡◌, ℕ, [], refl, subst, rules}
use Rattle.call_files.specs.Logs.{LogView, IsFaced, IsWritten}
use Rattle.call_files.proofs.LogLaws.{none_goes, rows_move}
use Rattle.call_files.proofs.row_log.RowLog.write.Goals as goal
use Rattle.call_files.proofs.row_log.RowLog.write.Goals.{then-is_ready, else-is_ready}

pub returns-clause-lines : goal.returns-clause-lines
returns-clause-lines g c =
    let IsLine = g.S.Spelling.is_line c.args.spelling.now in
    let file = c.is_ready.new.self in
    let opened : LogView g.row.T.Denot = record { backlog = c.self.inside.waiting; file = file } in
    let start : LogView g.row.T.Denot = record c.args.self.now { file = file } in
    let last : LogView g.row.T.Denot = record { backlog = c.self-2.inside.waiting; file = c.sync_in_time.new.self } in
    let is_start : opened ≡ start = search rules in
    let is_last : c.if-is_ready.self ≡ last = search rules in
    let before : c.self.inside.appender ≡ c.args.self.now.file = search rules in
    let faced : IsFaced c.args.self.now.file file = subst (λ f. IsFaced f file) before c.is_ready.ensures in
    let written : IsWritten IsLine opened c.if-is_ready.count c.if-is_ready.self =
    elim c.if-is_ready.branch [
      | then-is_ready w ↦
          let count : w.write_all-count.result ≡ c.if-is_ready.count = search rules in
          let log : w.write_all-count.new.self ≡ c.if-is_ready.self = search rules in
          subst (λ n. IsWritten IsLine opened n c.if-is_ready.self) count
          (subst (λ l. IsWritten IsLine opened w.write_all-count.result l) log w.write_all-count.ensures.written)
      | else-is_ready w ↦
          let count : 0 ≡ c.if-is_ready.count = search rules in
          let log : opened ≡ c.if-is_ready.self = search rules in
          subst (λ n. IsWritten IsLine opened n c.if-is_ready.self) count
          (subst (λ l. IsWritten IsLine opened 0 l) log (none_goes IsLine opened opened [] refl refl refl))
    ] in (
      file,
      faced,
      subst (λ l. IsWritten IsLine l c.if-is_ready.count last) is_start
          (subst (λ l. IsWritten IsLine opened c.if-is_ready.count l) is_last written),
    )

pub returns-clause-count : goal.returns-clause-count
returns-clause-count g c =
    rows_move (g.S.Spelling.is_line c.args.spelling.now) c.args.self.now
    (record { backlog = c.self-2.inside.waiting; file = c.sync_in_time.new.self }) c.if-is_ready.count (returns-clause-lines g c)
