use Rattle.std.proofs.Common.{◌≡◌, ◌+◌, take, drop, ap, subst, ◌∙◌}
use Rattle.call_files.specs.Lines.{LineView, followed_by, rest_of}
use Rattle.call_files.proofs.LineLaws.{followed_by_written}
use Rattle.call_files.proofs.appender.write_line.Goals as goal

pub loop-preserved : goal.loop-preserved
loop-preserved g c =
    let line : LineView = c.loop.line in
    let count = c.in_ok-count.count in
    let before = g.F.RowFile.contents c.loop.file in
    let after = g.F.RowFile.contents c.append.new.self in
    let same : c.wrote.new.self ≡ record line { written = line.written + count } = c.wrote.ensures in
    let taken : after ≡ followed_by (take count (rest_of line)) before =
    subst (λ rest. after ≡ followed_by (take count rest) before) c.rest.ensures c.in_ok-count.ensures.taken in (
      ap (λ l. l.octets) same ∙ c.loop.invariant.0,
      ap (λ l. followed_by (rest_of l) after) same
          ∙ ap (λ contents. followed_by (drop (line.written + count) line.octets) contents) taken
          ∙ followed_by_written before line.octets line.written count
          ∙ c.loop.invariant.1,
    )
