use Rattle.std.proofs.Common.{refl}
use Rattle.csv.specs.Writing.{default_writer, row_text}
use Rattle.call_records.specs.Columns.{row_columns}
use Rattle.call_records.specs.declared.call_row.RowTexts.{RowTexts}
use Rattle.call_files.proofs.LedgerLaws.{on_ok_gives}
use Rattle.call_files.proofs.spelling.RowSpellingSpellingCallRow.spell.Goals as goal

pub returns : goal.returns
returns c =
    let texts : RowTexts = record { peer = c.peer.result; opened = c.as_str.result; ended = c.as_str-2.result } in
    record {
      line = on_ok_gives c.push_row.result
          (λ is. (row_text default_writer (row_columns c.args.row.now texts), (texts, c.peer.ensures, refl), is))
          c.push_row.ensures.ok;
    }
