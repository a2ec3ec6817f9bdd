use Rattle.std.proofs.Common.{◌≡◌, ℕ, List, ◌++◌, subst}
use Rattle.std.specs.Prelude.{OnOk}
use Rattle.csv.specs.Writing.{default_writer, row_text}
use Rattle.call_records.proofs.call_row.push_header.Goals as goal

pub returns-clause-ok : goal.returns-clause-ok
returns-clause-ok c =
    subst
    (λ (fields : List (List ℕ)). OnOk c.push_record.result
    (c.push_record.new.out.items ≡ c.args.out.now.items ++ row_text default_writer fields))
    c.in_ok-fields.ensures.fields
    c.push_record.ensures.ok
