-- The line of a row in the file.
use Rattle.std.specs.Prelude.{ℕ, ◌≡◌, List, slice_get, option_map}
use Rattle.csv.specs.Writing.{default_writer, row_text}
use Rattle.call_records.specs.Columns.{row_columns}
use Rattle.call_records.specs.Rows.{or_nothing}
use Rattle.call_records.specs.declared.call_row.CallRow.{CallRow}
use Rattle.call_records.specs.declared.call_row.RowTexts.{RowTexts}
use Rattle.peer_plan.specs.Plan.{PlanView}

-- the name of a peer, by its place in the plan; empty if there is no such place
abbrev pub peer_text : PlanView → ℕ → List ℕ
peer_text plan place = or_nothing (option_map (λ peer. peer.name) (slice_get plan.peers place))

-- A row's line is the record of its columns in CSV (RFC 4180), with a line feed at its end. Its two dates are texts that
-- `jiff` gives, of which no clause speaks.
abbrev pub IsRowLine : PlanView → CallRow → List ℕ → Type 0
IsRowLine plan row line = (texts : RowTexts) × (texts.peer.now ≡ peer_text plan row.name.peer)
    × (line ≡ row_text default_writer (row_columns row texts))
