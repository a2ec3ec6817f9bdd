-- Rows that the writer received from threads.
use Rattle.std.specs.Prelude.{◌≡◌, List, [], ◌∷◌, ◌++◌}
use Rattle.call_records.specs.Backlog.{BacklogState, with_row}
use Rattle.call_records.specs.Numbering.{Numbering, call_of, after_leg}
use Rattle.call_records.specs.declared.call_row.CallRow.{CallRow}

-- the serials of calls, and the rows that wait for the file
pub record LedgerState : Type 0 where
  pub calls : Numbering
  pub backlog : BacklogState CallRow

-- A row gets the serial of its call, and waits behind the others. If too many wait it is lost, and counted.
abbrev pub with_noted : LedgerState → CallRow → LedgerState
with_noted ledger row = record {
  calls = after_leg ledger.calls row.name row.partner;
  backlog = with_row ledger.backlog (record row { call = call_of ledger.calls row.name row.partner });
}

-- rows one after the other
abbrev pub with_all : LedgerState → List CallRow → LedgerState
with_all ledger [] = ledger
with_all ledger (row ∷ rows) = with_all (with_noted ledger row) rows

-- The rows received from a ring grew by some rows. The ledger took these in their order, then the rows `behind`, and no other
-- row.
abbrev pub IsNoted : List CallRow → List CallRow → List CallRow → LedgerState → LedgerState → Type 0
IsNoted before after behind old new = (rows : List CallRow) × (after ≡ before ++ rows) × (new ≡ with_all old (rows ++ behind))
