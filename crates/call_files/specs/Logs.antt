-- Rows that wait for a file.
use Rattle.std.specs.Prelude.{ℕ, ◌≡◌, ◌⊎◌, ◌+◌, List, ◌++◌, Option, Some, None, IfSome, length, refl}
use Rattle.std.specs.List.{AllZip, concat}
use Rattle.std.specs.Coded.{Coded, code_by, coded×}
use Rattle.call_records.specs.Backlog.{BacklogState, backlog_code}
use Rattle.call_files.specs.Lines.{LineView, FileView, file_code, followed_by, row_octets, whole, begun, beginning_of}
use Rattle.call_files.specs.declared.row_file.Beginning.{Beginning}

pub record LogView (T : Type 0) : Type 0 where
  -- the rows that wait
  pub backlog : BacklogState T
  -- the file, and the row that is on its way to it
  pub file : FileView

abbrev pub one_if_any : Option LineView → ℕ
one_if_any None = 0
one_if_any (Some line) = 1

-- Another file was opened, or the open one was found empty: its content is another one, and its beginning comes first.
abbrev pub IsBegun : FileView → FileView → Type 0
IsBegun old new = (contents : Option (List ℕ)) × (beginning : Beginning)
    × IfSome contents (λ c. beginning ≡ beginning_of c) × (new ≡ begun beginning (record old { contents = contents }))

-- A file couldn't be opened: nothing is known of its content, and each line stays as it was.
abbrev pub IsUnopened : FileView → FileView → Type 0
IsUnopened old new = (contents : Option (List ℕ)) × (new ≡ record old { contents = contents })

-- the file that rows are written to next: the same, or another
abbrev pub IsFaced : FileView → FileView → Type 0
IsFaced old new = (new ≡ old) ⊎ (IsBegun old new ⊎ IsUnopened old new)

module _ {T : Type 0} where
  abbrev pub log_code : Coded T → Coded (LogView T)
  log_code c =
      code_by (BacklogState T × FileView) (coded× (backlog_code c) file_code) (λ l. (l.backlog, l.file))
      (λ p. record { backlog = p.0; file = p.1 }) (λ _. refl)

  -- all rows that aren't written to their ends
  abbrev pub row_count : LogView T → ℕ
  row_count log = length log.backlog.waiting + one_if_any log.file.row

  -- The oldest of the waiting rows became lines, in their order. The file's content, with all that is being written behind it,
  -- grew by exactly these lines. Of the row that was on its way and these, `count` were written to their ends, and the next is
  -- on its way, if there is one.
  abbrev pub IsWritten : (T → List ℕ → Type 0) → LogView T → ℕ → LogView T → Type 0
  IsWritten IsLine old count new =
      (rows : List T) × (lines : List (List ℕ)) × (done : List (List ℕ))
      × AllZip IsLine rows lines
      × (old.backlog ≡ record new.backlog { waiting = rows ++ new.backlog.waiting })
      × (whole new.file ≡ followed_by (concat lines) (whole old.file))
      × (row_octets old.file.row ++ lines ≡ done ++ row_octets new.file.row)
      × (length done ≡ count)

  -- the same, to the file that rows are written to next
  abbrev pub IsMoved : (T → List ℕ → Type 0) → LogView T → ℕ → LogView T → Type 0
  IsMoved IsLine old count new =
      (file : FileView) × IsFaced old.file file × IsWritten IsLine (record old { file = file }) count new
