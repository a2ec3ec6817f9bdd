-- Rows on their way to a file.
use Rattle.std.proofs.Common.{◌≡◌, ℕ, suc, ◌+◌, List, [], ◌∷◌, ◌++◌, Option, Some, None, length, drop, slice_get, option_map}
use Rattle.std.proofs.Common.{unwrap_or, false, Result, Ok, Err, OnOk, is_err, refl, sym, ap, ◌∙◌, arith, inl, inr}
use Rattle.std.proofs.lemmas.List.{append_assoc, append-nil, length-append}
use Rattle.std.specs.List.{AllZip, concat}
use Rattle.call_records.specs.Backlog.{BacklogState, without_front}
use Rattle.call_files.specs.Lines.{LineView, FileView, followed_by, rest_of, row_rest, row_octets, unwritten, whole, begun}
use Rattle.call_files.specs.Logs.{LogView, IsFaced, IsWritten, IsMoved, row_count, one_if_any}
use Rattle.call_files.specs.declared.row_file.Beginning.{Beginning}
use Rattle.call_files.specs.declared.row_file.Beginning.TheVariants.{Empty, Lines, CutLine}

-- a content that nothing follows stays as it is
pub followed_by_nothing : (contents : Option (List ℕ)) → followed_by [] contents ≡ contents
followed_by_nothing None = refl
followed_by_nothing (Some c) = ap (λ l. Some l) (append-nil c)

-- a statement about values that aren't errors, of one of them
pub on_ok : {A E : Type 0} {P : Type 0} (r : Result A E) → false ≡ is_err r → OnOk r P → P
on_ok (Ok value) is on = on
on_ok (Err error) is on = cc

-- octets, and behind them others
pub followed_by_both : (first second : List ℕ) (contents : Option (List ℕ))
    → followed_by second (followed_by first contents) ≡ followed_by (first ++ second) contents
followed_by_both first second None = refl
followed_by_both first second (Some c) = ap (λ l. Some l) (append_assoc c first second)

pub concat_both : (first second : List (List ℕ)) → concat (first ++ second) ≡ concat first ++ concat second
concat_both [] second = refl
concat_both (line ∷ first) second =
    ap (λ l. line ++ l) (concat_both first second) ∙ sym (append_assoc line (concat first) (concat second))

-- a file without a row, and its content with the lines before the row
pub whole_without_row : (file : FileView) → file.row ≡ None
    → whole file ≡ followed_by (rest_of file.header) (followed_by (rest_of file.line_end) file.contents)
whole_without_row file none =
    ap (λ row. followed_by (row_rest row)
    (followed_by (rest_of file.header) (followed_by (rest_of file.line_end) file.contents))) none
    ∙ followed_by_nothing (followed_by (rest_of file.header) (followed_by (rest_of file.line_end) file.contents))

pub row_is_one : (row : Option LineView) → length (row_octets row) ≡ one_if_any row
row_is_one None = refl
row_is_one (Some line) = refl

unwritten_is_one : (row : Option LineView) → one_if_any (option_map unwritten row) ≡ one_if_any row
unwritten_is_one None = refl
unwritten_is_one (Some line) = refl

moved_row : (beginning : Beginning) (file : FileView) → one_if_any (begun beginning file).row ≡ one_if_any file.row
moved_row Empty file = unwritten_is_one file.row
moved_row Lines file = unwritten_is_one file.row
moved_row CutLine file = unwritten_is_one file.row

-- a row that was on its way is so before another file
faced_row : (old new : FileView) → IsFaced old new → one_if_any new.row ≡ one_if_any old.row
faced_row old new (inl same) = ap (λ f. one_if_any f.row) same
faced_row old new (inr (inl (contents, beginning, is, same))) =
    ap (λ f. one_if_any f.row) same ∙ moved_row beginning (record old { contents = contents })
faced_row old new (inr (inr (contents, same))) = ap (λ f. one_if_any f.row) same

module _ {T : Type 0} where
  pub lines_both : (IsLine : T → List ℕ → Type 0) (rows more : List T) (lines others : List (List ℕ))
      → AllZip IsLine rows lines → AllZip IsLine more others → AllZip IsLine (rows ++ more) (lines ++ others)
  lines_both IsLine [] more [] others is are = are
  lines_both IsLine (row ∷ rows) more (line ∷ lines) others is are =
      (is.0, lines_both IsLine rows more lines others is.1 are)
  lines_both IsLine [] more (line ∷ lines) others is are = elim is [ ]
  lines_both IsLine (row ∷ rows) more [] others is are = elim is [ ]

  pub as_many_lines : (IsLine : T → List ℕ → Type 0) (rows : List T) (lines : List (List ℕ))
      → AllZip IsLine rows lines → length rows ≡ length lines
  as_many_lines IsLine [] [] is = refl
  as_many_lines IsLine (row ∷ rows) (line ∷ lines) is = ap suc (as_many_lines IsLine rows lines is.1)
  as_many_lines IsLine [] (line ∷ lines) is = elim is [ ]
  as_many_lines IsLine (row ∷ rows) [] is = elim is [ ]

  -- no row that waits becomes the one that is written
  pub none_goes : (IsLine : T → List ℕ → Type 0) (old new : LogView T) (done : List (List ℕ))
      → old.backlog ≡ new.backlog → whole new.file ≡ whole old.file
      → row_octets old.file.row ≡ done ++ row_octets new.file.row → IsWritten IsLine old (length done) new
  none_goes IsLine old new done same octets row = (
    [],
    [],
    done,
    tt,
    same,
    octets ∙ sym (followed_by_nothing (whole old.file)),
    append-nil (row_octets old.file.row) ∙ row,
    refl,
  )

  -- the oldest row that waits becomes the one that is written
  pub row_goes : (IsLine : T → List ℕ → Type 0) (old new : LogView T) (row : T) (line : List ℕ) → IsLine row line
      → old.file.row ≡ None → old.backlog ≡ record new.backlog { waiting = row ∷ new.backlog.waiting }
      → new.file ≡ record old.file { row = Some (record { octets = line; written = 0 }) } → IsWritten IsLine old 0 new
  row_goes IsLine old new row line is none rows file =
      let before : whole old.file
      ≡ followed_by (rest_of old.file.header) (followed_by (rest_of old.file.line_end) old.file.contents)
      = whole_without_row old.file none in
      let after : whole new.file ≡ followed_by line (whole old.file) =
      ap (λ f. whole f) file ∙ ap (λ c. followed_by line c) (sym before) in (
        row ∷ [],
        line ∷ [],
        [],
        (is, tt),
        rows,
        after ∙ ap (λ l. followed_by l (whole old.file)) (sym (append-nil line)),
        ap (λ r. row_octets r ++ line ∷ []) none ∙ sym (ap (λ f. row_octets f.row) file),
        refl,
      )

  pub goes_on : (IsLine : T → List ℕ → Type 0) (a b c : LogView T) (n m : ℕ)
      → IsWritten IsLine a n b → IsWritten IsLine b m c → IsWritten IsLine a (n + m) c
  goes_on IsLine a b c n m (rows, lines, done, are, waiting, octets, row, count)
      (more, others, rest, also, waiting', octets', row', count') = (
        rows ++ more,
        lines ++ others,
        done ++ rest,
        lines_both IsLine rows more lines others are also,
        waiting ∙ ap (λ (b : BacklogState T). record b { waiting = rows ++ b.waiting }) waiting'
            ∙ ap (λ (l : List T). record c.backlog { waiting = l }) (sym (append_assoc rows more c.backlog.waiting)),
        octets' ∙ ap (λ w. followed_by (concat others) w) octets
            ∙ followed_by_both (concat lines) (concat others) (whole a.file)
            ∙ ap (λ l. followed_by l (whole a.file)) (sym (concat_both lines others)),
        sym (append_assoc (row_octets a.file.row) lines others) ∙ ap (λ l. l ++ others) row
            ∙ append_assoc done (row_octets b.file.row) others ∙ ap (λ l. done ++ l) row'
            ∙ sym (append_assoc done rest (row_octets c.file.row)),
        length-append done rest ∙ ap (λ k. k + length rest) count ∙ ap (λ k. n + k) count',
      )

  -- no row is lost
  pub rows_stay : (IsLine : T → List ℕ → Type 0) (old new : LogView T) (count : ℕ)
      → IsWritten IsLine old count new → count + row_count new ≡ row_count old
  rows_stay IsLine old new count (rows, lines, done, are, waiting, octets, row, counted) =
      let e1 : length old.backlog.waiting ≡ length rows + length new.backlog.waiting =
      ap (λ b. length b.waiting) waiting ∙ length-append rows new.backlog.waiting in
      let e2 : length rows ≡ length lines = as_many_lines IsLine rows lines are in
      let e3 : length (row_octets old.file.row) + length lines ≡ length done + length (row_octets new.file.row) =
      sym (length-append (row_octets old.file.row) lines) ∙ ap (λ l. length l) row
      ∙ length-append done (row_octets new.file.row) in
      let e4 : length (row_octets old.file.row) ≡ one_if_any old.file.row = row_is_one old.file.row in
      let e5 : length (row_octets new.file.row) ≡ one_if_any new.file.row = row_is_one new.file.row in
      omega arith

  pub rows_move : (IsLine : T → List ℕ → Type 0) (old new : LogView T) (count : ℕ)
      → IsMoved IsLine old count new → count + row_count new ≡ row_count old
  rows_move IsLine old new count (file, faced, written) =
      rows_stay IsLine (record old { file = file }) new count written
      ∙ ap (λ n. length old.backlog.waiting + n) (faced_row old.file file faced)

  some_same : (one other : T) → Some one ≡ Some other → one ≡ other
  some_same one other is = ap (λ o. unwrap_or o one) is

  pub front_leaves : (b : BacklogState T) (row : T) → Some row ≡ slice_get b.waiting 0
      → b ≡ record (without_front b) { waiting = row ∷ (without_front b).waiting }
  front_leaves b row is = leaves b.waiting is where
    leaves : (left : List T) → Some row ≡ slice_get left 0
        → record b { waiting = left } ≡ record b { waiting = row ∷ drop 1 left }
    leaves [] is = cc
    leaves (first ∷ left) is = ap (λ r. record b { waiting = r ∷ left }) (sym (some_same row first is))
