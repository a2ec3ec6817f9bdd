-- A line on its way to a file.
use Rattle.std.specs.Prelude.{ℕ, ◌-◌, List, [], ◌∷◌, ◌++◌, Option, None, Some, drop, length, option_map, if◌then◌else◌, refl}
use Rattle.std.specs.Str.{bytes_eq}
use Rattle.std.specs.Coded.{Coded, code_by, coded×, coded_list, coded_option, coded_ℕ}
use Rattle.call_files.specs.declared.row_file.Beginning.{Beginning}
use Rattle.call_files.specs.declared.row_file.Beginning.TheVariants.{Empty, Lines, CutLine}

-- its octets, and the number of those that were written
pub record LineView : Type 0 where
  pub octets : List ℕ
  pub written : ℕ

-- the octets that weren't written yet
abbrev pub rest_of : LineView → List ℕ
rest_of line = drop line.written line.octets

-- none of it was written, or all of it
abbrev pub unwritten : LineView → LineView
unwritten line = record line { written = 0 }

abbrev pub left_out : LineView → LineView
left_out line = record line { written = length line.octets }

-- a file's content, if it is known, with these octets behind it
abbrev pub followed_by : List ℕ → Option (List ℕ) → Option (List ℕ)
followed_by octets contents = option_map (λ c. c ++ octets) contents

-- the rest of a row, if one is being written
abbrev pub row_rest : Option LineView → List ℕ
row_rest None = []
row_rest (Some row) = rest_of row

-- the octets of the row that is being written, if there is one
abbrev pub row_octets : Option LineView → List (List ℕ)
row_octets None = []
row_octets (Some row) = row.octets ∷ []

-- a file's content, and behind it the rest of the lines being written: the end of a cut line, the header, the row
abbrev pub with_lines : LineView → LineView → Option LineView → Option (List ℕ) → Option (List ℕ)
with_lines line_end header row contents =
    followed_by (row_rest row) (followed_by (rest_of header) (followed_by (rest_of line_end) contents))

-- a file with the lines that are being written to it
pub record FileView : Type 0 where
  -- its content, if it is known
  pub contents : Option (List ℕ)
  -- the end of a line that was cut
  pub line_end : LineView
  pub header : LineView
  -- the row that is being written, if there is one
  pub row : Option LineView

abbrev pub line_code : Coded LineView
line_code =
    code_by (List ℕ × ℕ) (coded× (coded_list coded_ℕ) coded_ℕ) (λ l. (l.octets, l.written))
    (λ p. record { octets = p.0; written = p.1 }) (λ _. refl)

abbrev pub file_code : Coded FileView
file_code =
    code_by (Option (List ℕ) × (LineView × (LineView × Option LineView)))
    (coded× (coded_option (coded_list coded_ℕ)) (coded× line_code (coded× line_code (coded_option line_code))))
    (λ f. (f.contents, (f.line_end, (f.header, f.row))))
    (λ p. record { contents = p.0; line_end = p.1.0; header = p.1.1.0; row = p.1.1.1 }) (λ _. refl)

-- a file's content, and behind it all that is being written to it
abbrev pub whole : FileView → Option (List ℕ)
whole file = with_lines file.line_end file.header file.row file.contents

-- the state of a file's content: nothing, or lines, of which the last has an end or not
abbrev pub beginning_of : List ℕ → Beginning
beginning_of [] = Empty
beginning_of octets = if bytes_eq (drop (length octets - 1) octets) (10 ∷ []) then Lines else CutLine

-- What is written to a file before a row, by the state of its content: the header if it is empty, the end of a line if its
-- last line was cut. A row that was being written to another file starts again.
abbrev pub begun : Beginning → FileView → FileView
begun Empty file = record file {
  line_end = left_out file.line_end;
  header = unwritten file.header;
  row = option_map unwritten file.row;
}
begun CutLine file = record file {
  line_end = unwritten file.line_end;
  header = left_out file.header;
  row = option_map unwritten file.row;
}
begun Lines file = record file {
  line_end = left_out file.line_end;
  header = left_out file.header;
  row = option_map unwritten file.row;
}
