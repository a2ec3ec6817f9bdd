-- The lines of a text, and those of a report.
use Rattle.std.specs.Prelude.{◌≡◌, ℕ, ◌+◌, ◌==◌, ◌&&◌, ◌||◌, Bool, true, false, nat_le, nat_lt, if◌then◌else◌}
use Rattle.std.specs.Prelude.{List, count_by, length, min, take}
use Rattle.std.specs.List.{list_all}
use Rattle.plan_faults.specs.declared.report.Counts.{Counts}
use Rattle.plain_text.specs.declared.text_buffer.TextBuffer.{TextBuffer}

-- the number of lines that end in a text
abbrev pub line_ends : List ℕ → ℕ
line_ends text = count_by (λ octet. octet == 10) text

-- the number of the line that has the octet at a place, from 1
abbrev pub line_at : List ℕ → ℕ → ℕ
line_at text at = line_ends (take (min at (length text)) text) + 1

-- printable ASCII
abbrev pub is_shown : ℕ → Bool
is_shown octet = nat_le 32 octet && nat_le octet 126

-- an octet of a report: printable ASCII, or the end of a line
abbrev pub is_reported : ℕ → Bool
is_reported octet = is_shown octet || octet == 10

-- a report has count more lines, and nothing but printable ASCII in them, unless memory ran out
abbrev pub Adds : ℕ → TextBuffer → TextBuffer → Type 0
Adds count before after = after.is_cut ≡ false →
    (before.is_cut ≡ false) ×
    (line_ends after.octets.items ≡ line_ends before.octets.items + count) ×
    (list_all is_reported before.octets.items ≡ true → list_all is_reported after.octets.items ≡ true)

-- the lines of these faults or warnings, and one more if there are others
abbrev pub lines_of : Counts → ℕ
lines_of counts = counts.written + (if nat_lt 0 counts.more then 1 else 0)
