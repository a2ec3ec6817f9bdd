-- How log lines show the numbers of calls.
use Rattle.std.specs.Prelude.{ℕ, ◌==◌, ◌-◌, ◌/◌, ◌++◌, min, List, [], drop, length, codes, if◌then◌else◌}
use Rattle.std.specs.List.{flat_map}
use Rattle.plain_text.specs.Printable.{escaped, printable_octet}
use Rattle.service_log.specs.declared.end_lines.ShownNumbers.{ShownNumbers}
use Rattle.service_log.specs.declared.end_lines.ShownNumbers.TheVariants.{Full, LastFour, No}

-- the octets of a number that are shown: all; the last four, and at most half of them; none
abbrev pub shown_octets : ShownNumbers → List ℕ → List ℕ
shown_octets Full octets = octets
shown_octets LastFour octets = drop (length octets - min 4 (length octets / 2)) octets
shown_octets No octets = []

-- an octet in quotes: a quote is escaped too
abbrev pub quoted_octet : ℕ → List ℕ
quoted_octet octet = if octet == 34 then escaped octet else printable_octet octet

-- a text in quotes
abbrev pub quoted_text : List ℕ → List ℕ
quoted_text octets = codes "\"" ++ (flat_map quoted_octet octets ++ codes "\"")
