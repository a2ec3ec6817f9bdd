-- The cells of tables for people.
use Rattle.std.specs.Prelude.{ℕ, ◌==◌, List, codes, length, if◌then◌else◌}
use Rattle.std.specs.List.{flat_map}
use Rattle.plain_text.specs.Printable.{escaped, printable_octet}

-- an octet of a word: a space is escaped too
abbrev pub word_octet : ℕ → List ℕ
word_octet octet = if octet == 32 then escaped octet else printable_octet octet

-- a value as one word: an empty one is two quotes
abbrev pub word_text : List ℕ → List ℕ
word_text octets = if length octets == 0 then codes "\"\"" else flat_map word_octet octets
