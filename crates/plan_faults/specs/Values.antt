-- Values as they are written.
use Rattle.std.specs.Prelude.{ℕ, Bool, ◌==◌, ◌||◌, List, slice_index}
use Rattle.std.specs.List.{list_any}

-- a text begins with a quote
abbrev pub is_text : List ℕ → Bool
is_text value = slice_index value 0 == 34 || slice_index value 0 == 39

-- a value with a brace may have keys in it
abbrev pub has_brace : List ℕ → Bool
has_brace value = list_any (λ octet. octet == 123) value
