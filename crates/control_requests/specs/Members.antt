-- The members of JSON objects.
use Rattle.std.specs.Prelude.{ℕ, List, [], ◌∷◌, Option, Some, None, option_copied}
use Rattle.std.specs.Borrow.{Bor}
use Rattle.serde_json.specs.Data.{Data, null, number, unsigned, string, object, Members, no_members, put}
use Rattle.control_requests.specs.declared.json_text.Shown.{Shown}
use Rattle.control_requests.specs.declared.json_text.Shown.TheVariants.{Number, NumberOrNull, Text, TextOrNull}

-- a number, or null
abbrev pub optional : Option ℕ → Data
optional None = null
optional (Some n) = number (unsigned n)

-- a text, or null
abbrev pub optional_text : Option (List ℕ) → Data
optional_text None = null
optional_text (Some text) = string text

-- the value of a member
abbrev pub shown_data : Shown → Data
shown_data (Number n) = number (unsigned n)
shown_data (NumberOrNull n) = optional n
shown_data (Text text) = string text.now
shown_data (TextOrNull text) = optional_text (option_copied text)

-- a member: its name and its value
abbrev pub Named : Type 0
Named = Bor (List ℕ) × Shown

-- the members after these were added in order; a later member replaces an earlier one of its name
abbrev pub with_shown : List Named → Members → Members
with_shown [] members = members
with_shown (named ∷ more) members = with_shown more (put named.0.now (shown_data named.1) members)

-- an object with these members and no others
abbrev pub object_of : List Named → Data
object_of named = object (with_shown named no_members)
