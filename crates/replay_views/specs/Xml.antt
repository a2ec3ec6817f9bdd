-- Text in XML ("Character Data and Markup", "Predefined Entities"), and the text that a reader gets back.
use Rattle.std.specs.Prelude.{ℕ, ◌==◌, List, [], ◌∷◌, ◌++◌, codes, Option, Some, None, if◌then◌else◌}
use Rattle.std.specs.Str.{bytes_eq}

-- an octet of a text: one that could be read as markup is written as an entity
abbrev pub xml_octet : ℕ → List ℕ
xml_octet octet =
    if octet == 38 then codes "&amp;" else (
    if octet == 60 then codes "&lt;" else (
    if octet == 62 then codes "&gt;" else (
    if octet == 34 then codes "&quot;" else octet ∷ [])))

-- the octet of an entity's name
abbrev pub entity : List ℕ → ℕ
entity name =
    if bytes_eq name (codes "amp") then 38 else (
    if bytes_eq name (codes "lt") then 60 else (
    if bytes_eq name (codes "gt") then 62 else 34))

-- a text, as a reader of XML decodes it; name is the part of an entity's name read so far, if the reader is within one
abbrev pub read_from : Option (List ℕ) → List ℕ → List ℕ
read_from name [] = []
read_from None (octet ∷ octets) =
    if octet == 38 then read_from (Some []) octets else octet ∷ read_from None octets
read_from (Some name) (octet ∷ octets) =
    if octet == 59 then entity name ∷ read_from None octets else read_from (Some (name ++ octet ∷ [])) octets

abbrev pub read_text : List ℕ → List ℕ
read_text octets = read_from None octets
