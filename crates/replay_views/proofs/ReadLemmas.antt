-- Texts, read back from XML.
use Rattle.std.proofs.Common.{◌≡◌, ℕ, List, [], ◌∷◌, ◌++◌, Bool, true, false, nat_eq, refl, ap, ◌∙◌, arith}
use Rattle.std.proofs.lemmas.Bool.Decides.{nat_tests}
use Rattle.std.specs.List.{flat_map}
use Rattle.replay_views.specs.Xml.{xml_octet, read_text}

one_octet : (octet : ℕ) (rest : List ℕ) → read_text (xml_octet octet ++ rest) ≡ octet ∷ read_text rest
one_octet octet rest = grind (arith, nat_tests)

pub read_back : (octets : List ℕ) → read_text (flat_map xml_octet octets) ≡ octets
read_back [] = refl
read_back (octet ∷ octets) =
    one_octet octet (flat_map xml_octet octets) ∙ ap (λ (rest : List ℕ). octet ∷ rest) (read_back octets)
