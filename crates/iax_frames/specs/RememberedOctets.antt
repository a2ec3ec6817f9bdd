-- The octets up to a place.
use Rattle.std.specs.Prelude.{ℕ, List, [], ◌∷◌, ◌++◌}
use Rattle.iax_frames.specs.declared.remembered_octets.End.{End}
use Rattle.iax_frames.specs.declared.remembered_octets.End.TheVariants.{Start, After}

abbrev pub octets_at : End → List ℕ
octets_at Start = []
octets_at (After before octet) = before.value ++ octet.value ∷ []
