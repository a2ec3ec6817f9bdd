-- The parcels up to a place.
use Rattle.std.specs.Prelude.{List, [], ◌∷◌, ◌++◌}
use Rattle.udp_wires.specs.Parcels.{Parcel}
use Rattle.udp_wires.specs.declared.traffic.Last.{Last}
use Rattle.udp_wires.specs.declared.traffic.Last.TheVariants.{Nothing, After}

abbrev pub parcels_at : Last → List Parcel
parcels_at Nothing = []
parcels_at (After before endpoint octets) = before.value ++ record { endpoint = endpoint.value; octets = octets } ∷ []
