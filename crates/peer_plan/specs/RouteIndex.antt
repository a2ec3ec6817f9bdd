-- How a route is found by its prefix and its source.
use Rattle.std.specs.Prelude.{◌≡◌, ◌≤◌, ◌<◌, ℕ, List, [], length, Option, Some, None, true, nat_eq, slice_get, All}
use Rattle.std.specs.List.{list_any, IsDistinct}
use Rattle.std.specs.List.Sorted.{IsSortedBy}
use Rattle.std.specs.Option.{option_cmp}
use Rattle.std.specs.Ordering.{nat_cmp, ordering_then, is_lt}
use Rattle.std.specs.declared.cmp.Ordering.{Ordering}
use Rattle.std.specs.Cmp.Lexicographic.{slice_cmp}
use Rattle.peer_plan.specs.declared.route.Route.{Route}

-- a prefix and a source
abbrev pub Way : Type 0
Way = List ℕ × Option ℕ

abbrev pub way_of : Option Route → Way
way_of None = ([], None)
way_of (Some route) = (route.prefix, route.source)

-- those of the route at a place
abbrev pub way_at : List Route → ℕ → Way
way_at routes place = way_of (slice_get routes place)

-- The order of prefixes, octet by octet. Of one prefix the route without a source comes first.
abbrev pub way_cmp : Way → Way → Ordering
way_cmp way other = ordering_then (slice_cmp nat_cmp way.0 other.0) (option_cmp nat_cmp way.1 other.1)

-- the place of each route, once, in the order of their prefixes and sources
pub record IsIndex (routes : List Route) (index : List ℕ) : Type 0 where
  pub within : All (λ place. place < length routes) index
  pub whole : (place : ℕ) → place < length routes → list_any (nat_eq place) index ≡ true
  pub once : IsDistinct nat_eq index
  pub sorted : IsSortedBy (λ place other. is_lt (way_cmp (way_at routes place) (way_at routes other))) index

-- an index, and a length that no prefix exceeds
pub record IsIndexed (routes : List Route) (index : List ℕ) (longest : ℕ) : Type 0 where
  pub ordered : IsIndex routes index
  pub most : All (λ route. length route.prefix ≤ longest) routes
