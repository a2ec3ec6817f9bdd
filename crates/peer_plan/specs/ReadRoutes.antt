-- A list of routes that are read one by one and compared with one another afterwards.
use Rattle.std.specs.Prelude.{List, Option, Some, None, Result, Ok, Err, if◌then◌else◌}
use Rattle.peer_plan.specs.declared.error.PlanError.{PlanError}
use Rattle.peer_plan.specs.declared.error.PlanError.TheVariants as error
use Rattle.peer_plan.specs.declared.route.Route.{Route}
use Rattle.peer_plan.specs.Reading.{has_same_way}

-- the routes, unless the next one has a fault
abbrev pub routes_before : List Route → Option PlanError → Result (List Route) PlanError
routes_before routes None = Ok routes
routes_before routes (Some fault) = Err fault

-- two routes of one prefix and one source come before that fault
abbrev pub routes_apart : List Route → Option PlanError → Result (List Route) PlanError
routes_apart routes fault = if has_same_way routes then Err error.SameRoute else routes_before routes fault
