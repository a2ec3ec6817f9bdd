-- How the first fault of a text is printed.
use Rattle.std.specs.Prelude.{ℕ, List, ◌++◌, codes}
use Rattle.peer_plan.specs.declared.error.PlanError.{PlanError}
use Rattle.peer_plan.specs.declared.error.PlanError.TheVariants as error
use Rattle.peer_plan.specs.Keys.{key_name}

abbrev pub error_text : PlanError → List ℕ
error_text error.NotToml = codes "NotToml"
error_text (error.Missing key) = codes "Missing " ++ key_name key
error_text (error.Range key) = codes "Range " ++ key_name key
error_text error.SameName = codes "SameName"
error_text error.SameEndpoint = codes "SameEndpoint"
error_text error.UnknownPeer = codes "UnknownPeer"
error_text error.SameRoute = codes "SameRoute"
error_text (error.Unknown name) = codes "Unknown " ++ name
error_text error.Memory = codes "Memory"
