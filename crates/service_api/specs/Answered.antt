-- The answers to requests, by the operation that a request names.
use Rattle.std.specs.Prelude.{◌≡◌, ℕ, List, codes, length, Result, Ok, Err}
use Rattle.control_requests.specs.declared.operation.Operation.{Operation}
use Rattle.control_requests.specs.declared.operation.Operation.TheVariants as operations
use Rattle.control_requests.specs.declared.operation.OperationError.{OperationError}
use Rattle.control_requests.specs.declared.operation.OperationError.TheVariants as operation_errors
use Rattle.control_requests.specs.declared.response.Response.{Response}
use Rattle.control_requests.specs.declared.response.StatusCode.TheVariants as status
use Rattle.peer_plan.specs.Plan.{PlanView}
use Rattle.step_log.specs.Notes.{Noted}
use Rattle.service_api.specs.Accounts.{ShowsAccounts}
use Rattle.service_api.specs.Calls.{ShowsCall, ShowsCalls}
use Rattle.service_api.specs.Orders.{EndsDrain, ShowsDrain, ShowsEndedLeg, ShowsPlace}
use Rattle.service_api.specs.Peers.{ShowsPeers}
use Rattle.service_api.specs.Refused.{IsRefusal}

-- Queries show what the exchange answered, and orders what it did. Nothing else is noted.
abbrev pub Answers : Result Operation OperationError → PlanView → (body : List ℕ) → (now : ℕ) → Response → Noted → Noted → Type 0
Answers (Ok operations.Peers) plan body now answer old new = ShowsPeers plan answer old new
Answers (Ok operations.Calls) plan body now answer old new = ShowsCalls plan now answer old new
Answers (Ok (operations.Call number)) plan body now answer old new = ShowsCall plan number now answer old new
Answers (Ok operations.Accounts) plan body now answer old new = ShowsAccounts (length plan.peers) answer old new
Answers (Ok operations.Table) plan body now answer old new = (new ≡ old) × (answer.status ≡ status.Ok)
Answers (Ok operations.Stop) plan body now answer old new = (new ≡ old) × (answer.status ≡ status.Accepted)
Answers (Ok operations.StopGracefully) plan body now answer old new = ShowsDrain (length plan.peers) answer old new
Answers (Ok operations.Drain) plan body now answer old new = ShowsDrain (length plan.peers) answer old new
Answers (Ok operations.EndDrain) plan body now answer old new = EndsDrain (length plan.peers) answer old new
Answers (Ok operations.Place) plan body now answer old new = ShowsPlace plan body answer old new
Answers (Ok (operations.HangUp number)) plan body now answer old new = ShowsEndedLeg plan number answer old new
Answers (Err operation_errors.NotFound) plan body now answer old new =
    (new ≡ old) × IsRefusal status.NotFound (codes "NotFound") answer
Answers (Err (operation_errors.NotAllowed methods)) plan body now answer old new =
    (new ≡ old) × IsRefusal (status.NotAllowed methods) (codes "NotAllowed") answer
