-- How soon the requests of clients are answered.
use Rattle.std.specs.Prelude.{ℕ, List, Result, Ok, Err}
use Rattle.control_requests.specs.Operation.{operation_at}
use Rattle.control_requests.specs.declared.operation.Operation.{Operation}
use Rattle.control_requests.specs.declared.operation.Operation.TheVariants.{Table, Peers, Calls, Call, Accounts, Place, HangUp, Stop}
use Rattle.control_requests.specs.declared.operation.Operation.TheVariants.{StopGracefully, Drain, EndDrain}
use Rattle.control_requests.specs.declared.operation.OperationError.{OperationError}
use Rattle.control_requests.specs.declared.urgency.Urgency.{Urgency}
use Rattle.control_requests.specs.declared.urgency.Urgency.TheVariants.{Order, Query}

-- an operation that changes calls or the service is an order, and one that reads is a query
abbrev pub urgency_in : Operation → Urgency
urgency_in Table = Query
urgency_in Peers = Query
urgency_in Calls = Query
urgency_in (Call number) = Query
urgency_in Accounts = Query
urgency_in Place = Order
urgency_in (HangUp number) = Order
urgency_in Stop = Order
urgency_in StopGracefully = Order
urgency_in Drain = Order
urgency_in EndDrain = Order

-- a request that names no operation changes nothing
abbrev pub urgency_by : Result Operation OperationError → Urgency
urgency_by (Ok operation) = urgency_in operation
urgency_by (Err fault) = Query

-- the urgency of a method and a path at the control socket
abbrev pub urgency_of : List ℕ → List ℕ → Urgency
urgency_of method path = urgency_by (operation_at method path)
