-- The operations that requests name.
use Rattle.std.specs.Prelude.{ℕ, ◌==◌, ◌&&◌, nat_le, List, take, drop, codes, slice_index, Option, Some, None, is_some}
use Rattle.std.specs.Prelude.{option_and_then, Result, Ok, Err, if◌then◌else◌}
use Rattle.std.specs.Str.{bytes_eq}
use Rattle.control_requests.specs.Digits.{number_of}
use Rattle.control_requests.specs.declared.operation.Operation.{Operation}
use Rattle.control_requests.specs.declared.operation.Operation.TheVariants.{Table, Peers, Calls, Call, Accounts, Place, HangUp, Stop}
use Rattle.control_requests.specs.declared.operation.Operation.TheVariants.{StopGracefully, Drain, EndDrain}
use Rattle.control_requests.specs.declared.operation.Methods.{Methods}
use Rattle.control_requests.specs.declared.operation.OperationError.{OperationError}
use Rattle.control_requests.specs.declared.operation.OperationError.TheVariants.{NotFound, NotAllowed}
use Rattle.control_requests.specs.declared.operation.Row.{Row}

-- a local call number as a path has it: 1 to 32,767, in digits that don't begin with 0
abbrev pub call_number : List ℕ → Option ℕ
call_number digits =
    if slice_index digits 0 == 48 then None
    else option_and_then (λ n. if nat_le 1 n && nat_le n 32767 then Some n else None) (number_of digits)

-- the operations of GET, POST and DELETE
abbrev pub row : Option Operation → Option Operation → Option Operation → Option Row
row get post delete = Some (record { get = get; post = post; delete = delete })

-- the row of a path that begins with /calls/
abbrev pub call_row : List ℕ → Option Row
call_row path =
    if bytes_eq (take 7 path) (codes "/calls/")
    then option_and_then (λ n. row (Some (Call n)) None (Some (HangUp n))) (call_number (drop 7 path))
    else None

-- the table: the operations of GET, POST and DELETE at a path
abbrev pub row_of : List ℕ → Option Row
row_of path =
    if bytes_eq path (codes "/") then row (Some Table) None None else (
    if bytes_eq path (codes "/peers") then row (Some Peers) None None else (
    if bytes_eq path (codes "/calls") then row (Some Calls) (Some Place) None else (
    if bytes_eq path (codes "/accounts") then row (Some Accounts) None None else (
    if bytes_eq path (codes "/stop") then row None (Some Stop) None else (
    if bytes_eq path (codes "/stop/graceful") then row None (Some StopGracefully) None else (
    if bytes_eq path (codes "/drain") then row None (Some Drain) (Some EndDrain) else
    call_row path))))))

-- the operation of a method in a row
abbrev pub operation_by : Row → List ℕ → Option Operation
operation_by row method =
    if bytes_eq method (codes "GET") then row.get else (
    if bytes_eq method (codes "POST") then row.post else (
    if bytes_eq method (codes "DELETE") then row.delete else None))

-- the methods that a row has
abbrev pub methods_of : Row → Methods
methods_of row = record { get = is_some row.get; post = is_some row.post; delete = is_some row.delete }

-- the operation, if the row has one for that method
abbrev pub allowed : Row → Option Operation → Result Operation OperationError
allowed row None = Err (NotAllowed (methods_of row))
allowed row (Some operation) = Ok operation

abbrev pub operation_in : Option Row → List ℕ → Result Operation OperationError
operation_in None method = Err NotFound
operation_in (Some row) method = allowed row (operation_by row method)

-- the operation that a method and a path name
abbrev pub operation_at : List ℕ → List ℕ → Result Operation OperationError
operation_at method path = operation_in (row_of path) method
