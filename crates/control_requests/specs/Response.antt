-- The responses to clients, in HTTP/1.1 (RFC 9110, section 15; RFC 9112, section 4).
use Rattle.std.specs.Prelude.{ℕ, ◌++◌, List, [], length, codes, decimal, Bool, true, false}
use Rattle.serde_json.specs.Data.{Data, object, member, no_members, string}
use Rattle.serde_json.specs.Written.{compact_text}
use Rattle.control_requests.specs.declared.response.StatusCode.{StatusCode}
use Rattle.control_requests.specs.declared.response.StatusCode.TheVariants as status
use Rattle.control_requests.specs.declared.operation.Methods.{Methods}

abbrev pub code_of : StatusCode → ℕ
code_of status.Ok = 200
code_of status.Created = 201
code_of status.Accepted = 202
code_of status.BadRequest = 400
code_of status.NotFound = 404
code_of (status.NotAllowed methods) = 405
code_of status.Conflict = 409
code_of status.TooLarge = 413
code_of status.Unprocessable = 422
code_of status.HeadTooLarge = 431
code_of status.Unavailable = 503

abbrev pub reason_of : StatusCode → List ℕ
reason_of status.Ok = codes "OK"
reason_of status.Created = codes "Created"
reason_of status.Accepted = codes "Accepted"
reason_of status.BadRequest = codes "Bad Request"
reason_of status.NotFound = codes "Not Found"
reason_of (status.NotAllowed methods) = codes "Method Not Allowed"
reason_of status.Conflict = codes "Conflict"
reason_of status.TooLarge = codes "Content Too Large"
reason_of status.Unprocessable = codes "Unprocessable Content"
reason_of status.HeadTooLarge = codes "Request Header Fields Too Large"
reason_of status.Unavailable = codes "Service Unavailable"

-- the methods by GET, POST and DELETE, as the field Allow lists them
abbrev pub listed : Bool → Bool → Bool → List ℕ
listed true true true = codes "GET, POST, DELETE"
listed true true false = codes "GET, POST"
listed true false true = codes "GET, DELETE"
listed true false false = codes "GET"
listed false true true = codes "POST, DELETE"
listed false true false = codes "POST"
listed false false true = codes "DELETE"
listed false false false = []

abbrev pub allow_text : Methods → List ℕ
allow_text methods = listed methods.get methods.post methods.delete

-- the line Allow, which 405 alone has
abbrev pub allow_line : StatusCode → List ℕ
allow_line (status.NotAllowed methods) = codes "Allow: " ++ allow_text methods ++ codes "\r\n"
allow_line status.Ok = []
allow_line status.Created = []
allow_line status.Accepted = []
allow_line status.BadRequest = []
allow_line status.NotFound = []
allow_line status.Conflict = []
allow_line status.TooLarge = []
allow_line status.Unprocessable = []
allow_line status.HeadTooLarge = []
allow_line status.Unavailable = []

-- the status line, the fields that each response has, with the octets of its body, and those that only some have; an empty line;
-- the body
abbrev pub response_text : StatusCode → List ℕ → List ℕ
response_text status body =
    codes "HTTP/1.1 " ++ (decimal (code_of status) ++ (codes " " ++ (reason_of status
    ++ (codes "\r\nContent-Type: application/json\r\nContent-Length: " ++ (decimal (length body)
    ++ (codes "\r\nConnection: close\r\n" ++ (allow_line status ++ (codes "\r\n" ++ body))))))))

-- {"error": why}
abbrev pub error_data : List ℕ → Data
error_data why = object (member (codes "error") (string why) no_members)

-- the response that names a fault
abbrev pub refusal_text : StatusCode → List ℕ → List ℕ
refusal_text status why = response_text status (compact_text (error_data why))
