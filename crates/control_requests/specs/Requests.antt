-- The requests that clients send, by the grammar of RFC 9112.
use Rattle.std.specs.Prelude.{◌≡◌, ◌<◌, ◌≤◌, ◌⊎◌, ℕ, List, Bool, ◌&&◌, not, length, take, drop, map, codes, Option, Some, None}
use Rattle.std.specs.Prelude.{option_map, if◌then◌else◌}
use Rattle.std.specs.Char.{to_ascii_lowercase}
use Rattle.std.specs.List.{list_any, find}
use Rattle.std.specs.Str.{bytes_eq}
use Rattle.httparse.specs.Grammar.{RequestHead, print_request, ReadsRequest, HasNoRequest, NeverHasRequest, MayBecomeRequest}
use Rattle.httparse.specs.Spans.{name_and_value, RequestExceeds, RequestOverflows}
use Rattle.control_requests.specs.Digits.{number_of}
use Rattle.control_requests.specs.declared.request.Reading.{Reading}
use Rattle.control_requests.specs.declared.request.Reading.TheVariants.{Whole, Part, HeadTooLarge, BodyTooLarge, Malformed}
use Rattle.control_requests.specs.declared.request.Request.{Request}

-- names are the same in upper and lower case (RFC 9110, section 5.1)
abbrev pub same_name : List ℕ → List ℕ → Bool
same_name name found = bytes_eq (map to_ascii_lowercase found) (map to_ascii_lowercase name)

-- a field, as its name and its value, has that name
abbrev pub is_named : List ℕ → List ℕ × List ℕ → Bool
is_named name field = same_name name field.0

-- a field has that name, and another value
abbrev pub is_other : List ℕ → List ℕ → List ℕ × List ℕ → Bool
is_other name value field = is_named name field && not (bytes_eq field.1 value)

-- the length of the body by the value of the first field Content-Length; nothing if another such field has another value
abbrev pub length_by : {F : Type 0} → (F → List ℕ × List ℕ) → List F → Option (List ℕ) → Option ℕ
length_by see fields None = Some 0
length_by see fields (Some value) =
    if list_any (λ field. is_other (codes "content-length") value (see field)) fields then None else number_of value

-- the value of the first field Content-Length
abbrev pub first_length : {F : Type 0} → (F → List ℕ × List ℕ) → List F → Option (List ℕ)
first_length see fields =
    option_map (λ field. (see field).1) (find (λ field. is_named (codes "content-length") (see field)) fields)

-- the same for fields seen as names and values; nothing if there are transfer codings
abbrev pub length_in : {F : Type 0} → (F → List ℕ × List ℕ) → List F → Option ℕ
length_in see fields =
    if list_any (λ field. is_named (codes "transfer-encoding") (see field)) fields then None
    else length_by see fields (first_length see fields)

-- the length of the body in octets, by the names and values of the fields (RFC 9112, section 6.3)
abbrev pub body_length : List (List ℕ × List ℕ) → Option ℕ
body_length fields = length_in (λ field. field) fields

-- the octets begin with a head, and rest follows it
pub record Begins (octets : List ℕ) (head : RequestHead) (rest : List ℕ) : Type 0 where
  pub reads : ReadsRequest octets head rest
  pub rest_is : rest ≡ drop (length (print_request head)) octets

-- the head has at most 8,192 octets and states a body of n octets
pub record States (head : RequestHead) (n : ℕ) : Type 0 where
  pub small : length (print_request head) ≤ 8192
  pub length_is : body_length (map name_and_value head.fields) ≡ Some n

-- the request is the method and the target of the head, and the n octets behind it
pub record IsOf (request : Request) (head : RequestHead) (rest : List ℕ) (n : ℕ) : Type 0 where
  pub method : request.method.now ≡ head.method
  pub path : request.path.now ≡ head.target
  pub body : request.body.now ≡ take n rest
  pub len : length request.body.now ≡ n
  pub small : n ≤ 4096

-- A front of the octets, with an empty line added, is a head of more than 32 fields. Each head that the octets begin has
-- more than 32 fields, too.
abbrev pub HasTooManyFields : List ℕ → Type 0
HasTooManyFields octets = RequestExceeds 32 octets × RequestOverflows 32 octets

-- the meaning of octets: a complete request; the front of one; a head or a body that is too large; or octets that begin no
-- request, or a head that doesn't state the length of its body
abbrev pub Reads : List ℕ → Reading → Type 0
Reads octets (Whole request) =
    (head : RequestHead) × (rest : List ℕ) × (n : ℕ) × Begins octets head rest × States head n × IsOf request head rest n
Reads octets Part =
    (HasNoRequest octets × MayBecomeRequest octets × (length octets < 8192))
    ⊎ ((head : RequestHead) × (rest : List ℕ) × (n : ℕ) × Begins octets head rest × States head n
    × (length rest < n) × (n ≤ 4096))
Reads octets HeadTooLarge =
    (HasNoRequest octets × MayBecomeRequest octets × (8192 ≤ length octets))
    ⊎ (((head : RequestHead) × (rest : List ℕ) × Begins octets head rest × (8192 < length (print_request head)))
    ⊎ HasTooManyFields octets)
Reads octets BodyTooLarge =
    (head : RequestHead) × (rest : List ℕ) × (n : ℕ) × Begins octets head rest × States head n × (4096 < n)
Reads octets Malformed =
    NeverHasRequest octets
    ⊎ ((head : RequestHead) × (rest : List ℕ) × Begins octets head rest × (length (print_request head) ≤ 8192)
    × (body_length (map name_and_value head.fields) ≡ None))
