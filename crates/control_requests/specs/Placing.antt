-- The body of POST /calls.
use Rattle.std.specs.Prelude.{◌≡◌, ℕ, ◌&&◌, nat_le, List, length, codes, IsUtf8, Option, Some, None, option_and_then, Result, Ok}
use Rattle.std.specs.Prelude.{Err, if◌then◌else◌, ⊤}
use Rattle.serde_json.specs.Data.{Data}
use Rattle.serde_json.specs.Find.{get, as_str}
use Rattle.serde_json.specs.Read.{read}
use Rattle.control_requests.specs.declared.placing.PlaceFault.{PlaceFault}
use Rattle.control_requests.specs.declared.placing.PlaceFault.TheVariants.{NotJson, NoPeer, NoNumber, NumberTooLong, Memory}

-- the text of a member that is a string
abbrev pub text_at : List ℕ → Data → Option (List ℕ)
text_at key value = option_and_then as_str (get key value)

-- the number has 1 to 255 octets
abbrev pub with_number : List ℕ → List ℕ → Result (List ℕ × List ℕ) PlaceFault
with_number peer number =
    if nat_le 1 (length number) && nat_le (length number) 255 then Ok (peer, number) else Err NumberTooLong

abbrev pub parts_by : Option (List ℕ) → Option (List ℕ) → Result (List ℕ × List ℕ) PlaceFault
parts_by None number = Err NoPeer
parts_by (Some peer) None = Err NoNumber
parts_by (Some peer) (Some number) = with_number peer number

-- the peer and the number that a value has, or the first fault
abbrev pub parts_of : Data → Result (List ℕ × List ℕ) PlaceFault
parts_of value = parts_by (text_at (codes "peer") value) (text_at (codes "number") value)

-- the body is JSON with this outcome
abbrev pub Says : List ℕ → Result (List ℕ × List ℕ) PlaceFault → Type 0
Says body outcome = (value : Data) × IsUtf8 body × (read body ≡ Some value) × (parts_of value ≡ outcome)

-- the body is no JSON in UTF-8
abbrev pub IsNotJson : List ℕ → Type 0
IsNotJson body = IsUtf8 body → read body ≡ None

-- the fault is one of the body; Memory is always allowed
abbrev pub IsFaultOf : List ℕ → PlaceFault → Type 0
IsFaultOf body NotJson = IsNotJson body
IsFaultOf body NoPeer = Says body (Err NoPeer)
IsFaultOf body NoNumber = Says body (Err NoNumber)
IsFaultOf body NumberTooLong = Says body (Err NumberTooLong)
IsFaultOf body Memory = ⊤

-- the same for the value that was read
abbrev pub IsFaultIn : Data → PlaceFault → Type 0
IsFaultIn value NotJson = ⊥
IsFaultIn value NoPeer = parts_of value ≡ Err NoPeer
IsFaultIn value NoNumber = parts_of value ≡ Err NoNumber
IsFaultIn value NumberTooLong = parts_of value ≡ Err NumberTooLong
IsFaultIn value Memory = ⊤

-- the same for reading alone
abbrev pub IsNoValue : List ℕ → PlaceFault → Type 0
IsNoValue body NotJson = IsNotJson body
IsNoValue body NoPeer = ⊥
IsNoValue body NoNumber = ⊥
IsNoValue body NumberTooLong = ⊥
IsNoValue body Memory = ⊤
