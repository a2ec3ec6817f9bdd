-- The causes of a call's end: the codes of Q.850, and this project's texts ("Information Elements").
use Rattle.std.specs.Prelude.{ℕ, ◌+◌, ◌/◌, ◌%◌, ◌==◌, nat_le, List, [], ◌∷◌, ◌++◌, codes, Option, None, Some, unwrap_or}
use Rattle.std.specs.Prelude.{if◌then◌else◌}
use Rattle.call_signals.specs.declared.cause.Cause.{Cause}
use Rattle.call_signals.specs.declared.cause.Cause.TheVariants.{UnallocatedNumber, NormalClearing, UserBusy, NoUserResponding}
use Rattle.call_signals.specs.declared.cause.Cause.TheVariants.{CallRejected, NoChannelAvailable, Congestion, Other}

abbrev pub cause_code : Cause → ℕ
cause_code UnallocatedNumber = 1
cause_code NormalClearing = 16
cause_code UserBusy = 17
cause_code NoUserResponding = 18
cause_code CallRejected = 21
cause_code NoChannelAvailable = 34
cause_code Congestion = 42
cause_code (Other code) = code

abbrev pub cause_of_code : ℕ → Cause
cause_of_code code =
    if code == 1 then UnallocatedNumber
    else if code == 16 then NormalClearing
    else if code == 17 then UserBusy
    else if code == 18 then NoUserResponding
    else if code == 21 then CallRejected
    else if code == 34 then NoChannelAvailable
    else if code == 42 then Congestion
    else Other code

-- the table of Q.850: a row for each code
abbrev pub name_of_code : ℕ → Option (List ℕ)
name_of_code code =
    if code == 1 then Some (codes "unallocated number")
    else if code == 3 then Some (codes "no route to destination")
    else if code == 16 then Some (codes "normal clearing")
    else if code == 17 then Some (codes "user busy")
    else if code == 18 then Some (codes "no user responding")
    else if code == 19 then Some (codes "no answer from user")
    else if code == 20 then Some (codes "subscriber absent")
    else if code == 21 then Some (codes "call rejected")
    else if code == 22 then Some (codes "number changed")
    else if code == 27 then Some (codes "destination out of order")
    else if code == 28 then Some (codes "invalid number format")
    else if code == 31 then Some (codes "normal, unspecified")
    else if code == 34 then Some (codes "no channel available")
    else if code == 38 then Some (codes "network out of order")
    else if code == 41 then Some (codes "temporary failure")
    else if code == 42 then Some (codes "switching equipment congestion")
    else if code == 44 then Some (codes "requested channel not available")
    else if code == 58 then Some (codes "bearer capability not presently available")
    else if code == 88 then Some (codes "incompatible destination")
    else if code == 102 then Some (codes "recovery on timer expiry")
    else if code == 111 then Some (codes "protocol error, unspecified")
    else if code == 127 then Some (codes "interworking, unspecified")
    else None

-- a code in decimal
abbrev digits_of : ℕ → List ℕ
digits_of code =
    (if nat_le 100 code then (48 + code / 100) ∷ [] else [])
    ++ (if nat_le 10 code then (48 + code / 10 % 10) ∷ [] else [])
    ++ (48 + code % 10) ∷ []

-- a code that has no row
abbrev pub unnamed_text : ℕ → List ℕ
unnamed_text code = codes "cause " ++ digits_of code

abbrev pub text_of_code : ℕ → List ℕ
text_of_code code = unwrap_or (name_of_code code) (unnamed_text code)

abbrev pub cause_text : Cause → List ℕ
cause_text cause = text_of_code (cause_code cause)
