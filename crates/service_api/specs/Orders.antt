-- The answers to orders of clients (POST /calls, DELETE /calls/<number>, POST /drain, DELETE /drain, POST /stop/graceful).
use Rattle.std.specs.Prelude.{◌≡◌, ◌<◌, ◌⊎◌, ℕ, ◌++◌, ◌-◌, ◌^◌, min, List, [], ◌∷◌, length, sum, codes, decimal, string_bytes}
use Rattle.std.specs.Prelude.{Bool, true, false, Option, None, Some, Result, Ok, Err, IfOk, OnErr, OnOk, position}
use Rattle.call_book.specs.declared.leg_name.LegName.{LegName}
use Rattle.control_requests.specs.Placing.{IsFaultOf, Says}
use Rattle.control_requests.specs.declared.placing.PlaceFault.{PlaceFault}
use Rattle.control_requests.specs.declared.placing.PlaceFault.TheVariants as faults
use Rattle.control_requests.specs.declared.response.Response.{Response}
use Rattle.control_requests.specs.declared.response.StatusCode.{StatusCode}
use Rattle.control_requests.specs.declared.response.StatusCode.TheVariants as status
use Rattle.exchange_core.specs.Denial.{denied_since}
use Rattle.exchange_core.specs.Draining.{drained}
use Rattle.exchange_core.specs.Names.{named_since}
use Rattle.exchange_core.specs.declared.answers.CallError.{CallError}
use Rattle.exchange_core.specs.declared.answers.CallError.TheVariants as call_errors
use Rattle.exchange_core.specs.PrintedNames.{call_error_text, order_error_text}
use Rattle.peer_lock.specs.declared.errors.OrderError.{OrderError}
use Rattle.peer_lock.specs.declared.steps.Status.{Status}
use Rattle.peer_plan.specs.Plan.{IsInRange, PlanView, counts_of, range_of}
use Rattle.peer_plan.specs.Reading.{is_named}
use Rattle.step_log.specs.Notes.{Noted, note}
use Rattle.step_log.specs.declared.made.Made.TheVariants as mades
use Rattle.service_api.specs.Refused.{IsNoLeg, IsRefusal}

-- ---- drains

-- the pass once peers were asked for the number of their legs, from place 0 on, one after another; their answers, the last one
-- first
abbrev pub asked_for_legs : List ℕ → Noted → Noted
asked_for_legs [] pass = pass
asked_for_legs (legs ∷ before) pass = note (mades.CountLegs (length before) legs) (asked_for_legs before pass)

-- each of so many peers was asked once, in order, nothing else was noted, and these are their legs together
pub record CountsLegs (count legs : ℕ) (old new : Noted) : Type 0 where
  pub answers : List ℕ
  pub one_each : length answers ≡ count
  pub noted : new ≡ asked_for_legs answers old
  pub sum_is : legs ≡ min (sum answers) (2 ^ 32 - 1)

-- all peers drain, and the answer has the number of legs that are left
pub record ShowsDrain (count : ℕ) (answer : Response) (old new : Noted) : Type 0 where
  pub legs : ℕ
  pub counts : CountsLegs count legs (drained count true old) new
  pub status_is : answer.status ≡ status.Accepted
  pub body : string_bytes answer.body ≡ codes "{\"legs\":" ++ decimal legs ++ codes "}"

-- no peer drains from now on, or the service may not end its drain
abbrev pub EndsDrain : ℕ → Response → Noted → Noted → Type 0
EndsDrain count answer old new =
    ((new ≡ drained count false old) × (answer.status ≡ status.Ok) × (string_bytes answer.body ≡ codes "{}"))
    ⊎ ((new ≡ old) × IsRefusal status.Conflict (codes "Draining") answer)

-- ---- calls

-- the answer names a leg
pub record NamesLeg (code : StatusCode) (name : LegName) (answer : Response) : Type 0 where
  pub status_is : answer.status ≡ code
  pub body : string_bytes answer.body
      ≡ codes "{\"number\":" ++ decimal name.number ++ codes ",\"serial\":" ++ decimal name.serial ++ codes "}"

-- the exchange was told to call a peer, with this result
pub record WasCalled (peer : ℕ) (called : Result LegName CallError) (old new : Noted) : Type 0 where
  pub name : IfOk called (λ name. (name.peer ≡ peer) × (named_since old new ≡ Some name))
  pub placed : OnOk called (denied_since old new ≡ None)
  pub unmade : called ≡ Err call_errors.BadNumber → new ≡ old
  pub refused : OnErr called (new.credit ≡ old.credit)

-- the answer by the result of a call
abbrev pub AnswersCall : Result LegName CallError → Response → Type 0
AnswersCall (Ok name) answer = NamesLeg status.Created name answer
AnswersCall (Err call_errors.BadNumber) answer = IsRefusal status.Unprocessable (codes "BadNumber") answer
AnswersCall (Err error) answer = IsRefusal status.Conflict (call_error_text error) answer

-- the exchange was told to call the first peer of a name, and the answer is by the result
pub record PlacesCall (plan : PlanView) (name : List ℕ) (answer : Response) (old new : Noted) : Type 0 where
  pub peer : ℕ
  pub peer_is : position (is_named name) plan.peers ≡ Some peer
  pub called : Result LegName CallError
  pub was : WasCalled peer called old new
  pub answers : AnswersCall called answer

-- an answer to an order to call a peer of this name
abbrev pub ShowsPlaced : PlanView → List ℕ → Response → Noted → Noted → Type 0
ShowsPlaced plan name answer old new =
    PlacesCall plan name answer old new
    ⊎ ((new ≡ old) × (IsRefusal status.Unavailable (codes "Draining") answer
    ⊎ ((position (is_named name) plan.peers ≡ None) × IsRefusal status.Unprocessable (codes "NoPeer") answer)))

-- the name of a fault of a body
abbrev pub fault_text : PlaceFault → List ℕ
fault_text faults.NotJson = codes "NotJson"
fault_text faults.NoPeer = codes "NoPeer"
fault_text faults.NoNumber = codes "NoNumber"
fault_text faults.NumberTooLong = codes "NumberTooLong"
fault_text faults.Memory = codes "Memory"

-- the answer by a fault of the body; without memory there is none
abbrev pub AnswersFault : PlaceFault → Response → Type 0
AnswersFault faults.Memory answer = ⊥
AnswersFault faults.NotJson answer = IsRefusal status.BadRequest (codes "NotJson") answer
AnswersFault fault answer = IsRefusal status.Unprocessable (fault_text fault) answer

-- an answer to POST /calls with this body
abbrev pub ShowsPlace : PlanView → List ℕ → Response → Noted → Noted → Type 0
ShowsPlace plan body answer old new =
    ((peer : List ℕ) × (number : List ℕ) × Says body (Ok (peer, number)) × ShowsPlaced plan peer answer old new)
    ⊎ ((fault : PlaceFault) × IsFaultOf body fault × (new ≡ old) × AnswersFault fault answer)

-- ---- hanging up

-- the reason why a leg doesn't hang up: the exchange's, or that the plan has no such peer
abbrev pub IsKept : List ℕ → Noted → Noted → Type 0
IsKept why old new =
    ((error : OrderError) × (why ≡ order_error_text error) × (new.credit ≡ old.credit))
    ⊎ ((why ≡ codes "NoLeg") × (new ≡ old))

-- the answer to an order to hang up a leg that was found
abbrev pub ShowsHungUp : LegName → Response → Noted → Noted → Type 0
ShowsHungUp name answer old new =
    ((denied_since old new ≡ None) × NamesLeg status.Ok name answer)
    ⊎ ((why : List ℕ) × IsKept why old new × IsRefusal status.Conflict why answer)

-- the leg with a local number, by a query of the peer that has the number
abbrev pub FindsLeg : PlanView → (number : ℕ) → Option (ℕ × LegName) → Noted → Noted → Type 0
FindsLeg plan number None old new =
    ((peer : ℕ) × IsInRange (range_of (counts_of plan.peers) peer) number × (new ≡ note (mades.Look peer number None) old))
    ⊎ ((new ≡ old) × ((peer : ℕ) → peer < length plan.peers → IsInRange (range_of (counts_of plan.peers) peer) number → ⊥))
FindsLeg plan number (Some found) old new =
    (status : Status) × (found.1 ≡ status.name) × IsInRange (range_of (counts_of plan.peers) found.0) number
    × (new ≡ note (mades.Look found.0 number (Some status)) old)

-- an answer to DELETE /calls/<number>
abbrev pub ShowsEndedLeg : PlanView → (number : ℕ) → Response → Noted → Noted → Type 0
ShowsEndedLeg plan number answer old new =
    ((mid : Noted) × (found : ℕ × LegName) × FindsLeg plan number (Some found) old mid × ShowsHungUp found.1 answer mid new)
    ⊎ (FindsLeg plan number None old new × IsNoLeg answer)
