-- Whether the steps of peers are spent, and which legs calls from outside opened, by the answers.
use Rattle.std.specs.Prelude.{◌≡◌, ◌++◌, Bool, true, false, List, [], ◌∷◌, Ok, Err}
use Rattle.call_book.specs.declared.leg_name.LegName.{LegName}
use Rattle.call_control.specs.declared.place.Place.{Place}
use Rattle.call_control.specs.declared.place.Place.TheVariants as places
use Rattle.call_control.specs.declared.reply.Reply.{Reply}
use Rattle.call_control.specs.declared.reply.Reply.TheVariants as replies
use Rattle.peer_lock.specs.declared.errors.OpenError.TheVariants as open_errors
use Rattle.peer_lock.specs.declared.errors.OrderError.TheVariants as order_errors
use Rattle.peer_lock.specs.declared.errors.PeerError.TheVariants as peer_errors
use Rattle.peer_lock.specs.declared.errors.RejectError.TheVariants as reject_errors
use Rattle.laws_of_calls.specs.Runs.{Changes, ByStep, IsRun}
use Rattle.laws_of_calls.specs.Stored.{Stored}

-- the step is refused because the peer's steps are spent
abbrev pub is_spent : Reply → Bool
is_spent (replies.Datagram (Err peer_errors.StepsSpent)) = true
is_spent (replies.RejectNew (Err reject_errors.StepsSpent)) = true
is_spent (replies.OpenIn (Err open_errors.StepsSpent)) = true
is_spent (replies.OpenOut (Err open_errors.StepsSpent)) = true
is_spent (replies.Order (Err order_errors.StepsSpent)) = true
is_spent (replies.Tick (Err spent)) = true
is_spent reply = false

abbrev pub IsWithinSteps : (old new : Stored) → Changes old new → Type 0
IsWithinSteps old new (ByStep step) = is_spent step.reply ≡ false
IsWithinSteps old new change = Unit {0}

-- no step of the run is refused for that reason
abbrev pub AreWithinSteps : (first : Stored) (later : List Stored) → IsRun first later → Type 0
AreWithinSteps first [] is = Unit {0}
AreWithinSteps first (next ∷ later) is = IsWithinSteps first next is.0 × AreWithinSteps next later is.1

-- the name under which a call from outside opened its leg, if it did
abbrev pub called_at : Place → Reply → List LegName
called_at (places.OpenCall name) (replies.OpenOut (Ok done)) = name ∷ []
called_at place reply = []

abbrev pub called_by : (old new : Stored) → Changes old new → List LegName
called_by old new (ByStep step) = called_at step.caller.work.place step.reply
called_by old new change = []

-- the names of all legs that calls from outside opened in the run, and these
abbrev pub called_since : List LegName → (first : Stored) (later : List Stored) → IsRun first later → List LegName
called_since called first [] is = called
called_since called first (next ∷ later) is = called_since (called_by first next is.0 ++ called) next later is.1

abbrev pub called_in : (first : Stored) (later : List Stored) → IsRun first later → List LegName
called_in first later is = called_since [] first later is
