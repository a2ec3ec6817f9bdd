-- Laws of many calls at once.
use Rattle.std.specs.Prelude.{◌≡◌, ◌≢◌, ℕ, ◌+◌, ◌≤◌, ◌||◌, ◌&&◌, not, Bool, true, false, List, [], ◌∷◌, ◌++◌, None, Some}
use Rattle.std.specs.Prelude.{slice_get, is_some, IsSome, if◌then◌else◌}
use Rattle.std.specs.List.{AllByRecursion}
use Rattle.std.specs.FinMap.{get}
use Rattle.call_book.specs.Book.{IsBook, IsNumberOf, has_name, is_same, partner_of}
use Rattle.call_book.specs.declared.leg_name.LegName.{LegName}
use Rattle.call_signals.specs.declared.signal.Signal.{Signal}
use Rattle.call_signals.specs.declared.stage.Stage.{Stage}
use Rattle.call_signals.specs.declared.stage.Stage.TheVariants as stages
use Rattle.peer_lock.specs.declared.errors.OpenError.TheVariants as open_errors
use Rattle.peer_lock.specs.declared.errors.OrderError.TheVariants as order_errors
use Rattle.peer_lock.specs.declared.errors.PeerError.TheVariants as peer_errors
use Rattle.peer_lock.specs.declared.errors.RejectError.TheVariants as reject_errors
use Rattle.call_control.specs.Scene.{Leg, Choice, RefusesDatagram, RefusesRejecting, RefusesOpening, RefusesOrder, RefusesTick}
use Rattle.call_control.specs.Scene.{is_leased, leg_at, leg_named, without}
use Rattle.call_control.specs.SeenReply.{seen_reply}
use Rattle.call_control.specs.Work.{Work, next_of, after_told, ended}
use Rattle.call_control.specs.World.{World, Caller, Event, Starts, Steps, run}
use Rattle.call_signals.specs.declared.order.Command.{Command}
use Rattle.call_signals.specs.declared.signal.MediaSpan.{MediaSpan}
use Rattle.call_signals.specs.declared.order.Command.TheVariants as commands
use Rattle.call_control.specs.declared.need.Need.TheVariants as needs
use Rattle.call_control.specs.declared.place.Place.{Place}
use Rattle.call_control.specs.declared.place.Place.TheVariants as places
use Rattle.call_control.specs.declared.reply.Reply.{Reply}

-- ---- runs

abbrev pub IsFresh : Caller → Type 0
IsFresh caller = (caller.work ≡ ended) × (caller.leases ≡ [])

-- an exchange at its opening: no leg, a book without a name, and callers that do nothing
pub record IsOpened (world : World) : Type 0 where
  pub book : IsBook world.book
  pub no_name : (number : ℕ) → get world.book.names number ≡ None
  pub no_leg : world.legs ≡ []
  pub idle : AllByRecursion IsFresh world.callers

-- this holds in each world that the steps of calls lead to
abbrev pub InEveryRun : (World → Type 0) → Type 0
InEveryRun Holds = (world : World) → IsOpened world → (events : List Event) → Holds (run events world)

-- the step is refused because the peer's steps are spent
abbrev pub is_spent : Choice → Bool
is_spent (RefusesDatagram peer_errors.StepsSpent) = true
is_spent (RefusesRejecting reject_errors.StepsSpent) = true
is_spent (RefusesOpening open_errors.StepsSpent) = true
is_spent (RefusesOrder order_errors.StepsSpent) = true
is_spent RefusesTick = true
is_spent choice = false

abbrev pub IsWithinSteps : Event → Type 0
IsWithinSteps (Starts who start) = Unit {0}
IsWithinSteps (Steps who choice) = is_spent choice ≡ false

-- .. as long as no step is refused for that reason
abbrev pub InEveryRunWithinSteps : (World → Type 0) → Type 0
InEveryRunWithinSteps Holds =
    (world : World) → IsOpened world → (events : List Event) → AllByRecursion IsWithinSteps events → Holds (run events world)

-- the texts of an offer, the room of a list and a leg's record don't affect the steps of a call
abbrev pub OnlyWhatIsSeenCounts : Type 0
OnlyWhatIsSeenCounts = (work : Work) (reply : Reply) → after_told work reply ≡ after_told work (seen_reply reply)

-- ---- names, leases and legs

-- the number of times that a name is in a list
abbrev pub times : LegName → List LegName → ℕ
times name [] = 0
times name (other ∷ names) = (if is_same other name then 1 else 0) + times name names

abbrev pub names_of : List Leg → List LegName
names_of [] = []
names_of (leg ∷ legs) = leg.name ∷ names_of legs

abbrev pub leases_of : List Caller → List LegName
leases_of [] = []
leases_of (caller ∷ callers) = caller.leases ++ leases_of callers

-- the names of the legs, and those of the callers' leases
abbrev pub held_names : World → List LegName
held_names world = names_of world.legs ++ leases_of world.callers

-- these are the names in the book, each once
abbrev pub AreTheBooks : World → List LegName → Type 0
AreTheBooks world names = (name : LegName) → times name names ≡ (if has_name world.book name then 1 else 0)

-- the names in the book are those of the legs and of the callers' leases, each once
abbrev pub NamesAreHeldOnce : World → Type 0
NamesAreHeldOnce world = AreTheBooks world (held_names world)

-- no number serves two legs: only the leg that is found under it has it
abbrev pub NumbersServeOne : World → Type 0
NumbersServeOne world =
    (peer number : ℕ) (leg : Leg) → leg_at world.legs peer number ≡ Some leg →
    leg_at (without world.legs leg.name) peer number ≡ None

-- a caller that opens a leg next has the lease of its name, and no leg has its number
pub record NoneIsBusy (world : World) : Type 0 where
  pub leased_in : (who : ℕ) (caller : Caller) (name : LegName) → slice_get world.callers who ≡ Some caller
      → next_of caller.work ≡ Some (needs.OpenIn name) → is_leased caller.leases name ≡ true
  pub leased_out : (who : ℕ) (caller : Caller) (name : LegName) → slice_get world.callers who ≡ Some caller
      → next_of caller.work ≡ Some (needs.OpenOut name) → is_leased caller.leases name ≡ true
  pub opens_in : (who : ℕ) (caller : Caller) (name : LegName) → slice_get world.callers who ≡ Some caller
      → next_of caller.work ≡ Some (needs.OpenIn name) → leg_at world.legs name.peer name.number ≡ None
  pub opens_out : (who : ℕ) (caller : Caller) (name : LegName) → slice_get world.callers who ≡ Some caller
      → next_of caller.work ≡ Some (needs.OpenOut name) → leg_at world.legs name.peer name.number ≡ None

-- if a caller opens a leg next, its number is one of its peer's
pub record NoneIsOutside (world : World) : Type 0 where
  pub opens_in : (who : ℕ) (caller : Caller) (name : LegName) → slice_get world.callers who ≡ Some caller
      → next_of caller.work ≡ Some (needs.OpenIn name) → IsNumberOf world.book.counts name.peer name.number
  pub opens_out : (who : ℕ) (caller : Caller) (name : LegName) → slice_get world.callers who ≡ Some caller
      → next_of caller.work ≡ Some (needs.OpenOut name) → IsNumberOf world.book.counts name.peer name.number

-- a caller that releases a lease next has it, and the book has its name
pub record NoneIsStale (world : World) : Type 0 where
  pub leased : (who : ℕ) (caller : Caller) (name : LegName) → slice_get world.callers who ≡ Some caller
      → next_of caller.work ≡ Some (needs.Release name) → is_leased caller.leases name ≡ true
  pub known : (who : ℕ) (caller : Caller) (name : LegName) → slice_get world.callers who ≡ Some caller
      → next_of caller.work ≡ Some (needs.Release name) → has_name world.book name ≡ true

-- ---- bridges, stages and Doom

-- the names at a place
abbrev pub names_at : Place → List LegName
names_at (places.OpenIn name) = name ∷ []
names_at (places.GiveBack name) = name ∷ []
names_at (places.Routing offered) = offered ∷ []
names_at (places.Rejecting offered cause) = offered ∷ []
names_at (places.ReserveOut offered peer format) = offered ∷ []
names_at (places.Bridging offered target format) = offered ∷ target ∷ []
names_at (places.Accepting offered target format) = offered ∷ target ∷ []
names_at (places.OpenOut offered target) = offered ∷ target ∷ []
names_at (places.Checking target) = target ∷ []
names_at (places.Undoing offered target) = offered ∷ target ∷ []
names_at (places.Dooming name cause) = name ∷ []
names_at (places.Finding name command) = name ∷ []
names_at (places.Passing partner command) = partner ∷ []
names_at (places.Looking name) = name ∷ []
names_at (places.FindingPartner name cause) = name ∷ []
names_at (places.HangingUp name partner cause) = name ∷ partner ∷ []
names_at (places.Paying name cause) = name ∷ []
names_at (places.Retiring name cause) = name ∷ []
names_at (places.Freeing name cause) = name ∷ []
names_at (places.HangUp name) = name ∷ []
names_at (places.OpenCall name) = name ∷ []
names_at place = []

abbrev pub words : List (LegName × Signal) → List LegName
words [] = []
words (up ∷ onward) = up.0 ∷ words onward

-- the names in the remaining work of a caller
abbrev pub names_in : Work → List LegName
names_in work = names_at work.place ++ words work.rest.onward

abbrev pub names_in_all : List Caller → List LegName
names_in_all [] = []
names_in_all (caller ∷ callers) = names_in caller.work ++ names_in_all callers

-- a stage in which somebody has to be notified of a leg
abbrev pub is_heard : Stage → Bool
is_heard stages.Challenged = false
is_heard stages.Closing = false
is_heard stages.Ended = false
is_heard stage = true

-- a leg that is not doomed, and was not opened by a call from outside
abbrev pub is_kept : Leg → Bool
is_kept leg = is_heard leg.seen.stage && not (leg.seen.doomed || leg.called)

-- each such leg has a partner, or is named in the remaining work of a caller
abbrev pub IsLookedAfter : World → Leg → Type 0
IsLookedAfter world leg =
    is_kept leg ≡ true →
    1 ≤ (if is_some (partner_of world.book leg.name) then 1 else 0) + times leg.name (names_in_all world.callers)

abbrev pub AllAreLookedAfter : World → Type 0
AllAreLookedAfter world = AllByRecursion (IsLookedAfter world) world.legs

-- orders of a continuing call
abbrev pub is_talk : Command MediaSpan → Bool
is_talk (commands.Indicate indication) = true
is_talk commands.Answer = true
is_talk (commands.Dtmf digit) = true
is_talk (commands.Media span) = true
is_talk command = false

-- if the next order is one of a continuing call, its leg isn't only offered
abbrev pub NoneMeetsOffered : World → Type 0
NoneMeetsOffered world =
    (who : ℕ) (caller : Caller) (name : LegName) (command : Command MediaSpan) (leg : Leg)
    → slice_get world.callers who ≡ Some caller → next_of caller.work ≡ Some (needs.Order name command) → is_talk command ≡ true
    → leg_named world.legs name ≡ Some leg → leg.seen.stage ≢ stages.Offered

-- ---- once all callers are idle

abbrev pub IsIdle : Caller → Type 0
IsIdle caller = next_of caller.work ≡ None

abbrev pub AllAreIdle : World → Type 0
AllAreIdle world = AllByRecursion IsIdle world.callers

-- the names in the book are exactly those of the legs, each once
abbrev pub NamesAreTheLegs : World → Type 0
NamesAreTheLegs world = AllAreIdle world → AreTheBooks world (names_of world.legs)

-- each leg that has to be looked after has a partner
abbrev pub AllHavePartners : World → Type 0
AllHavePartners world =
    AllAreIdle world → AllByRecursion (λ leg. is_kept leg ≡ true → IsSome (partner_of world.book leg.name)) world.legs
