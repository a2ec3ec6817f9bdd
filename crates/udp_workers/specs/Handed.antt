-- The legs that were taken out under the pass of a worker, and that its watch was given.
use Rattle.std.specs.Prelude.{◌≡◌, List, ◌++◌, Some, All}
use Rattle.exchange_core.specs.Leaving.{Departure}
use Rattle.step_log.specs.Notes.{Noted}
use Rattle.step_log.specs.declared.made.Made.{Made}
use Rattle.step_log.specs.declared.made.Made.TheVariants as mades
use Rattle.call_book.specs.declared.leg_name.LegName.{LegName}
use Rattle.peer_lock.specs.declared.steps.EndedLeg.{EndedLeg}

-- a departure under this name was given, with the facts and the entries of this leg
pub record IsGiven (given : Departure → Type 0) (under : LegName) (leg : EndedLeg) : Type 0 where
  pub departure : Departure
  pub is_given : given departure
  pub name : departure.name ≡ under
  pub facts : departure.facts ≡ leg.facts
  pub entries : departure.entries ≡ leg.history.entries

-- if a step took a leg out, that leg was given
abbrev pub GivesStep : (Departure → Type 0) → Made → Type 0
GivesStep given (mades.Retire peer name (Some leg)) = IsGiven given name leg
GivesStep given made = Unit {0}

-- each leg that was taken out in the steps that the pass has noted since was given
pub record GivesAll (given : Departure → Type 0) (old new : Noted) : Type 0 where
  pub steps : List Made
  pub noted : new.made ≡ old.made ++ steps
  pub each : All (GivesStep given) steps
