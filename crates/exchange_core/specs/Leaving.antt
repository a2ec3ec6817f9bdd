-- The legs that are taken out in the steps of a call.
use Rattle.std.specs.Prelude.{◌≡◌, ℕ, List, [], ◌∷◌, ◌++◌, Option, None, Some, Result, Ok, Err, map, option_map}
use Rattle.std.specs.Option.{option_to_list}
use Rattle.call_book.specs.declared.leg_name.LegName.{LegName}
use Rattle.call_book.specs.declared.errors.Stale.{Stale}
use Rattle.step_log.specs.Notes.{Noted}
use Rattle.step_log.specs.declared.made.Made.{Made}
use Rattle.step_log.specs.declared.made.Made.TheVariants as mades
use Rattle.peer_lock.specs.declared.steps.EndedLeg.{EndedLeg}
use Rattle.peer_lock.specs.declared.steps.LegFacts.{LegFacts}
use Rattle.seq_window.specs.Entry.{Entry}
use Rattle.exchange_core.specs.declared.answers.Retired.{Retired}
use Rattle.exchange_core.specs.declared.retired_legs.RetiredLegs.{RetiredLegs}

-- a leg that was taken out, as an answer has it: its name, its facts, its record, the moment, and its former partner
pub record Departure : Type 0 where
  pub name : LegName
  pub facts : LegFacts
  pub entries : List Entry
  pub ended : ℕ
  pub partner : Option LegName

abbrev pub departure_of : Retired → Departure
departure_of leg = record {
  name = leg.name;
  facts = leg.facts;
  entries = leg.history.entries;
  ended = leg.ended;
  partner = leg.partner;
}

-- the legs that a call has taken out so far
pub record Leaving : Type 0 where
  -- the last one, whose name wasn't returned to the book yet
  pub last : Option Departure
  -- the legs whose names were returned, in order
  pub gone : List Departure

abbrev pub nobody : Leaving
nobody = record { last = None; gone = [] }

abbrev pub leaving_of : RetiredLegs → Leaving
leaving_of retired_legs = record {
  last = option_map departure_of retired_legs.last;
  gone = map departure_of retired_legs.gone.items;
}

-- the former partner, if the book took the name back and returned one
abbrev pub former_of : Result (Option LegName) Stale → Option LegName
former_of (Ok former) = former
former_of (Err stale) = None

-- the leg that a peer's state gave up under this name, at this moment
abbrev pub given_up_at : ℕ → LegName → EndedLeg → Departure
given_up_at now name leg = record { name = name; facts = leg.facts; entries = leg.history.entries; ended = now; partner = None }

-- with the partner that the book returned
abbrev pub parted : Option LegName → Departure → Departure
parted former leg = record leg { partner = former }

-- all that were taken out, in order
abbrev pub all_left : Leaving → List Departure
all_left leaving = leaving.gone ++ option_to_list leaving.last

-- A step takes a leg out, or returns the name of the last one to the book; no other step takes one out.
abbrev pub left_by : ℕ → Made → Leaving → Leaving
left_by now (mades.Retire peer name (Some leg)) leaving = record {
  last = Some (given_up_at now name leg);
  gone = all_left leaving;
}
left_by now (mades.Release name answer) leaving =
    record { last = None; gone = leaving.gone ++ option_to_list (option_map (parted (former_of answer)) leaving.last) }
left_by now made leaving = leaving

-- after these steps, in order
abbrev pub left_after : ℕ → List Made → Leaving → Leaving
left_after now [] leaving = leaving
left_after now (made ∷ rest) leaving = left_after now rest (left_by now made leaving)

-- in one more step under the pass, these were taken out
pub record Leaves (now : ℕ) (old new : Noted) (before after : Leaving) : Type 0 where
  pub step : Made
  pub noted : new.made ≡ old.made ++ step ∷ []
  pub left : after ≡ left_by now step before

-- in the steps that the pass has noted since, a call has taken out these legs so far
pub record LeftSince (now : ℕ) (old new : Noted) (leaving : Leaving) : Type 0 where
  pub steps : List Made
  pub noted : new.made ≡ old.made ++ steps
  pub left : leaving ≡ left_after now steps nobody

-- In the steps that the pass has noted since, exactly these legs were taken out, in their order. Each is as its peer's
-- state gave it up, at this moment. Its partner is the one that the book returned when it took the name back.
abbrev pub Leave : ℕ → Noted → Noted → List Departure → Type 0
Leave now old new legs = (leaving : Leaving) × LeftSince now old new leaving × (legs ≡ all_left leaving)
