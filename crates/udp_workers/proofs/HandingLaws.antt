-- Laws of the legs that a watch is given.
use Rattle.std.specs.List.{AllByRecursion as ByRecursion}
use Rattle.std.specs.Option.{option_to_list}
use Rattle.std.specs.Prelude.{Option, None, Some, All, map, option_map}
use Rattle.std.proofs.Common.{◌≡◌, ℕ, ◌++◌, List, [], ◌∷◌, refl, sym, ap, subst, ◌∙◌, append_assoc, append-nil}
use Rattle.std.proofs.lemmas.List.Elements.{All-append, All-from_recursion, All-map, All-nil, All-weaker, recursion_from_All}
use Rattle.call_book.specs.declared.leg_name.LegName.{LegName}
use Rattle.exchange_core.specs.Leaving.{Departure, Leave, Leaving, all_left, departure_of, former_of, left_after, left_by, nobody}
use Rattle.exchange_core.specs.Leaving.{parted}
use Rattle.exchange_core.specs.declared.answers.Retired.{Retired}
use Rattle.step_log.specs.Notes.{Noted}
use Rattle.step_log.specs.declared.made.Made.{Made}
use Rattle.step_log.specs.declared.made.Made.TheVariants as mades
use Rattle.udp_workers.specs.Handed.{GivesAll, GivesStep}

-- ---- one after another

pub gives_none : (given : Departure → Type 0) (pass : Noted) → GivesAll given pass pass
gives_none given pass = record { steps = []; noted = sym (append-nil pass.made); each = All-nil (GivesStep given) }

pub gives_on : (given : Departure → Type 0) (old mid new : Noted) → GivesAll given old mid → GivesAll given mid new
    → GivesAll given old new
gives_on given old mid new before after = record {
  steps = before.steps ++ after.steps;
  noted = after.noted ∙ ap (λ made. made ++ after.steps) before.noted ∙ append_assoc old.made before.steps after.steps;
  each = All-append (GivesStep given) before.steps after.steps before.each after.each;
}

-- ---- the legs of a call

-- a leg was given that had the same result
record Stands (given : Departure → Type 0) (leg : Departure) : Type 0 where
  departure : Departure
  is_given : given departure
  name : departure.name ≡ leg.name
  facts : departure.facts ≡ leg.facts
  entries : departure.entries ≡ leg.entries

split : (P : Departure → Type 0) (xs ys : List Departure) → ByRecursion P (xs ++ ys) → ByRecursion P xs × ByRecursion P ys
split P [] ys all = (tt, all)
split P (x ∷ xs) ys all = let rest = split P xs ys all.1 in ((all.0, rest.0), rest.1)

join : (P : Departure → Type 0) (xs ys : List Departure) → ByRecursion P xs → ByRecursion P ys → ByRecursion P (xs ++ ys)
join P [] ys first rest = rest
join P (x ∷ xs) ys first rest = (first.0, join P xs ys first.1 rest)

-- the partner, which the book supplies, changes nothing else
unparted : (given : Departure → Type 0) (former : Option LegName) (gone : List Departure) (last : Option Departure)
    → ByRecursion (Stands given) ((gone ++ option_to_list (option_map (parted former) last)) ++ [])
    → ByRecursion (Stands given) (gone ++ option_to_list last)
unparted given former gone None all = (split (Stands given) (gone ++ []) [] all).0
unparted given former gone (Some leg) all =
    let before = split (Stands given) gone (parted former leg ∷ []) (split (Stands given) (gone ++ parted former leg ∷ []) []
    all).0 in
    let there = before.1.0 in
    join (Stands given) gone (leg ∷ []) before.0 (
      record {
        departure = there.departure;
        is_given = there.is_given;
        name = there.name;
        facts = there.facts;
        entries = there.entries;
      },
      tt,
    )

back : (given : Departure → Type 0) (now : ℕ) (made : Made) (leaving : Leaving)
    → ByRecursion (Stands given) (all_left (left_by now made leaving))
    → GivesStep given made × ByRecursion (Stands given) (all_left leaving)
back given now (mades.Retire peer name (Some leg)) leaving all =
    let before = split (Stands given) (all_left leaving) _ all in
    let there = before.1.0 in (
      record {
        departure = there.departure;
        is_given = there.is_given;
        name = there.name;
        facts = there.facts;
        entries = there.entries;
      },
      before.0,
    )
back given now (mades.Release name answer) leaving all = (tt, unparted given (former_of answer) leaving.gone leaving.last all)
back given now made leaving all = (tt, all)

back_all : (given : Departure → Type 0) (now : ℕ) (steps : List Made) (leaving : Leaving)
    → ByRecursion (Stands given) (all_left (left_after now steps leaving))
    → ByRecursion (GivesStep given) steps × ByRecursion (Stands given) (all_left leaving)
back_all given now [] leaving all = (tt, all)
back_all given now (made ∷ rest) leaving all =
    let later = back_all given now rest (left_by now made leaving) all in
    let here = back given now made leaving later.1 in
    ((here.0, later.0), here.1)

-- if each leg of an answer was given, so was each leg that the call's steps took out
pub leave_gives : (given : Departure → Type 0) (now : ℕ) (old new : Noted) (legs : List Retired)
    → Leave now old new (map departure_of legs)
    → All (λ leg. given (departure_of leg)) legs → GivesAll given old new
leave_gives given now old new legs leave each =
    let stand : All (Stands given) (map departure_of legs) =
    All-weaker given (Stands given) (λ leg is. record {
      departure = leg;
      is_given = is;
      name = refl;
      facts = refl;
      entries = refl;
    }) (map departure_of legs)
    (All-map given departure_of legs each) in
    let since = leave.1 in
    let all = subst (ByRecursion (Stands given)) (leave.2 ∙ ap all_left since.left)
    (recursion_from_All (Stands given) (map departure_of legs) stand) in
    record {
      steps = since.steps;
      noted = since.noted;
      each = All-from_recursion (GivesStep given) since.steps (back_all given now since.steps nobody all).0;
    }
