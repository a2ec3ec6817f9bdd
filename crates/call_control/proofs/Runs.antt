-- One caller among the others, and runs of many.
use Rattle.call_control.proofs.Prelude.{◌≡◌, Some, None, refl, ℕ, zero, suc, ◌+◌, ◌≤◌, List, [], ◌∷◌, ◌++◌, slice_get, slice_set}
use Rattle.call_control.proofs.Prelude.{ap, arith, inl, inr, ◌⊎◌, Option, subst, AllByRecursion, LegName, times, leases_of, Scene}
use Rattle.call_control.proofs.Prelude.{Choice, answered, is_call, Work, next_of, in_hand, Caller, World, Event, Starts, Steps}
use Rattle.call_control.proofs.Prelude.{Start, scene_of, makes, steps, begins, starts, happens, run, after_answer, Need}

-- a number of each caller, added up
abbrev pub total : (Caller → ℕ) → List Caller → ℕ
total weight [] = 0
total weight (caller ∷ callers) = weight caller + total weight callers

-- all callers but one
abbrev pub others : List Caller → ℕ → List Caller
others [] who = []
others (caller ∷ callers) zero = callers
others (caller ∷ callers) (suc who) = caller ∷ others callers who

pub total_split : (weight : Caller → ℕ) (callers : List Caller) (who : ℕ) (caller : Caller) → slice_get callers who ≡ Some caller
    → total weight callers ≡ weight caller + total weight (others callers who)
total_split weight [] who caller is = absurd (cc)
total_split weight (first ∷ callers) zero caller is = let same : first ≡ caller = cc in ap (λ c. weight c + total weight callers)
    same
total_split weight (first ∷ callers) (suc who) caller is = omega (arith, total_split weight callers who caller is)

pub total_set : (weight : Caller → ℕ) (callers : List Caller) (who : ℕ) (caller new : Caller)
    → slice_get callers who ≡ Some caller
    → total weight (slice_set callers who new) ≡ weight new + total weight (others callers who)
total_set weight [] who caller new is = absurd (cc)
total_set weight (first ∷ callers) zero caller new is = refl
total_set weight (first ∷ callers) (suc who) caller new is = omega (arith, total_set weight callers who caller new is)

pub times-append : (name : LegName) (a b : List LegName) → times name (a ++ b) ≡ times name a + times name b
times-append name [] b = omega arith
times-append name (other ∷ a) b = omega (arith, times-append name a b)

-- the leases for a name that a caller's place requires
abbrev pub hand_weight : LegName → Caller → ℕ
hand_weight name caller = times name (in_hand caller.work.place)

-- the leases of all are those of each
pub leases_total : (name : LegName) (callers : List Caller) → ((who : ℕ) (caller : Caller) → slice_get callers who ≡ Some caller
    → caller.leases ≡ in_hand caller.work.place) → times name (leases_of callers) ≡ total (hand_weight name) callers
leases_total name [] own = refl
leases_total name (caller ∷ callers) own = omega (
  arith,
  times-append name caller.leases (leases_of callers),
  ap (times name) (own zero caller refl),
  leases_total name callers (λ who other is. own (suc who) other is),
)

-- the caller at a place once one caller is replaced: the new one there, or another caller elsewhere
pub at_set_apart : (callers : List Caller) (who i : ℕ) (new caller : Caller) → slice_get (slice_set callers who new) i
    ≡ Some caller → (new ≡ caller) ⊎ ((slice_get callers i ≡ Some caller) ×
    ((weight : Caller → ℕ) → weight caller ≤ total weight (others callers who)))
at_set_apart [] who i new caller is = absurd (cc)
at_set_apart (first ∷ callers) zero zero new caller is = inl (cc)
at_set_apart (first ∷ callers) zero (suc i) new caller is = inr (
  is,
  λ weight. omega (
    arith,
    total_split weight callers i caller is,
  ),
)
at_set_apart (first ∷ callers) (suc who) zero new caller is =
    let same : first ≡ caller = cc in
    inr (is, λ weight. let e : weight first ≡ weight caller = ap weight same in omega arith)
at_set_apart (first ∷ callers) (suc who) (suc i) new caller is =
    elim (at_set_apart callers who i new caller is) [
      | inl same ↦ inl same
      | inr old ↦ inr (old.0, λ weight. omega (arith, old.1 weight))
    ]

pub total_le : (less more : Caller → ℕ) (callers : List Caller) → ((caller : Caller) → less caller ≤ more caller)
    → total less callers ≤ total more callers
total_le less more [] le = omega arith
total_le less more (caller ∷ callers) le = omega (arith, le caller, total_le less more callers le)

-- a property of all callers is one of each
pub all_at : (P : Caller → Type 0) (callers : List Caller) (who : ℕ) (caller : Caller) → AllByRecursion P callers
    → slice_get callers who ≡ Some caller → P caller
all_at P [] who caller all is = absurd (cc)
all_at P (first ∷ callers) zero caller all is = let same : first ≡ caller = cc in subst P same all.0
all_at P (first ∷ callers) (suc who) caller all is = all_at P callers who caller all.1 is

pub total_none : (weight : Caller → ℕ) (callers : List Caller) → ((who : ℕ) (caller : Caller)
    → slice_get callers who ≡ Some caller → weight caller ≡ 0) → total weight callers ≡ 0
total_none weight [] none = refl
total_none weight (caller ∷ callers) none = omega (
  arith,
  none zero caller refl,
  total_none weight callers (λ who other is. none (suc who) other is),
)

-- ---- a property of the world that holds after each step and each beginning of a call holds in every run

-- the world once a caller has made a step, or begins
abbrev pub moved_to : World → ℕ → Scene → Work → World
moved_to world who new to = record {
  book = new.book;
  legs = new.legs;
  callers = slice_set world.callers who (record { work = to; leases = new.leases });
}

module _ (Holds : World → Type 0) (May : Choice → Type 0) where
  pub record IsKept : Type 0 where
    pub step : (world : World) (who : ℕ) (caller : Caller) (need : Need) (choice : Choice)
        → slice_get world.callers who ≡ Some caller → next_of caller.work ≡ Some need → May choice → Holds world
        → Holds (after_answer world who caller.work (answered (scene_of world caller) need (is_call caller.work.place) choice))
    pub start : (world : World) (who : ℕ) (caller : Caller) (start : Start) → slice_get world.callers who ≡ Some caller
        → next_of caller.work ≡ None → Holds world → Holds (begins world who caller None start)

  abbrev pub MayHappen : Event → Type 0
  MayHappen (Starts who start) = Unit {0}
  MayHappen (Steps who choice) = May choice

  module _ (kept : IsKept) where
    module _ (world : World) (h : Holds world) where
      makes_keep : (who : ℕ) (caller : Caller) (need : Option Need) (choice : Choice) → slice_get world.callers who ≡ Some caller
          → next_of caller.work ≡ need → May choice → Holds (makes world who caller need choice)
      makes_keep who caller None choice is next may = h
      makes_keep who caller (Some need) choice is next may = kept.step world who caller need choice is next may h

      begins_keep : (who : ℕ) (caller : Caller) (need : Option Need) (start : Start) → slice_get world.callers who ≡ Some caller
          → next_of caller.work ≡ need → Holds (begins world who caller need start)
      begins_keep who caller None start is next = kept.start world who caller start is next h
      begins_keep who caller (Some need) start is next = h

      event_by : (event : Event) (who : ℕ) (o : Option Caller) → slice_get world.callers who ≡ o → MayHappen event
          → Holds (elim event [ Starts i start ↦ starts world who o start | Steps i choice ↦ steps world who o choice ])
      event_by (Starts i start) who None is may = h
      event_by (Starts i start) who (Some caller) is may = begins_keep who caller (next_of caller.work) start is refl
      event_by (Steps i choice) who None is may = h
      event_by (Steps i choice) who (Some caller) is may = makes_keep who caller (next_of caller.work) choice is refl may

      pub event_keeps : (event : Event) → MayHappen event → Holds (happens event world)
      event_keeps (Starts who start) may = event_by (Starts who start) who (slice_get world.callers who) refl may
      event_keeps (Steps who choice) may = event_by (Steps who choice) who (slice_get world.callers who) refl may

    pub run_keeps : (events : List Event) (world : World) → AllByRecursion MayHappen events → Holds world
        → Holds (run events world)
    run_keeps [] world may h = h
    run_keeps (event ∷ events) world may h = run_keeps events (happens event world) may.1 (event_keeps world h event may.0)

-- any step may be made
abbrev pub Any : Choice → Type 0
Any choice = Unit {0}

pub any_run : (Holds : World → Type 0) → IsKept Holds Any → (events : List Event) (world : World) → Holds world
    → Holds (run events world)
any_run Holds kept events world h = run_keeps Holds Any kept events world (all events) h
  where
    all : (events : List Event) → AllByRecursion (MayHappen Holds Any) events
    all [] = tt
    all (Starts who start ∷ events) = (tt, all events)
    all (Steps who choice ∷ events) = (tt, all events)
