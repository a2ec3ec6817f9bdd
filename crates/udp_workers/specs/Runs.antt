-- Runs of a worker: the turns, what was reported of their datagrams, and the origin of their moments and challenges.
use Rattle.std.specs.Prelude.{◌≡◌, ℕ, Bool, List, [], ◌∷◌, Option, map}
use Rattle.exchange_core.specs.declared.watch.Event.{Event}
use Rattle.step_log.specs.Notes.{Noted}
use Rattle.peer_plan.specs.Plan.{PlanView}
use Rattle.udp_wires.specs.Parcels.{Parcel}
use Rattle.udp_workers.specs.Intake.{MakesAllTurns, MakesTurn, Passed, TakesAll, TakesIn, TurnView}
use Rattle.udp_workers.specs.Receipts.{Reports}
use Rattle.udp_workers.specs.declared.intake.Intake.{Intake}

-- ---- what is reported

-- of each of the datagrams that a turn took; the list has the last one first
abbrev pub ReportsAll : (observed : Event → Type 0) (plan : PlanView) (turn : TurnView) (arrivals : List Parcel) (old new : Noted)
    → TakesAll plan turn arrivals old new → Type 0
ReportsAll observed plan turn [] old new takes = Unit {0}
ReportsAll observed plan turn (arrival ∷ before) old new takes =
    ReportsAll observed plan turn before old takes.0 takes.1 × Reports observed plan turn.stage turn.now arrival takes.0 new

-- a turn took datagrams, and reported each
pub record TakesAndReports (observed : Event → Type 0) (intake : Intake) (plan : PlanView) (turn : TurnView) (was left : Option
    Parcel)
    (counted now_counted : ℕ) (old new : Noted) (before after : List Parcel) : Type 0 where
  pub takes : TakesIn intake plan turn was left counted now_counted old new before after
  pub reports : ReportsAll observed plan turn takes.arrivals old new takes.taken

-- a whole turn, and the same of its datagrams
pub record MakesAndReports (observed : Event → Type 0) (intake : Intake) (plan : PlanView) (peers : List ℕ) (all : Bool)
    (turn : TurnView) (was left : Option Parcel) (counted now_counted : ℕ) (old new : Noted) (before after : Passed)
    : Type 0 where
  pub makes : MakesTurn intake plan peers all turn was left counted now_counted old new before after
  pub reports : ReportsAll observed plan turn makes.takes.arrivals old makes.taken makes.takes.taken

-- the datagrams of each of the turns of a run; the list has the last one first
abbrev pub ReportsTurns : (observed : Event → Type 0) (intake : Intake) (plan : PlanView) (peers : List ℕ) (turns : List TurnView)
    (left : Option Parcel) (received : ℕ) (old new : Noted) (first now : Passed)
    → MakesAllTurns intake plan peers turns left received old new first now → Type 0
ReportsTurns observed intake plan peers [] left received old new first now run = Unit {0}
ReportsTurns observed intake plan peers (turn ∷ earlier) left received old new first now run =
    ReportsTurns observed intake plan peers earlier run.was run.counted old run.mid first run.between run.before
    × ReportsAll observed plan turn run.makes.takes.arrivals run.mid run.makes.taken run.makes.takes.taken

-- ---- moments and challenges

-- A source gave just these values, in order, on its way from one state to another. `gave` has the states before and after
-- each. The list has the last one first.
abbrev pub GaveAll : {S A : Type 0} → (S → A → S → Type 0) → S → List A → S → Type 0
GaveAll gave old [] new = new ≡ old
GaveAll {S} gave old (value ∷ before) new = (mid : S) × GaveAll gave old before mid × gave mid value new

abbrev pub moments_of : List TurnView → List ℕ
moments_of turns = map (λ turn. turn.now) turns

abbrev pub challenges_of : List TurnView → List (List ℕ)
challenges_of turns = map (λ turn. turn.challenge) turns

-- A run: what its wire gave and was given, turn by turn, and what was reported of each datagram. Each turn has the clock's
-- next moment and the source's next challenge, and no others were given. The datagram that the last turn left is lost.
pub record RunsTurns {Clock Source : Type 0} (observed : Event → Type 0) (gave : Clock → ℕ → Clock → Type 0)
    (drew : Source → List ℕ → Source → Type 0) (clock now_clock : Clock) (source now_source : Source) (intake : Intake)
    (plan : PlanView) (peers : List ℕ) (received : ℕ) (old new : Noted) (before after : Passed) : Type 0 where
  pub turns : List TurnView
  pub left : Option Parcel
  pub all : MakesAllTurns intake plan peers turns left received old new before after
  pub reports : ReportsTurns observed intake plan peers turns left received old new before after all
  pub moments : GaveAll gave clock (moments_of turns) now_clock
  pub challenges : GaveAll drew source (challenges_of turns) now_source
