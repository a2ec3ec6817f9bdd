-- The notes that a turn makes under the pass of its worker.
use Rattle.std.specs.Prelude.{◌≡◌, ℕ, ◌||◌, Bool, true, false, List, [], ◌∷◌, ◌++◌}
use Rattle.call_control.specs.Work.{of_tick}
use Rattle.call_control.specs.WorkState.{begun}
use Rattle.exchange_core.specs.Traces.{MakesAll, moment}
use Rattle.step_log.specs.Notes.{Noted}
use Rattle.step_log.specs.Stepped.{is_unticked}
use Rattle.step_log.specs.declared.made.Made.{Made}
use Rattle.peer_plan.specs.Plan.{PlanView, counts_of, range_of}

-- all earlier notes are still there, and the later ones follow them
abbrev pub IsLater : Noted → Noted → Type 0
IsLater old new = (steps : List Made) × (new.made ≡ old.made ++ steps)

-- a tick of one peer of a plan: the pass has noted all steps of its tick at that moment, and no others
abbrev pub Ticks : PlanView → ℕ → ℕ → Noted → Noted → Type 0
Ticks plan now peer old new =
    MakesAll (moment plan now)
    (begun (of_tick peer (range_of (counts_of plan.peers) peer).first (range_of (counts_of plan.peers) peer).count)) old new

-- whether a turn ticks a peer: it ticks all, or a step was made at the peer under the pass since its last tick
abbrev pub is_due : Bool → ℕ → Noted → Bool
is_due all peer pass = all || is_unticked pass peer

-- a tick of one peer if it was due; otherwise nothing was noted
pub record TicksIfDue (plan : PlanView) (now : ℕ) (all : Bool) (peer : ℕ) (old new : Noted) : Type 0 where
  pub due : is_due all peer old ≡ true → Ticks plan now peer old new
  pub left_out : is_due all peer old ≡ false → new ≡ old

-- these peers in order, all at one moment: each is ticked if it is due when its turn comes, and nothing else is noted
abbrev pub TicksDue : PlanView → ℕ → Bool → List ℕ → Noted → Noted → Type 0
TicksDue plan now all [] old new = new ≡ old
TicksDue plan now all (peer ∷ rest) old new =
    (mid : Noted) × TicksIfDue plan now all peer old mid × TicksDue plan now all rest mid new
