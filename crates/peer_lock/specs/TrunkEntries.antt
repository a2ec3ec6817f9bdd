-- How many entries of a trunk frame a call may have in plan version 4 ("Meta Frames").
use Rattle.std.specs.Prelude.{◌≡◌, ℕ, ◌+◌, ◌-◌, ◌<◌, ◌≤◌, nat_le, ◌==◌, ◌&&◌, ◌||◌, not, Bool, false, List, [], ◌∷◌, Option}
use Rattle.std.specs.Prelude.{None, Some}
use Rattle.std.specs.Prelude.{if◌then◌else◌, slice_get}
use Rattle.call_book.specs.declared.leg_name.LegName.{LegName}
use Rattle.call_signals.specs.declared.signal.Signal.{Signal}
use Rattle.peer_legs.specs.Legs.{NamedLeg, PeerLegs, leg_of_remote}

-- how often a number is among these
abbrev pub count_of : ℕ → List ℕ → ℕ
count_of number [] = 0
count_of number (other ∷ others) = (if other == number then 1 else 0) + count_of number others

-- The leg has taken 16 entries of the frame. taken has the local number of the leg of each entry that was taken.
abbrev pub has_its_share : Bool → List ℕ → Option NamedLeg → Bool
has_its_share limited taken None = false
has_its_share limited taken (Some named) = limited && nat_le 16 (count_of named.name.number taken)

-- the leg that takes an entry, if it is this leg's
abbrev pub taker : Bool → List ℕ → Option NamedLeg → Option NamedLeg
taker limited taken leg = if has_its_share limited taken leg then None else leg

-- .. and has taken it
abbrev pub taken_by : List ℕ → Option NamedLeg → List ℕ
taken_by taken None = taken
taken_by taken (Some named) = named.name.number ∷ taken

-- some of these entries are dropped
abbrev pub drops_entries : PeerLegs → Bool → List ℕ → List (ℕ × Option ℕ × List ℕ) → Bool
drops_entries legs limited taken [] = false
drops_entries legs limited taken (entry ∷ entries) =
    let leg = leg_of_remote legs entry.0 in
    has_its_share limited taken leg || drops_entries legs limited (taken_by taken (taker limited taken leg)) entries

-- the number of signals that the leg of a number hands up
abbrev pub handed_by : ℕ → List (LegName × Signal) → ℕ
handed_by number [] = 0
handed_by number (up ∷ signals) = (if up.0.number == number then 1 else 0) + handed_by number signals

-- the counts of these numbers, of which 512 are counted from the first on
abbrev pub AreCounts : ℕ → List ℕ → List ℕ → Type 0
AreCounts first counts taken =
    (number : ℕ) → first ≤ number → number - first < 512 → slice_get counts (number - first) ≡ Some (count_of number taken)

-- one more entry of the number at a place was counted, unless there are 16
abbrev pub CountsEntry : ℕ → Bool → List ℕ → List ℕ → Type 0
CountsEntry place counted old new =
    (first number : ℕ) (taken : List ℕ) → AreCounts first old taken → first ≤ number → place ≡ number - first
    → (counted ≡ not (nat_le 16 (count_of number taken))) × AreCounts first new (if counted then number ∷ taken else taken)
