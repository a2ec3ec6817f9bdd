-- The stored legs for which somebody has to be responsible, and the property that somebody is.
use Rattle.std.specs.Prelude.{◌≡◌, ℕ, ◌+◌, ◌≤◌, true, false, List, Some, IsSome, slice_get, is_some, if◌then◌else◌}
use Rattle.std.specs.List.{AllByRecursion}
use Rattle.call_book.specs.Book.{partner_of}
use Rattle.call_book.specs.declared.leg_name.LegName.{LegName}
use Rattle.call_control.specs.Law.{IsIdle, times, is_heard, names_in_all}
use Rattle.peer_lock.specs.Legs.{NamedLeg, leg_at}
use Rattle.peer_lock.specs.Peer.{PeerView}
use Rattle.laws_of_calls.specs.Runs.{IsRun, last_of}
use Rattle.laws_of_calls.specs.Spent.{AreWithinSteps, called_in}
use Rattle.laws_of_calls.specs.Stored.{Stored, IsOpened}

-- a leg that is neither challenged, closing, ended nor doomed, and wasn't opened by one of the calls from outside
pub record IsKept (called : List LegName) (named : NamedLeg) : Type 0 where
  pub heard : is_heard named.leg.stage ≡ true
  pub undoomed : named.leg.doomed ≡ false
  pub uncalled : times named.name called ≡ 0

-- each such leg has a partner, or is named in the remaining work of a caller
abbrev pub AllAreLookedAfter : List LegName → Stored → Type 0
AllAreLookedAfter called stored =
    (place number : ℕ) (peer : PeerView) (named : NamedLeg) → slice_get stored.peers place ≡ Some peer
    → leg_at peer.legs number ≡ Some named → IsKept called named
    → 1 ≤ (if is_some (partner_of stored.book named.name) then 1 else 0) + times named.name (names_in_all stored.callers)

-- once all callers are idle, each such leg has a partner
abbrev pub AllHavePartners : List LegName → Stored → Type 0
AllHavePartners called stored =
    AllByRecursion IsIdle stored.callers → (place number : ℕ) (peer : PeerView) (named : NamedLeg)
    → slice_get stored.peers place ≡ Some peer → leg_at peer.legs number ≡ Some named → IsKept called named
    → IsSome (partner_of stored.book named.name)

-- this holds for each state that the changes lead to, as long as no step is refused because a peer's steps are spent
abbrev pub InEveryRunWithinSteps : (List LegName → Stored → Type 0) → Type 0
InEveryRunWithinSteps Holds =
    (first : Stored) (later : List Stored) → IsOpened first → (is : IsRun first later) → AreWithinSteps first later is
    → Holds (called_in first later is) (last_of first later)
