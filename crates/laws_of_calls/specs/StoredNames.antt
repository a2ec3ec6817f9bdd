-- Laws of the stored peers and the stored book, for any actions of the callers.
use Rattle.std.specs.Prelude.{◌≡◌, ◌≢◌, ℕ, ◌+◌, Bool, true, false, List, Option, None, Some, slice_get, is_some, if◌then◌else◌}
use Rattle.std.specs.List.{AllByRecursion}
use Rattle.call_book.specs.Book.{has_name}
use Rattle.call_book.specs.declared.leg_name.LegName.{LegName}
use Rattle.call_signals.specs.declared.stage.Stage.TheVariants.{Offered}
use Rattle.call_control.specs.Law.{IsIdle, times, leases_of, is_talk}
use Rattle.call_control.specs.Leases.{lease_needed}
use Rattle.call_control.specs.Scene.{is_leased}
use Rattle.call_control.specs.Work.{next_of}
use Rattle.call_control.specs.World.{Caller}
use Rattle.call_signals.specs.declared.order.Command.{Command}
use Rattle.call_signals.specs.declared.signal.MediaSpan.{MediaSpan}
use Rattle.call_control.specs.declared.need.Need.{Need}
use Rattle.call_control.specs.declared.need.Need.TheVariants as needs
use Rattle.peer_lock.specs.Legs.{NamedLeg, leg_at, leg_named, is_free_name}
use Rattle.peer_lock.specs.Peer.{PeerView}
use Rattle.laws_of_calls.specs.Runs.{IsRun, last_of}
use Rattle.laws_of_calls.specs.Stored.{Stored, IsOpened}

-- this holds for each state that the changes lead to
abbrev pub InEveryRun : (Stored → Type 0) → Type 0
InEveryRun Holds = (first : Stored) (later : List Stored) → IsOpened first → IsRun first later → Holds (last_of first later)

-- the peer has the leg of this name
abbrev pub has_leg_in : Option PeerView → LegName → Bool
has_leg_in None name = false
has_leg_in (Some peer) name = is_some (leg_named peer.legs name)

abbrev pub has_leg : Stored → LegName → Bool
has_leg stored name = has_leg_in (slice_get stored.peers name.peer) name

abbrev pub has_times : Stored → LegName → ℕ
has_times stored name = if has_leg stored name then 1 else 0

-- the names in the book are those of the stored legs and of the callers' leases, each once
abbrev pub NamesAreHeldOnce : Stored → Type 0
NamesAreHeldOnce stored =
    (name : LegName) → has_times stored name + times name
    (leases_of stored.callers) ≡ (if has_name stored.book name then 1 else 0)

-- each stored leg is under its own number at its own peer, and the book has its name
pub record IsBooked (stored : Stored) (place number : ℕ) (named : NamedLeg) : Type 0 where
  pub place_is : named.name.peer ≡ place
  pub number_is : named.name.number ≡ number
  pub booked : has_name stored.book named.name ≡ true

abbrev pub LegsAreBooked : Stored → Type 0
LegsAreBooked stored =
    (place number : ℕ) (peer : PeerView) (named : NamedLeg) → slice_get stored.peers place ≡ Some peer
    → leg_at peer.legs number ≡ Some named → IsBooked stored place number named

-- no number serves legs of two peers
abbrev pub NumbersServeOne : Stored → Type 0
NumbersServeOne stored =
    (a b number : ℕ) (one other : PeerView) (leg another : NamedLeg) → slice_get stored.peers a ≡ Some one
    → slice_get stored.peers b ≡ Some other → leg_at one.legs number ≡ Some leg → leg_at other.legs number ≡ Some another → a ≡ b

-- for each lease of a caller the book has the name, and no stored leg has the number
pub record IsFreeLease (stored : Stored) (name : LegName) : Type 0 where
  pub booked : has_name stored.book name ≡ true
  pub free : (place : ℕ) (peer : PeerView) → slice_get stored.peers place ≡ Some peer → leg_at peer.legs name.number ≡ None

abbrev pub LeasesAreFree : Stored → Type 0
LeasesAreFree stored =
    (who : ℕ) (caller : Caller) (name : LegName) → slice_get stored.callers who ≡ Some caller
    → is_leased caller.leases name ≡ true → IsFreeLease stored name

-- if the next step uses a lease, to open a leg or to return it, its caller has the lease
abbrev pub LeasesAreInHand : Stored → Type 0
LeasesAreInHand stored =
    (who : ℕ) (caller : Caller) (name : LegName) → slice_get stored.callers who ≡ Some caller
    → lease_needed (next_of caller.work) ≡ Some name → is_leased caller.leases name ≡ true

-- the name under which a leg is opened next
abbrev pub opened_next : Option Need → Option LegName
opened_next (Some (needs.OpenIn name)) = Some name
opened_next (Some (needs.OpenOut name)) = Some name
opened_next need = None

-- if a leg is opened next at a stored peer, its name is a free one of that peer: no opening finds its number busy
abbrev pub OpeningsAreFree : Stored → Type 0
OpeningsAreFree stored =
    (who : ℕ) (caller : Caller) (name : LegName) (peer : PeerView) → slice_get stored.callers who ≡ Some caller
    → opened_next (next_of caller.work) ≡ Some name → slice_get stored.peers name.peer ≡ Some peer
    → is_free_name peer.legs name ≡ true

-- if the next order is one of a continuing call, its stored leg isn't only offered
abbrev pub NoneMeetsOffered : Stored → Type 0
NoneMeetsOffered stored =
    (who : ℕ) (caller : Caller) (name : LegName) (command : Command MediaSpan) (peer : PeerView) (named : NamedLeg)
    → slice_get stored.callers who ≡ Some caller → next_of caller.work ≡ Some (needs.Order name command) → is_talk command ≡ true
    → slice_get stored.peers name.peer ≡ Some peer → leg_named peer.legs name ≡ Some named → named.leg.stage ≢ Offered

-- once all callers are idle, the names in the book are exactly those of the stored legs
abbrev pub NamesAreTheLegs : Stored → Type 0
NamesAreTheLegs stored = AllByRecursion IsIdle stored.callers → (name : LegName) → has_leg stored name ≡ has_name stored.book name
