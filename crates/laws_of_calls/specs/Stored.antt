-- A stored exchange with its callers, and the condition for the law over many calls.
use Rattle.std.specs.Prelude.{◌≡◌, ◌≤◌, ℕ, true, List, [], None, Some, length, replicate, slice_get, slice_index}
use Rattle.std.specs.FinMap.{get}
use Rattle.std.specs.List.{AllByRecursion}
use Rattle.call_book.specs.Book.{Book, IsBook, first_number, fresh_book}
use Rattle.call_book.specs.declared.leg_name.LegName.{LegName}
use Rattle.call_control.specs.Law.{IsFresh, times}
use Rattle.call_control.specs.Scene.{Leg, leg_at as world_leg_at}
use Rattle.call_control.specs.Sees.{Sees}
use Rattle.call_control.specs.World.{Caller, World}
use Rattle.peer_lock.specs.Legs.{PeerLegs, leg_at}
use Rattle.peer_lock.specs.Peer.{PeerView}
use Rattle.peer_lock.specs.SoundPeer.{IsSoundPeer}

pub record Stored : Type 0 where
  -- under its lock
  pub book : Book
  -- each under its own lock, in its place of the plan
  pub peers : List PeerView
  -- the remaining work of each, and its leases
  pub callers : List Caller

-- the peer of a place of the plan, with the invariant of its lock
pub record IsPeerAt (place : ℕ) (peer : PeerView) : Type 0 where
  pub place_is : peer.legs.peer ≡ place
  pub sound : IsSoundPeer peer

abbrev pub ArePeers : List PeerView → Type 0
ArePeers peers = (place : ℕ) (peer : PeerView) → slice_get peers place ≡ Some peer → IsPeerAt place peer

-- the local numbers of a peer are those that the book has for its place
pub record HasRange (counts : List ℕ) (place : ℕ) (peer : PeerView) : Type 0 where
  pub first : peer.legs.first ≡ first_number counts place
  pub count : length peer.legs.places ≡ slice_index counts place

abbrev pub HaveRanges : Stored → Type 0
HaveRanges stored =
    (place : ℕ) (peer : PeerView) → slice_get stored.peers place ≡ Some peer → HasRange stored.book.counts place peer

-- ---- at its opening

-- no leg, a book without a name, and callers that do nothing
pub record IsOpened (stored : Stored) : Type 0 where
  pub book : IsBook stored.book
  pub no_name : (number : ℕ) → get stored.book.names number ≡ None
  pub peers : ArePeers stored.peers
  pub no_leg : (place number : ℕ) (peer : PeerView) → slice_get stored.peers place ≡ Some peer → leg_at peer.legs number ≡ None
  pub idle : AllByRecursion IsFresh stored.callers

-- a place without a leg, with the numbers that a book with these counts has for it
abbrev pub no_legs : List ℕ → ℕ → PeerLegs
no_legs counts place =
    record { peer = place; first = first_number counts place; places = replicate (slice_index counts place) None }

-- the peer of a place as it is made
pub record IsNewPeer (counts : List ℕ) (place : ℕ) (peer : PeerView) : Type 0 where
  pub sound : IsSoundPeer peer
  pub legs : peer.legs ≡ no_legs counts place

-- an exchange as it is made: a book in which every number is free, such peers, and callers that do nothing
pub record IsMade (counts : List ℕ) (serial : ℕ) (stored : Stored) : Type 0 where
  pub sound : IsBook stored.book
  pub fresh : stored.book ≡ fresh_book counts serial
  pub peers : (place : ℕ) (peer : PeerView) → slice_get stored.peers place ≡ Some peer → IsNewPeer counts place peer
  pub idle : AllByRecursion IsFresh stored.callers

-- the world of an exchange at its opening
abbrev pub opened_world : Stored → World
opened_world stored = record { book = stored.book; legs = []; callers = stored.callers }

-- ---- as it is seen

-- the legs of each peer are the world's, as they are seen, and the world has no other
pub record AreSeenIn (legs : List Leg) (peers : List PeerView) : Type 0 where
  pub sees : (place : ℕ) (peer : PeerView) → slice_get peers place ≡ Some peer → Sees legs peer.legs
  pub none : (place number : ℕ) → slice_get peers place ≡ None → world_leg_at legs place number ≡ None

-- a leg that the world has as opened by a call from outside has one of these names
abbrev pub AreCalled : List LegName → List Leg → Type 0
AreCalled called legs = AllByRecursion (λ leg. leg.called ≡ true → 1 ≤ times leg.name called) legs

-- the world has the stored book and callers, and the legs of the stored peers; each leg that it has as opened by a call
-- from outside has one of these names
pub record IsSeenIn (called : List LegName) (stored : Stored) (world : World) : Type 0 where
  pub book : world.book ≡ stored.book
  pub callers : world.callers ≡ stored.callers
  pub legs : AreSeenIn world.legs stored.peers
  pub outside : AreCalled called world.legs
