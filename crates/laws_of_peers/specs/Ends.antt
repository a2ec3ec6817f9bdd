-- Two legs, each a leg of a peer, that are the opposite ends of one call ("Message Transport").
use Rattle.std.specs.Prelude.{◌≡◌, ◌⊎◌, ℕ, ◌≤◌, true, List, [], ◌∷◌, ◌++◌, All, Option, None, Some, fold, slice_get}
use Rattle.call_book.specs.declared.leg_name.LegName.{LegName}
use Rattle.call_signals.specs.Message.{message_of}
use Rattle.call_signals.specs.declared.rules.PeerRules.{PeerRules}
use Rattle.iax_frames.specs.FullFrame.{FullFrame}
use Rattle.leg_machine.specs.Leg.{LegState}
use Rattle.peer_lock.specs.Delivery.{is_new}
use Rattle.peer_lock.specs.Legs.{NamedLeg, leg_at}
use Rattle.peer_lock.specs.Peer.{PeerView}
use Rattle.laws_of_peers.specs.Sides.{TakesTurnAtLeg, SendsAtLeg, EachSends, TakesNew, SendsNew, Bears, IsSentFrom}
use Rattle.peer_lock.specs.SoundPeer.{IsSoundPeer}
use Rattle.seq_window.specs.Entry.{Entry}
use Rattle.seq_window.specs.Network.{Datagram, Side, Network, IsFreshAcknowledgement, IsFreshNumber}

-- One end of a call: the rules of its peer, its leg once that is opened, and every datagram that it ever sent, under its numbers.
pub record End : Type 0 where
  pub rules : PeerRules
  pub leg : Option LegState
  pub sent : List Datagram

abbrev pub record_of : Option LegState → List Entry
record_of None = []
record_of (Some leg) = leg.window.history

-- an end as a side of a network: with the record that is stored with its leg
abbrev pub side_of : End → Side
side_of end = record {
  width = end.rules.window;
  limit = end.rules.record_limit;
  history = record_of end.leg;
  datagrams = end.sent;
}

-- ---- a step of an end

-- The other end sent this full frame: it has the numbers of one of that end's datagrams, and is at most 128 behind.
pub record Comes (own other : End) (frame : FullFrame) : Type 0 where
  pub which : ℕ
  pub datagram : Datagram
  pub at : slice_get other.sent which ≡ Some datagram
  pub bears : Bears frame datagram
  pub acknowledgement : IsFreshAcknowledgement (side_of own) datagram
  pub number : IsFreshNumber (side_of own) datagram

-- After a step with this result for its peer, which is sound, the end has this leg. It has also sent datagrams from that
-- leg's record: any datagrams of full frames that are sendings from it, as all of the step are.
pub record GoesOn (own new : End) (peer : PeerView) (leg : LegState) : Type 0 where
  pub sound : IsSoundPeer peer
  pub peers : peer.rules ≡ own.rules
  pub rules : new.rules ≡ own.rules
  pub leg_is : new.leg ≡ Some leg
  pub more : List Datagram
  pub from : All (IsSentFrom leg) more
  pub sent : new.sent ≡ more ++ own.sent

-- The steps of one end, given the other end: those of its peer that concern its leg.
pub data Steps (own other new : End) : Type 0 where
  -- a full frame of the other end comes
  TakesFrame : (old peer : PeerView) (frame : FullFrame) (turn : TakesTurnAtLeg old frame peer) → own.leg ≡ Some turn.named.leg
      → Comes own other frame → GoesOn own new peer turn.leg → Steps own other new
  ObeysOrder : (old peer : PeerView) (name : LegName) (sends : SendsAtLeg old name peer) → own.leg ≡ Some sends.named.leg
      → GoesOn own new peer sends.leg → Steps own other new
  -- the tick of its peer
  Ticks : (old peer : PeerView) → EachSends old peer → (number : ℕ) (named after : NamedLeg) → leg_at old.legs number ≡ Some named
      → leg_at peer.legs number ≡ Some after → own.leg ≡ Some named.leg → GoesOn own new peer after.leg → Steps own other new
  -- its leg is opened by a NEW of the other end,
  OpensIn : (old peer : PeerView) (name : LegName) (frame : FullFrame) (takes : TakesNew old name frame peer) → own.leg ≡ None
      → is_new (message_of frame.head) ≡ true → Comes own other frame → GoesOn own new peer takes.leg → Steps own other new
  -- or with a NEW that is sent
  OpensOut : (old peer : PeerView) (name : LegName) (sends : SendsNew old name peer) → own.leg ≡ None
      → GoesOn own new peer sends.leg → Steps own other new

-- ---- all steps of both

pub record Ends : Type 0 where
  pub first : End
  pub second : End

-- one of the two makes a step, and the other stays
abbrev pub OneSteps : Ends → Ends → Type 0
OneSteps ends next =
    (Steps ends.first ends.second next.first × (next.second ≡ ends.second))
    ⊎ (Steps ends.second ends.first next.second × (next.first ≡ ends.first))

-- each of these comes from the one before it by one step
abbrev pub AreSteps : Ends → List Ends → Type 0
AreSteps ends [] = Unit {0}
AreSteps ends (next ∷ later) = OneSteps ends next × AreSteps next later

abbrev pub last : Ends → List Ends → Ends
last ends later = fold (λ before next. next) ends later

-- before its leg is opened
abbrev pub unopened : PeerRules → End
unopened rules = record { rules = rules; leg = None; sent = [] }

abbrev pub before_all : PeerRules → PeerRules → Ends
before_all first second = record { first = unopened first; second = unopened second }

abbrev pub network_of : Ends → Network
network_of ends = record { first = side_of ends.first; second = side_of ends.second }

-- This holds for both ends after any steps, if each window is at most 127 wide.
abbrev pub AfterAllSteps : (Network → Type 0) → Type 0
AfterAllSteps Holds =
    (first second : PeerRules) → first.window ≤ 127 → second.window ≤ 127
    → (steps : List Ends) → AreSteps (before_all first second) steps → Holds (network_of (last (before_all first second) steps))
