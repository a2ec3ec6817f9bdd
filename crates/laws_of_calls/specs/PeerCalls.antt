-- The calls of one stored peer: a step of a call is made, or it is refused and the peer stays as it is. And the property
-- that this is the step of the exchange that was needed.
use Rattle.std.specs.Prelude.{◌≡◌, ◌⊎◌, ℕ, false, List, [], ◌∷◌, Option, None, Some, Err, slice_get, slice_set}
use Rattle.call_book.specs.Book.{Book}
use Rattle.call_book.specs.declared.leg_name.LegName.{LegName}
use Rattle.call_control.specs.declared.need.Need.{Need}
use Rattle.call_control.specs.declared.reply.Reply.{Reply}
use Rattle.call_control.specs.declared.reply.Reply.TheVariants as replies
use Rattle.peer_lock.specs.Peer.{PeerView}
use Rattle.peer_lock.specs.SoundPeer.{IsSoundPeer}
use Rattle.peer_lock.specs.declared.errors.OpenError.{OpenError}
use Rattle.peer_lock.specs.declared.errors.PeerError.{PeerError}
use Rattle.peer_lock.specs.declared.errors.RejectError.{RejectError}
use Rattle.peer_lock.specs.declared.errors.StepsSpent.{StepsSpent}
use Rattle.laws_of_calls.specs.Stored.{Stored}
use Rattle.laws_of_calls.specs.StoredSteps.{TakesDatagram, RejectsNew, TakesNew, SendsNew, TakesTick, GivesUp, Makes}

-- this is the answer, and the peer stays as it is
pub record Stays (answer : Reply) (old new : PeerView) (reply : Reply) : Type 0 where
  pub becomes : new ≡ old
  pub answers : reply ≡ answer

-- a datagram comes
abbrev pub ReceivesDatagram : PeerView → PeerView → Reply → Type 0
ReceivesDatagram old new reply =
    TakesDatagram old new reply ⊎ ((error : PeerError) × Stays (replies.Datagram (Err error)) old new reply)

-- a NEW comes for which no number is free
abbrev pub ReceivesNewWithoutNumber : PeerView → PeerView → Reply → Type 0
ReceivesNewWithoutNumber old new reply =
    RejectsNew old new reply ⊎ ((error : RejectError) × Stays (replies.RejectNew (Err error)) old new reply)

-- a NEW comes for which a name was given out
abbrev pub ReceivesNew : LegName → PeerView → PeerView → Reply → Type 0
ReceivesNew name old new reply =
    TakesNew name old new reply ⊎ ((error : OpenError) × Stays (replies.OpenIn (Err error)) old new reply)

-- a call is to be placed under a name
abbrev pub Calls : LegName → PeerView → PeerView → Reply → Type 0
Calls name old new reply = SendsNew name old new reply ⊎ ((error : OpenError) × Stays (replies.OpenOut (Err error)) old new reply)

-- a tick
abbrev pub GoesOn : PeerView → PeerView → Reply → Type 0
GoesOn old new reply = TakesTick old new reply ⊎ ((spent : StepsSpent) × Stays (replies.Tick (Err spent)) old new reply)

-- the leg of a name is to be taken out
abbrev pub Retires : LegName → PeerView → PeerView → Reply → Type 0
Retires name old new reply = GivesUp name old new reply ⊎ Stays (replies.Retire false) old new reply

-- the exchange with another state of the peer of a place, or of the book
abbrev pub with_peer : Stored → ℕ → PeerView → Stored
with_peer stored place peer = record stored { peers = slice_set stored.peers place peer }

abbrev pub with_book : Stored → Book → Stored
with_book stored book = record stored { book = book }

-- under a peer's lock the peer of a place changes so, and is sound: then the needed step is made
abbrev pub IsStepAt : ℕ → Need → (PeerView → PeerView → Reply → Type 0) → Type 0
IsStepAt place need Does =
    (old : Stored) (before after : PeerView) (reply : Reply) → slice_get old.peers place ≡ Some before → IsSoundPeer after
    → Does before after reply → Makes need old (with_peer old place after) reply

-- the leases of a caller that has at most one
abbrev pub leases_in : Option LegName → List LegName
leases_in None = []
leases_in (Some name) = name ∷ []
