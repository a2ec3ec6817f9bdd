-- Many calls at once on a stored exchange: one change after another, in any order.
use Rattle.std.specs.Prelude.{◌≡◌, ℕ, Bool, List, [], ◌∷◌, None, Some, fold, slice_get, slice_set}
use Rattle.call_control.specs.Work.{next_of, after_told}
use Rattle.call_control.specs.World.{Caller, Start, work_of}
use Rattle.call_control.specs.declared.need.Need.{Need}
use Rattle.call_control.specs.declared.reply.Reply.{Reply}
use Rattle.peer_lock.specs.Outbox.{with_waiting}
use Rattle.peer_lock.specs.Peer.{PeerView}
use Rattle.laws_of_calls.specs.Stored.{Stored}
use Rattle.laws_of_calls.specs.StoredSteps.{Makes, leases_after}

-- a caller that is idle begins a call
pub record Begins (old new : Stored) : Type 0 where
  pub who : ℕ
  pub caller : Caller
  pub at : slice_get old.callers who ≡ Some caller
  pub idle : next_of caller.work ≡ None
  pub start : Start
  pub callers : new.callers ≡ slice_set old.callers who (record caller { work = work_of start })
  pub book : new.book ≡ old.book
  pub peers : new.peers ≡ old.peers

-- a caller whose step had this answer
abbrev pub told : Caller → Need → Reply → Caller
told caller need reply = record { work = after_told caller.work reply; leases = leases_after need reply caller.leases }

-- the next step of a caller's work is made, and the work takes the answer
pub record Steps (old new : Stored) : Type 0 where
  pub who : ℕ
  pub caller : Caller
  pub at : slice_get old.callers who ≡ Some caller
  pub need : Need
  pub needed : next_of caller.work ≡ Some need
  pub reply : Reply
  pub made : Makes need old new reply
  pub callers : new.callers ≡ slice_set old.callers who (told caller need reply)

-- the peer of a place changes so, by no call's step; all others stay as they are, and so do the book and the callers
pub record Becomes (place : ℕ) (before after : PeerView) (old new : Stored) : Type 0 where
  pub at : slice_get old.peers place ≡ Some before
  pub peers : new.peers ≡ slice_set old.peers place after
  pub book : new.book ≡ old.book
  pub callers : new.callers ≡ old.callers

-- the oldest datagram of a peer's outbox is sent
pub record TakesOut (old new : Stored) : Type 0 where
  pub place : ℕ
  pub before : PeerView
  pub datagram : List ℕ
  pub waiting : List (List ℕ)
  pub oldest : before.outbox.waiting ≡ datagram ∷ waiting
  pub becomes : Becomes place before (record before { outbox = with_waiting before.outbox waiting }) old new

-- a peer begins to drain, or drains no longer
pub record SetsDraining (old new : Stored) : Type 0 where
  pub place : ℕ
  pub before : PeerView
  pub drains : Bool
  pub becomes : Becomes place before (record before { drains = drains }) old new

pub data Changes (old new : Stored) : Type 0 where
  ByBeginning : (begins : Begins old new) → Changes old new
  ByStep : (step : Steps old new) → Changes old new
  ByTakingOut : (out : TakesOut old new) → Changes old new
  ByDraining : (draining : SetsDraining old new) → Changes old new

-- each state comes from the one before it
abbrev pub IsRun : Stored → List Stored → Type 0
IsRun first [] = Unit {0}
IsRun first (next ∷ later) = Changes first next × IsRun next later

abbrev pub last_of : Stored → List Stored → Stored
last_of first later = fold (λ before next. next) first later
