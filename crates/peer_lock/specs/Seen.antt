-- The part of a peer that callers at once see: of each leg the name, the stage, whether it is doomed and whether it owes.
-- And the effect that a step of the peer may have on it ("IAX Frames", "Call Setup").
use Rattle.std.specs.Prelude.{◌≡◌, ◌≢◌, ℕ, ◌&&◌, not, ◌⊎◌, Bool, true, false, List, [], ◌∷◌, ◌++◌, Option, None, Some, option_map}
use Rattle.std.specs.Prelude.{is_some}
use Rattle.call_book.specs.declared.leg_name.LegName.{LegName}
use Rattle.leg_machine.specs.Seen.{SeenLeg, SeenFrame, Speaks, seen, frame_effect, moved, opening_effect, fresh_leg, stage_after}
use Rattle.leg_machine.specs.Seen.{IsSeenOrder, IsSeenTick}
use Rattle.leg_machine.specs.Stage.{is_ended}
use Rattle.call_signals.specs.declared.openings.Opening.{Opening}
use Rattle.call_signals.specs.Order.{Kind}
use Rattle.call_signals.specs.declared.order.Command.TheVariants as commands
use Rattle.call_signals.specs.declared.signal.MediaSpan.{MediaSpan}
use Rattle.call_signals.specs.declared.signal.Signal.{Signal}
use Rattle.call_signals.specs.declared.stage.Stage.TheVariants.{Waiting}
use Rattle.peer_legs.specs.Legs.{NamedLeg, PeerLegs, leg_at}
use Rattle.peer_lock.specs.Peer.{PeerStep, handed_up}
use Rattle.peer_lock.specs.declared.errors.OrderError.{OrderError}
use Rattle.peer_lock.specs.declared.errors.OrderError.TheVariants as errors

pub record SeenNamed : Type 0 where
  pub name : LegName
  pub seen : SeenLeg

abbrev pub seen_named : NamedLeg → SeenNamed
seen_named named = record { name = named.name; seen = seen named.leg }

-- the leg of a local number, as it is seen
abbrev pub seen_at : PeerLegs → ℕ → Option SeenNamed
seen_at legs number = option_map seen_named (leg_at legs number)

-- afterwards the leg of this number is seen like this, or there is none; all others are seen as before
pub record TurnsAt (old new : PeerLegs) (number : ℕ) (after : Option SeenNamed) : Type 0 where
  pub peer : new.peer ≡ old.peer
  pub there : seen_at new number ≡ after
  pub rest : (other : ℕ) → other ≢ number → seen_at new other ≡ seen_at old other

-- ---- datagrams

-- A full frame comes to a leg. Without credit for its media, it is a frame that changes nothing.
pub record Brings (old : PeerLegs) (step : PeerStep) : Type 0 where
  pub named : SeenNamed
  pub at : seen_at old named.name.number ≡ Some named
  pub frame : SeenFrame
  pub turns : TurnsAt old step.peer.legs named.name.number
      (Some (record named { seen = moved named.seen (frame_effect frame named.seen.stage).stage }))
  pub signals : step.signals ≡ handed_up named.name (frame_effect frame named.seen.stage).signal
  pub touched : step.step.touched ≡ Some named.name

-- media is handed up at a leg that talks
abbrev pub media_up : Option SeenNamed → MediaSpan → List (LegName × Signal)
media_up None span = []
media_up (Some named) span = handed_up named.name (frame_effect (Speaks span) named.seen.stage).signal

-- .. at the legs of these numbers
abbrev pub all_media : PeerLegs → List (ℕ × MediaSpan) → List (LegName × Signal)
all_media legs [] = []
all_media legs (one ∷ media) = media_up (seen_at legs one.0) one.1 ++ all_media legs media

-- Media comes to legs, or nothing does. Each leg stays as it is.
pub record BringsMedia (old : PeerLegs) (step : PeerStep) : Type 0 where
  pub same : step.peer.legs ≡ old
  pub media : List (ℕ × MediaSpan)
  pub signals : step.signals ≡ all_media old media
  pub touched : step.step.touched ≡ None

abbrev pub IsSeenDatagram : PeerLegs → PeerStep → Type 0
IsSeenDatagram old step = Brings old step ⊎ BringsMedia old step

-- ---- openings

-- a NEW opens a leg under a name whose number no leg has
pub record OpensIn (old : PeerLegs) (name : LegName) (step : PeerStep) : Type 0 where
  pub peer : name.peer ≡ old.peer
  pub free : seen_at old name.number ≡ None
  pub opening : Opening
  pub turns : TurnsAt old step.peer.legs name.number (Some (record {
    name = name;
    seen = fresh_leg (opening_effect opening).stage;
  }))
  pub signals : step.signals ≡ handed_up name (opening_effect opening).signal
  pub touched : step.step.touched ≡ Some name

-- a NEW is rejected: each leg stays as it is, and none is concerned
pub record RejectsNew (old : PeerLegs) (step : PeerStep) : Type 0 where
  pub same : step.peer.legs ≡ old
  pub signals : step.signals ≡ []
  pub touched : step.step.touched ≡ None

-- a call of this exchange opens a leg under a name whose number no leg has
pub record OpensOut (old new : PeerLegs) (name : LegName) : Type 0 where
  pub peer : name.peer ≡ old.peer
  pub free : seen_at old name.number ≡ None
  pub turns : TurnsAt old new name.number (Some (record { name = name; seen = fresh_leg Waiting }))

-- ---- orders

-- the leg of a name obeys an order
pub record Obeys (old new : PeerLegs) (name : LegName) (kind : Kind) : Type 0 where
  pub before : SeenLeg
  pub at : seen_at old name.number ≡ Some (record { name = name; seen = before })
  pub after : SeenLeg
  pub order : IsSeenOrder kind before after
  pub turns : TurnsAt old new name.number (Some (record { name = name; seen = after }))

-- no leg has the name
abbrev pub IsGone : PeerLegs → LegName → Type 0
IsGone legs name = (before : SeenLeg) → seen_at legs name.number ≢ Some (record { name = name; seen = before })

-- the refusals of an order by a leg in this state whose stage is a right one
abbrev pub refuses_order : Kind → OrderError → Bool
refuses_order (commands.Doom cause) error = false
refuses_order commands.Paid error = false
refuses_order kind errors.WindowFull = true
refuses_order kind errors.RecordFull = true
refuses_order kind errors.Memory = true
-- a doomed leg accepts no digits
refuses_order (commands.Dtmf digit) errors.WrongStage = true
refuses_order kind error = false

-- the leg of the name is there, and its stage is a right one or not
pub record Refuses (legs : PeerLegs) (name : LegName) (kind : Kind) (error : OrderError) (is_right : Bool) : Type 0 where
  pub before : SeenLeg
  pub at : seen_at legs name.number ≡ Some (record { name = name; seen = before })
  pub right : is_some (stage_after kind before.stage) ≡ is_right
  pub refuses : is_right ≡ true → refuses_order kind error ≡ true

-- the refusal of an order of a leg, as it is seen
abbrev pub IsSeenRefusal : PeerLegs → LegName → Kind → OrderError → Type 0
IsSeenRefusal legs name kind errors.StepsSpent = Unit {0}
IsSeenRefusal legs name kind errors.Gone = IsGone legs name
IsSeenRefusal legs name kind errors.WrongStage = (is_right : Bool) × Refuses legs name kind errors.WrongStage is_right
IsSeenRefusal legs name kind error = Refuses legs name kind error true

-- ---- ticks

-- a leg is seen after a tick as one that may have lapsed
abbrev pub IsTickedAt : Option SeenNamed → Option SeenNamed → Type 0
IsTickedAt None new = new ≡ None
IsTickedAt (Some named) new = (after : SeenLeg) × IsSeenTick named.seen after × (new ≡ Some (record named { seen = after }))

pub record TicksAll (old new : PeerLegs) : Type 0 where
  pub peer : new.peer ≡ old.peer
  pub each : (number : ℕ) → IsTickedAt (seen_at old number) (seen_at new number)

-- ---- taking a leg out

-- the leg of a name has ended and owes nothing, and is taken out
pub record Retires (old new : PeerLegs) (name : LegName) : Type 0 where
  pub before : SeenLeg
  pub at : seen_at old name.number ≡ Some (record { name = name; seen = before })
  pub done : (is_ended before.stage && not before.owes) ≡ true
  pub turns : TurnsAt old new name.number None
