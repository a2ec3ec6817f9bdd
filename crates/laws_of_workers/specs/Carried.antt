-- Media crosses only its own call, by the notes of the steps that a datagram brings ("Mini Frames", "Meta Frames").
use Rattle.std.specs.Prelude.{◌≡◌, ◌≢◌, ◌⊎◌, ℕ, List, [], ◌∷◌, ◌++◌, Result, Ok, Err, Some, option_map, slice_get, slice_range}
use Rattle.call_book.specs.declared.leg_name.LegName.{LegName}
use Rattle.call_signals.specs.declared.order.Command.TheVariants as commands
use Rattle.call_signals.specs.declared.signal.MediaSpan.{MediaSpan}
use Rattle.call_signals.specs.declared.signal.Signal.{Signal}
use Rattle.call_signals.specs.declared.signal.Signal.TheVariants as signals
use Rattle.step_log.specs.Notes.{Noted}
use Rattle.step_log.specs.declared.made.Made.{Made}
use Rattle.step_log.specs.declared.made.Made.TheVariants as mades
use Rattle.peer_lock.specs.HandedUp.{HandedUp}
use Rattle.peer_lock.specs.declared.errors.PeerError.TheVariants.{NeedsNumber}
use Rattle.peer_lock.specs.declared.steps.Step.{Step}
use Rattle.peer_plan.specs.Plan.{PlanView}
use Rattle.peer_plan.specs.declared.endpoint.Endpoint.{Endpoint}
use Rattle.udp_wires.specs.Parcels.{Parcel}
use Rattle.udp_workers.specs.Draining.{IsTurnedAway}
use Rattle.exchange_core.specs.declared.watch.ServiceStage.{ServiceStage}

-- the signals that a step handed up; none if it was refused
abbrev pub handed_up : {E : Type 0} → Result Step E → HandedUp → List (LegName × Signal)
handed_up (Ok step) onwards = onwards.signals
handed_up (Err error) onwards = []

-- The media of an order is just a span of the datagram, which a leg handed up in a signal that waits to be passed on. In the
-- note before the order the book named the ordered leg as that leg's partner. Signals ahead of this one are passed over, and
-- those behind it wait further. The notes before have the last one first.
pub record PassesOn (octets : List ℕ) (earlier : List Made) (waiting further : List (LegName × Signal)) (name : LegName)
    (media : List ℕ) : Type 0 where
  pub leg : LegName
  pub span : MediaSpan
  pub passed_over : List (LegName × Signal)
  pub waits : waiting ≡ passed_over ++ (leg, signals.Media span) ∷ further
  pub before : List Made
  pub named : earlier ≡ mades.Partner leg (Some name) ∷ before
  pub media_is : media ≡ slice_range octets span.start span.end

-- a leg of this name is opened for a datagram: the peer needed a number for it, and then the book gave that name for the peer
pub record NeededName (peer : ℕ) (octets : List ℕ) (earlier : List Made) (name : LegName) : Type 0 where
  pub now : ℕ
  pub onwards : HandedUp
  pub needed : earlier ≡ mades.Reserve peer (Ok name) ∷ (mades.Datagram peer octets now (Err NeedsNumber) onwards ∷ [])

-- One note of the call of a datagram at a peer, with the notes before it, and the signals that wait before and after it. The
-- datagram is handled first, at that peer, and not again. An order of media passes a signal on, and no other order has octets
-- of media.
abbrev pub CarriesAt : ℕ → List ℕ → List Made → List (LegName × Signal) → Made → List (LegName × Signal) → Type 0
CarriesAt peer octets earlier waiting (mades.Datagram place received now answer onwards) further =
    (place ≡ peer) × (received ≡ octets) × (earlier ≡ []) × (further ≡ handed_up answer onwards)
CarriesAt peer octets earlier waiting (mades.OpenIn place name head payload now challenge answer onwards) further =
    (place ≡ name.peer) × NeededName peer octets earlier name × (further ≡ handed_up answer onwards)
CarriesAt peer octets earlier waiting (mades.Order place name (commands.Media tt) media now answer) further =
    (place ≡ name.peer) × PassesOn octets earlier waiting further name media
CarriesAt peer octets earlier waiting (mades.Order place name kind media now answer) further = (media ≡ []) × (further ≡ waiting)
CarriesAt peer octets earlier waiting note further = further ≡ waiting

-- .. and all notes from there on to the last of the call
abbrev pub Carries : ℕ → List ℕ → List Made → List (LegName × Signal) → List Made → Type 0
Carries peer octets earlier waiting [] = Unit {0}
Carries peer octets earlier waiting (note ∷ rest) =
    (further : List (LegName × Signal)) × CarriesAt peer octets earlier waiting note further ×
    Carries peer octets (note ∷ earlier) further rest

-- a note that isn't of an order with media
abbrev pub IsNoMedia : Made → Type 0
IsNoMedia (mades.Order place name kind media now answer) = (kind ≢ commands.Media tt) × (media ≡ [])
IsNoMedia note = Unit {0}

-- what was noted is the call of a datagram with these octets at this peer; no signal waits when it begins
pub record CarriesItsOwn (peer : ℕ) (octets : List ℕ) (old new : Noted) : Type 0 where
  pub notes : List Made
  pub noted : new.made ≡ old.made ++ notes
  pub carries : Carries peer octets [] [] notes

-- a datagram from an endpoint: nothing was noted, or its call at a peer that has this endpoint
abbrev pub IsItsCall : PlanView → Endpoint → List ℕ → Noted → Noted → Type 0
IsItsCall plan from octets old new =
    (new ≡ old)
    ⊎ ((peer : ℕ) × (option_map (λ peer. peer.endpoint) (slice_get plan.peers peer) ≡ Some from) ×
    CarriesItsOwn peer octets old new)

-- A datagram of a turn: it is turned away, or its own call was noted. Nothing was noted of one that is turned away.
pub record TakenCarries (plan : PlanView) (stage : ServiceStage) (arrival : Parcel) (old new : Noted) : Type 0 where
  pub away : IsTurnedAway stage arrival.octets → new ≡ old
  pub heard : IsTurnedAway stage arrival.octets ⊎ IsItsCall plan arrival.endpoint arrival.octets old new

-- all datagrams of a turn, one after another: their own calls and nothing else; the list has the last one first
abbrev pub AllCarry : PlanView → ServiceStage → List Parcel → Noted → Noted → Type 0
AllCarry plan stage [] old new = new ≡ old
AllCarry plan stage (arrival ∷ before) old new =
    (mid : Noted) × AllCarry plan stage before old mid × TakenCarries plan stage arrival mid new
