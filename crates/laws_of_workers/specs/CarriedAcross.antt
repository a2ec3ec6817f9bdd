-- Media crosses only its own call, from datagram to datagram ("Mini Frames", "Meta Frames").
use Rattle.std.specs.Prelude.{ℕ, ◌≡◌, ◌⊎◌, ◌≤◌, ◌==◌, List, [], ◌∷◌, ◌++◌, Contains, Option, Some, Ok, length, option_map}
use Rattle.std.specs.Prelude.{slice_get, slice_range, if◌then◌else◌}
use Rattle.std.specs.List.{AllByRecursion}
use Rattle.call_book.specs.declared.leg_name.LegName.{LegName}
use Rattle.call_signals.specs.declared.signal.MediaSpan.{MediaSpan}
use Rattle.call_signals.specs.declared.signal.Signal.TheVariants as signals
use Rattle.step_log.specs.Notes.{Noted}
use Rattle.laws_of_peers.specs.Trails.{CarriesTrail, OrderedMedia, media_at, taken_at}
use Rattle.step_log.specs.declared.made.Made.{Made}
use Rattle.step_log.specs.declared.made.Made.TheVariants as mades
use Rattle.peer_lock.specs.HandedUp.{HandedUp}
use Rattle.peer_lock.specs.Peer.{PeerView}
use Rattle.peer_lock.specs.declared.steps.Step.{Step}
use Rattle.peer_plan.specs.Plan.{PlanView}
use Rattle.udp_wires.specs.Parcels.{Parcel}
use Rattle.udp_workers.specs.Intake.{MakesAllTurns, Passed, TurnView}
use Rattle.udp_workers.specs.Served.{endpoint_at}
use Rattle.udp_workers.specs.declared.intake.Intake.{Intake}

-- ---- one datagram

-- the notes have the step of a datagram with these octets, in which this leg handed up this span
pub record HandsUp (notes : List Made) (octets : List ℕ) (leg : LegName) (span : MediaSpan) : Type 0 where
  pub peer : ℕ
  pub now : ℕ
  pub step : Step
  pub onwards : HandedUp
  pub noted : Contains notes (mades.Datagram peer octets now (Ok step) onwards)
  pub signal : Contains onwards.signals (leg, signals.Media span)

-- The media is just this span of the octets of a datagram, which begins at a place or behind it. A leg handed the span up in
-- the step of that datagram. The notes name the leg that was ordered to send the media as that leg's partner.
pub record IsSpan (notes : List Made) (octets : List ℕ) (at : ℕ) (ordered : OrderedMedia) (span : MediaSpan) : Type 0 where
  pub leg : LegName
  pub handed : HandsUp notes octets leg span
  pub partner : Contains notes (mades.Partner leg (Some ordered.name))
  pub behind : at ≤ span.start
  pub forward : span.start ≤ span.end
  pub within : span.end ≤ length octets
  pub media : ordered.media ≡ slice_range octets span.start span.end

-- all of these are spans of one datagram, each behind the one before it, so that no octet is in two
abbrev pub AreSpans : List Made → List ℕ → ℕ → List OrderedMedia → Type 0
AreSpans notes octets at [] = Unit {0}
AreSpans notes octets at (ordered ∷ others) =
    (span : MediaSpan) × IsSpan notes octets at ordered span × AreSpans notes octets span.end others

-- the media that the legs of the peer of a place were ordered to send in the call of a datagram with these octets
pub record CallOrders (place : ℕ) (octets : List ℕ) (old new : Noted) (media : List OrderedMedia) : Type 0 where
  pub notes : List Made
  pub noted : new.made ≡ old.made ++ notes
  pub media_is : media ≡ media_at place notes
  pub spans : AreSpans notes octets 0 media

-- .. in its call at a peer that has the endpoint from which it came; or nothing was noted
abbrev pub DatagramOrders : PlanView → ℕ → Parcel → Noted → Noted → List OrderedMedia → Type 0
DatagramOrders plan place arrival old new media =
    ((new ≡ old) × (media ≡ []))
    ⊎ ((peer : ℕ) × (option_map (λ peer. peer.endpoint) (slice_get plan.peers peer) ≡ Some arrival.endpoint) ×
    CallOrders place arrival.octets old new media)

-- ---- turns

-- .. in the calls of all these datagrams, one call after another; the list has the last datagram first
abbrev pub AllOrder : PlanView → ℕ → List Parcel → Noted → Noted → List OrderedMedia → Type 0
AllOrder plan place [] old new media = (new ≡ old) × (media ≡ [])
AllOrder plan place (arrival ∷ before) old new media =
    (mid : Noted) × (earlier : List OrderedMedia) × (own : List OrderedMedia) × AllOrder plan place before old mid earlier ×
    DatagramOrders plan place arrival mid new own × (media ≡ earlier ++ own)

-- .. in these turns, each with its datagrams, and nothing else was ordered; the list has the last turn first
abbrev pub TurnsOrder : PlanView → ℕ → List (List Parcel) → Noted → List OrderedMedia → Type 0
TurnsOrder plan place [] old media = media ≡ []
TurnsOrder plan place (arrivals ∷ before) old media =
    (mid : Noted) × (taken : Noted) × (earlier : List OrderedMedia) × (own : List OrderedMedia) ×
    TurnsOrder plan place before old earlier × AllOrder plan place arrivals mid taken own × (media ≡ earlier ++ own)

-- the datagrams that each turn of a run took; both lists have the last one first
abbrev pub arrivals_of : (intake : Intake) (plan : PlanView) (peers : List ℕ) (turns : List TurnView) (left : Option Parcel)
    (received : ℕ) (old new : Noted) (first now : Passed) →
    MakesAllTurns intake plan peers turns left received old new first now → List (List Parcel)
arrivals_of intake plan peers [] left received old new first now run = []
arrivals_of intake plan peers (turn ∷ earlier) left received old new first now run =
    run.makes.takes.arrivals ∷
    arrivals_of intake plan peers earlier run.was run.counted old run.mid first run.between run.before

-- ---- to the wire

-- a datagram that was given to a wire, and the place of the peer from whose outbox it was taken
pub record Handed : Type 0 where
  pub peer : ℕ
  pub parcel : Parcel

abbrev pub parcels_of : List Handed → List Parcel
parcels_of [] = []
parcels_of (one ∷ others) = one.parcel ∷ parcels_of others

-- the octets of those of the peer of a place
abbrev pub handed_from : ℕ → List Handed → List (List ℕ)
handed_from place [] = []
handed_from place (one ∷ others) = (if one.peer == place then one.parcel.octets ∷ [] else []) ++ handed_from place others

-- What a wire was given meanwhile is just what the steps of a trail took out of outboxes, in order, each datagram for the
-- endpoint of its peer.
pub record HandsTaken (plan : PlanView) (trail : List Made) (before after : List Parcel) : Type 0 where
  pub handed : List Handed
  pub went : after ≡ before ++ parcels_of handed
  pub endpoints : AllByRecursion (λ one. endpoint_at plan one.peer ≡ Some one.parcel.endpoint) handed
  pub taken : (place : ℕ) → handed_from place handed ≡ taken_at place trail

-- ---- from datagrams to datagrams

-- The media that the legs of the peer of a place were ordered to send comes from the datagrams of these turns. What was put into
-- its trunk queue and its outbox is that media, by the steps of the trail. A wire was given what was taken out there.
pub record CarriesAcross (plan : PlanView) (place : ℕ) (arrivals : List (List Parcel)) (old : Noted) (trail : List Made)
    (first last : PeerView) (before after : Passed) : Type 0 where
  pub orders : TurnsOrder plan place arrivals old (media_at place trail)
  pub carries : CarriesTrail place trail first last
  pub hands : HandsTaken plan trail before.went after.went
