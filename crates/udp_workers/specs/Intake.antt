-- The datagrams that a turn takes, and the one that it leaves for the next turn.
use Rattle.std.specs.Prelude.{◌≡◌, ℕ, ◌+◌, ◌≤◌, ◌⊎◌, ◌==◌, ◌&&◌, not, Bool, List, [], ◌∷◌, ◌++◌, length, min, nat_le, sum_by}
use Rattle.std.specs.Prelude.{if◌then◌else◌, Option, None, Some, option_to_list, true, false}
use Rattle.call_signals.specs.Codes.{FRAME_IAX, FRAME_VOICE, IAX_NEW, IAX_VNAK}
use Rattle.exchange_core.specs.Traces.{IsHeard, moment}
use Rattle.iax_frames.specs.Datagram.{IsFrame, Spells}
use Rattle.iax_frames.specs.FullFrame.{FullFrame, subclass_meaning}
use Rattle.iax_frames.specs.TrunkFrame.{TrunkEntry}
use Rattle.iax_frames.specs.declared.datagram.Datagram.{Datagram}
use Rattle.iax_frames.specs.declared.datagram.Datagram.TheVariants.{Full, Mini, Video, Trunk}
use Rattle.step_log.specs.Notes.{Noted}
use Rattle.peer_plan.specs.Plan.{PlanView}
use Rattle.udp_wires.specs.Parcels.{Parcel}
use Rattle.udp_workers.specs.Draining.{IsTurnedAway}
use Rattle.udp_workers.specs.Emptied.{EmptiesDue}
use Rattle.udp_workers.specs.Ticked.{TicksDue}
use Rattle.udp_workers.specs.declared.intake.Intake.{Intake}
use Rattle.udp_workers.specs.declared.intake.Intake.TheVariants.{Whole, Bounded}
use Rattle.udp_workers.specs.declared.intake.Weight.{Weight}
use Rattle.exchange_core.specs.declared.watch.ServiceStage.{ServiceStage}

-- what a datagram may bring, by kind
abbrev pub DatagramWeight : Type 0
DatagramWeight = Weight

-- the place for a datagram that isn't handled yet, and how many were put there, modulo 2 ^ 64
pub record InboxView : Type 0 where
  pub datagram : Option Parcel
  pub given : ℕ

-- the number of datagrams there
abbrev pub waiting : Option Parcel → ℕ
waiting None = 0
waiting (Some arrival) = 1

-- ---- the weight of a datagram

abbrev pub no_weight : Weight
no_weight = record { entries = 0; octets = 0; openings = 0 }

abbrev pub plus : Weight → Weight → Weight
plus one other =
    record { entries = one.entries + other.entries; octets = one.octets + other.octets; openings = one.openings + other.openings }

-- the octets of media in entries of a trunk frame
abbrev pub media_octets : List TrunkEntry → ℕ
media_octets entries = sum_by (λ e. length e.media) entries

abbrev pub is_new_subclass : Option ℕ → Bool
is_new_subclass (Some subclass) = subclass == IAX_NEW
is_new_subclass None = false

-- a NEW that may open a leg: it has no destination and OSeqno 0
abbrev pub may_open : FullFrame → Bool
may_open frame =
    (frame.head.frame_type == FRAME_IAX && is_new_subclass (subclass_meaning frame.head.subclass))
    && (frame.head.destination == 0 && frame.head.oseqno == 0)

-- a VNAK may have 128 frames sent again; of voice no more than 1,380 octets are media
abbrev pub weight_of_full : FullFrame → Weight
weight_of_full frame = record {
  entries = if frame.head.frame_type == FRAME_IAX && frame.head.subclass == IAX_VNAK then 128 else 4;
  octets = if frame.head.frame_type == FRAME_VOICE then min (length frame.payload) 1380 else 0;
  openings = if may_open frame then 1 else 0;
}

-- the most that a datagram may put into queues and outboxes, in entries or datagrams, and in octets of media; and the legs
-- that it may open
abbrev pub weight_of : Datagram → Weight
weight_of (Full frame) = weight_of_full frame
weight_of (Mini frame) = record { entries = 1; octets = length frame.media; openings = 0 }
weight_of (Video frame) = no_weight
weight_of (Trunk frame) = record { entries = length frame.entries; octets = media_octets frame.entries; openings = 0 }

-- the weight of these octets: that of the datagram that they spell, and nothing if they spell none
pub record IsWeightOf (octets : List ℕ) (weight : Weight) : Type 0 where
  pub spelled : (d : Datagram) → Spells octets d → weight ≡ weight_of d
  pub unread : (IsFrame octets → ⊥) → weight ≡ no_weight

-- the weight of these datagrams together, the last of them first
abbrev pub Weigh : List Parcel → Weight → Type 0
Weigh [] weight = weight ≡ no_weight
Weigh (arrival ∷ before) weight =
    (one : Weight) × (rest : Weight) × IsWeightOf arrival.octets one × Weigh before rest × (weight ≡ plus rest one)

-- ---- the limit of a turn

-- An empty outbox has room for this weight and a trunk frame, and so does a trunk queue. A turn has one challenge, for one
-- NEW.
abbrev pub fits : Weight → Bool
fits weight = nat_le weight.entries 255 && (nat_le weight.octets 16384 && nat_le weight.openings 1)

-- the weight of a turn with one more datagram, if it fits; the first datagram always does
abbrev pub with_weight : Option Weight → Weight → Option Weight
with_weight None one = Some one
with_weight (Some taken) one = if fits (plus taken one) then Some (plus taken one) else None

-- the same by the octets of the datagram; a turn without a limit weighs nothing
abbrev pub IsLoaded : Intake → Option Weight → List ℕ → Option Weight → Type 0
IsLoaded Whole taken octets after = after ≡ Some no_weight
IsLoaded Bounded taken octets after = (one : Weight) × IsWeightOf octets one × (after ≡ with_weight taken one)

-- The datagrams that one turn may take, the last of them first: at most 64. A bounded turn takes one datagram, or several
-- that fit together.
abbrev pub IsWithin : Intake → List Parcel → Type 0
IsWithin Whole arrivals = length arrivals ≤ 64
IsWithin Bounded arrivals =
    (length arrivals ≤ 64) × ((length arrivals ≤ 1) ⊎ ((weight : Weight) × Weigh arrivals weight × (fits weight ≡ true)))

-- the datagram that a turn leaves for the next one: none, or in a bounded turn one that doesn't fit any more
abbrev pub Leaves : Intake → List Parcel → Option Parcel → Type 0
Leaves intake arrivals None = Unit {0}
Leaves Whole arrivals (Some left) = ⊥
Leaves Bounded arrivals (Some left) =
    (taken : Weight) × (one : Weight) × Weigh arrivals taken × IsWeightOf left.octets one × (fits (plus taken one) ≡ false)

-- the first of these; the list has the last one first
abbrev pub first_of : List Parcel → Option Parcel
first_of [] = None
first_of (arrival ∷ []) = Some arrival
first_of (arrival ∷ (before ∷ rest)) = first_of (before ∷ rest)

-- a turn first takes the datagram that the turn before left
abbrev pub BeginsWith : Option Parcel → List Parcel → Type 0
BeginsWith None arrivals = Unit {0}
BeginsWith (Some held) arrivals = first_of arrivals ≡ Some held

-- The longest wait of a run between two turns, in milliseconds. A bounded run waits no longer than media waits for a trunk
-- frame to fill, unless that is 0.
abbrev pub longest_wait : Intake → Option ℕ → ℕ
longest_wait Whole wait = 20
longest_wait Bounded None = 20
longest_wait Bounded (Some wait) = if wait == 0 then 20 else min wait 20

-- ---- the steps of a turn

-- a turn's stage, its moment and its challenge
pub record TurnView : Type 0 where
  pub stage : ServiceStage
  pub now : ℕ
  pub challenge : List ℕ

-- Whether a turn has to tick all peers of its worker, by the moment of the turn before it. It may leave some out only if it
-- is bounded and has the same moment.
abbrev pub ticks_all : Intake → Option ℕ → ℕ → Bool
ticks_all Whole before now = true
ticks_all Bounded None now = true
ticks_all Bounded (Some before) now = not (before == now)

-- the moment of the last of these turns; the list has the last one first
abbrev pub last_moment : List TurnView → Option ℕ
last_moment [] = None
last_moment (turn ∷ before) = Some turn.now

-- A datagram was taken: it is turned away, or the exchange received it. Nothing was noted of one that is turned away.
pub record IsTaken (plan : PlanView) (turn : TurnView) (arrival : Parcel) (old new : Noted) : Type 0 where
  pub away : IsTurnedAway turn.stage arrival.octets → new ≡ old
  pub heard : IsTurnedAway turn.stage arrival.octets ⊎ IsHeard plan arrival.endpoint (record (moment plan turn.now) {
    octets = arrival.octets;
    challenge = Some turn.challenge;
  }) old new

-- exactly these were taken, one after another; the list has the last one first
abbrev pub TakesAll : PlanView → TurnView → List Parcel → Noted → Noted → Type 0
TakesAll plan turn [] old new = new ≡ old
TakesAll plan turn (arrival ∷ before) old new =
    (mid : Noted) × TakesAll plan turn before old mid × IsTaken plan turn arrival mid new

-- in the order in which they came; the list has the last one first
abbrev pub in_order : List Parcel → List Parcel
in_order [] = []
in_order (arrival ∷ before) = in_order before ++ arrival ∷ []

-- what a wire gave meanwhile was put in the empty place, if it gave anything
pub record Fills (was here : Option Parcel) (before after : List Parcel) : Type 0 where
  pub since : List Parcel
  pub came : after ≡ before ++ since
  pub filled : option_to_list was ++ since ≡ option_to_list here

-- What was left before, and what the wire gave since, is what was taken, whole, each once and in order, and then what is
-- left now.
pub record TakesWhatCame (was left : Option Parcel) (arrivals before after : List Parcel) : Type 0 where
  pub since : List Parcel
  pub came : after ≡ before ++ since
  pub whole : option_to_list was ++ since ≡ in_order arrivals ++ option_to_list left

-- A turn took datagrams: first the one that was left to it, and then others within its limit, and it left the one named
-- here. It counted each as received. What the wire had given before and after the turn is named last.
pub record TakesIn (intake : Intake) (plan : PlanView) (turn : TurnView) (was left : Option Parcel) (counted now_counted : ℕ)
    (old new : Noted) (before after : List Parcel) : Type 0 where
  pub arrivals : List Parcel
  pub received : now_counted ≡ counted + length arrivals
  pub first : BeginsWith was arrivals
  pub within : IsWithin intake arrivals
  pub leaves : Leaves intake arrivals left
  pub taken : TakesAll plan turn arrivals old new
  pub what_came : TakesWhatCame was left arrivals before after

-- what a wire gave, and what it was given to send, until a moment, in order
pub record Passed : Type 0 where
  pub came : List Parcel
  pub went : List Parcel

-- A turn: it took datagrams; then it ticked all of these peers, or each that was due; then it emptied their outboxes.
pub record MakesTurn (intake : Intake) (plan : PlanView) (peers : List ℕ) (all : Bool) (turn : TurnView)
    (was left : Option Parcel)
    (counted now_counted : ℕ) (old new : Noted) (before after : Passed) : Type 0 where
  pub taken : Noted
  pub takes : TakesIn intake plan turn was left counted now_counted old taken before.came after.came
  pub ticked : Noted
  pub ticks : TicksDue plan turn.now all peers taken ticked
  pub empties : EmptiesDue plan all peers ticked new before.went after.went

-- no turn was made yet
pub record MakesNone (left : Option Parcel) (received : ℕ) (old new : Noted) (first now : Passed) : Type 0 where
  pub none_left : left ≡ None
  pub none_received : received ≡ 0
  pub same : new ≡ old
  pub passed_nothing : now ≡ first

-- A turn was made behind these, and ticked all peers if it had to. `Before` says what they left, counted and noted, and what
-- had passed the wire.
pub record MakesLast (Before : Option Parcel → ℕ → Noted → Passed → Type 0) (intake : Intake) (plan : PlanView) (peers : List ℕ)
    (turn : TurnView) (earlier : List TurnView) (left : Option Parcel) (received : ℕ) (new : Noted) (now : Passed) : Type 0 where
  pub was : Option Parcel
  pub counted : ℕ
  pub mid : Noted
  pub between : Passed
  pub before : Before was counted mid between
  pub all : Bool
  pub must : ticks_all intake (last_moment earlier) turn.now ≡ true → all ≡ true
  pub makes : MakesTurn intake plan peers all turn was left counted received mid new between now

-- These turns were made one after another, the last of them first, and no others. No datagram was left to the first of
-- them, and the last left the one named here.
abbrev pub MakesAllTurns : Intake → PlanView → List ℕ → List TurnView → Option Parcel → ℕ → Noted → Noted → Passed → Passed
    → Type 0
MakesAllTurns intake plan peers [] left received old new first now = MakesNone left received old new first now
MakesAllTurns intake plan peers (turn ∷ earlier) left received old new first now =
    MakesLast (λ was counted mid between. MakesAllTurns intake plan peers earlier was counted old mid first between) intake plan
    peers turn earlier left received new now
