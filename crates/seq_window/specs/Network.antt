-- Two sides that send each other datagrams over a network that may lose, repeat, delay and reorder them ("Message Transport").
use Rattle.std.specs.Prelude.{◌≡◌, ℕ, ◌+◌, ◌≤◌, ◌&&◌, nat_lt, List, [], ◌∷◌, ◌++◌, length, Option, None, Some, IfSome, OnSome}
use Rattle.std.specs.Prelude.{slice_get, pos, if◌then◌else◌}
use Rattle.std.specs.List.{flat_map}
use Rattle.iax_frames.specs.declared.stored_frame.Frame.{Frame}
use Rattle.seq_window.specs.Entry.{Entry, Sent}
use Rattle.seq_window.specs.History.{sent, taken, sent_count, taken_count, acked_count, held, IsLegal}
use Rattle.seq_window.specs.Sequence.{byte_of, number_judged, acknowledgement_judged}
use Rattle.seq_window.specs.Window.{judged_acknowledgement, judged_number, count_of, entries_for_count, entries_for_number}
use Rattle.seq_window.specs.Turn.{Turn, entries_in_turn, extended}

-- A datagram with its numbers, which have no bound: they are reduced to octets when they are judged.
pub record Datagram : Type 0 where
  -- the sequence number of its frame; without a frame, the next that will be used
  pub number : ℕ
  -- the next sequence number that its sender expected then
  pub acknowledgement : ℕ
  -- the frame, if it is numbered
  pub frame : Option Frame

-- one side: its window, its record, and every datagram that it ever sent, the latest first
pub record Side : Type 0 where
  pub width : ℕ
  pub limit : ℕ
  pub history : List Entry
  pub datagrams : List Datagram

-- the actions of a side. The datagrams that it judges are any that the other side ever sent; a lost datagram is never
-- judged
pub data Action : Type 0 where
  SendNumbered : (frame : Frame) → Action
  SendUnnumbered : Action
  -- the held frame at this place is retransmitted
  Retransmit : (place : ℕ) → Action
  JudgeAcknowledgement : (which : ℕ) → Action
  JudgeNumber : (which : ℕ) → Action

-- a datagram that a side with this record sends now, with this sequence number and frame
abbrev pub datagram_of : List Entry → ℕ → Option Frame → Datagram
datagram_of history number frame = record { number = number; acknowledgement = taken_count history; frame = frame }

-- fewer frames are held than the window is wide, and the record has room
abbrev pub after_send : Side → Frame → Side
after_send own frame =
    if nat_lt (length (held own.history)) own.width && nat_lt (length own.history) own.limit
    then record own {
      history = own.history ++ Sent frame ∷ [];
      datagrams = datagram_of own.history (sent_count own.history) (Some frame) ∷ own.datagrams;
    }
    else own

abbrev pub after_retransmission : Side → ℕ → Option Frame → Side
after_retransmission own place None = own
after_retransmission own place (Some frame) =
    record own { datagrams = datagram_of own.history (acked_count own.history + place) (Some frame) ∷ own.datagrams }

-- by its octet
abbrev pub after_acknowledgement : Side → Option Datagram → Side
after_acknowledgement own None = own
after_acknowledgement own (Some datagram) =
    record own {
      history = extended own.limit own.history
          (entries_for_count (count_of (judged_acknowledgement own.history (byte_of datagram.acknowledgement))));
    }

abbrev pub after_number : Side → ℕ → Option Frame → Side
after_number own number None = own
after_number own number (Some frame) =
    record own {
      history = extended own.limit own.history
          (entries_for_number (judged_number own.history (byte_of number)) frame);
    }

abbrev pub after_reception : Side → Option Datagram → Side
after_reception own None = own
after_reception own (Some datagram) = after_number own datagram.number datagram.frame

-- a side after its action, given the other side
abbrev pub after : Action → Side → Side → Side
after (SendNumbered frame) own other = after_send own frame
after SendUnnumbered own other =
    record own { datagrams = datagram_of own.history (sent_count own.history) None ∷ own.datagrams }
after (Retransmit place) own other = after_retransmission own place (slice_get (held own.history) place)
after (JudgeAcknowledgement which) own other = after_acknowledgement own (slice_get other.datagrams which)
after (JudgeNumber which) own other = after_reception own (slice_get other.datagrams which)

pub record Network : Type 0 where
  pub first : Side
  pub second : Side

pub data Event : Type 0 where
  AtFirst : (action : Action) → Event
  AtSecond : (action : Action) → Event

abbrev pub happens : Event → Network → Network
happens (AtFirst action) network =
    record { first = after action network.first network.second; second = network.second }
happens (AtSecond action) network =
    record { first = network.first; second = after action network.second network.first }

abbrev pub run : List Event → Network → Network
run [] network = network
run (event ∷ events) network = run events (happens event network)

-- Freshness: a datagram is at most 128 numbers behind the side that judges it.
abbrev pub IsFreshAcknowledgement : Side → Datagram → Type 0
IsFreshAcknowledgement own datagram = acked_count own.history ≤ datagram.acknowledgement + 128

abbrev pub IsFreshNumber : Side → Datagram → Type 0
IsFreshNumber own datagram = OnSome datagram.frame (taken_count own.history ≤ datagram.number + 128)

abbrev pub IsFreshAction : Action → Side → Side → Type 0
IsFreshAction (SendNumbered frame) own other = Unit {0}
IsFreshAction SendUnnumbered own other = Unit {0}
IsFreshAction (Retransmit place) own other = Unit {0}
IsFreshAction (JudgeAcknowledgement which) own other =
    IfSome (slice_get other.datagrams which) (IsFreshAcknowledgement own)
IsFreshAction (JudgeNumber which) own other =
    IfSome (slice_get other.datagrams which) (IsFreshNumber own)

abbrev pub IsFreshEvent : Event → Network → Type 0
IsFreshEvent (AtFirst action) network = IsFreshAction action network.first network.second
IsFreshEvent (AtSecond action) network = IsFreshAction action network.second network.first

abbrev pub IsFresh : List Event → Network → Type 0
IsFresh [] network = Unit {0}
IsFresh (event ∷ events) network = IsFreshEvent event network × IsFresh events (happens event network)

-- the sizes of a side's window and record
pub record Size : Type 0 where
  pub width : ℕ
  pub limit : ℕ

abbrev pub empty_side : Size → Side
empty_side size = record { width = size.width; limit = size.limit; history = []; datagrams = [] }

-- two sides that have done nothing
abbrev pub start : Size → Size → Network
start first second = record { first = empty_side first; second = empty_side second }

-- this holds in each network that fresh events lead to, if each window is at most 127 wide
abbrev pub InEveryFreshRun : (Network → Type 0) → Type 0
InEveryFreshRun Holds =
    (first second : Size) → first.width ≤ 127 → second.width ≤ 127
    → (events : List Event) → IsFresh events (start first second) → Holds (run events (start first second))

-- for each of the two sides as the sender, with the other as the receiver
abbrev pub EachWay : (Side → Side → Type 0) → Network → Type 0
EachWay Holds network = Holds network.first network.second × Holds network.second network.first

abbrev pub IsPrefixOf : List Frame → List Frame → Type 0
IsPrefixOf frames all = (rest : List Frame) × (frames ++ rest ≡ all)

-- the receiver's taken frames are the first of the sender's sent frames: each once, in order
abbrev pub TakesInOrder : Side → Side → Type 0
TakesInOrder sender receiver = IsPrefixOf (taken receiver.history) (sent sender.history)

-- each frame that counts as acknowledged was taken
abbrev pub AcksTaken : Side → Side → Type 0
AcksTaken sender receiver = acked_count sender.history ≤ taken_count receiver.history

abbrev pub HasLegalRecord : Side → Side → Type 0
HasLegalRecord own other = IsLegal own.width own.limit own.history

-- the octets of each datagram of the other side that is judged next are read as its numbers
pub record BytesSayNumbers (own other : Side) : Type 0 where
  pub acknowledgement : (which : ℕ) (datagram : Datagram)
      → slice_get other.datagrams which ≡ Some datagram → IsFreshAcknowledgement own datagram
      → judged_acknowledgement own.history (byte_of datagram.acknowledgement)
      ≡ acknowledgement_judged (acked_count own.history) (sent_count own.history) datagram.acknowledgement
  pub number : (which : ℕ) (datagram : Datagram) (frame : Frame)
      → slice_get other.datagrams which ≡ Some datagram → datagram.frame ≡ Some frame → IsFreshNumber own datagram
      → judged_number own.history (byte_of datagram.number)
      ≡ number_judged (taken_count own.history) (pos datagram.number)

-- a frame is sent and taken, and its acknowledgement comes back; each side judges the latest datagram
abbrev pub round_of : Frame → List Event
round_of frame =
    AtFirst (SendNumbered frame) ∷ AtSecond (JudgeNumber 0) ∷ AtSecond SendUnnumbered ∷ AtFirst (JudgeAcknowledgement 0) ∷ []

-- these frames all get through, one after the other, by fresh events
pub record GetThrough (frames : List Frame) (network : Network) : Type 0 where
  pub fresh : IsFresh (flat_map round_of frames) network
  pub all_taken : taken (run (flat_map round_of frames) network).second.history ≡ frames
  pub all_acked : acked_count (run (flat_map round_of frames) network).first.history ≡ length frames

-- a side after these actions, one after the other
abbrev pub after_all : List Action → Side → Side → Side
after_all [] own other = own
after_all (action ∷ actions) own other = after_all actions (after action own other) other

abbrev pub reply_actions : Option Frame → List Action
reply_actions None = []
reply_actions (Some frame) = SendNumbered frame ∷ []

-- the actions of one turn
abbrev pub actions_in_turn : ℕ → Turn → List Action
actions_in_turn which turn =
    (if turn.acknowledges then JudgeAcknowledgement which ∷ [] else [])
    ++ (if turn.receives then JudgeNumber which ∷ [] else [])
    ++ reply_actions turn.reply

-- the entries that a datagram of the other side adds in this turn
abbrev pub added_in_turn : Side → Datagram → Turn → List Entry
added_in_turn own datagram turn =
    entries_in_turn own.history (byte_of datagram.acknowledgement) (byte_of datagram.number) datagram.frame turn

-- the datagram of a numbered reply: its number is the next of the record before the turn, and it acknowledges the frames
-- taken after the turn
abbrev pub datagrams_of_reply : List Entry → List Entry → Option Frame → List Datagram
datagrams_of_reply before history None = []
datagrams_of_reply before history (Some frame) =
    record { number = sent_count before; acknowledgement = taken_count history; frame = Some frame } ∷ []
