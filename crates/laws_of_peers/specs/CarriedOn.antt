-- The media that the steps of a peer carry on: from orders into the trunk queue or into a frame, and from the queue into trunk
-- frames, which wait in the outbox until they are taken out ("Mini Frames", "Meta Frames").
use Rattle.std.specs.Prelude.{ℕ, ◌≡◌, ◌≢◌, ◌⊎◌, ◌==◌, ◌+◌, Bool, true, false, List, [], ◌∷◌, ◌++◌, length, map}
use Rattle.std.specs.Prelude.{if◌then◌else◌}
use Rattle.std.specs.List.{AllByRecursion}
use Rattle.call_signals.specs.Codes.{FRAME_VOICE}
use Rattle.call_signals.specs.Order.{Order}
use Rattle.call_signals.specs.declared.order.Command.TheVariants as commands
use Rattle.iax_frames.specs.FullFrame.{FullFrame, spelling}
use Rattle.iax_frames.specs.MiniFrame.{mini_spelling}
use Rattle.outbox.specs.Outbox.{lose}
use Rattle.peer_lock.specs.Peer.{PeerView}
use Rattle.peer_lock.specs.Trunks.{waits}
use Rattle.trunk_packer.specs.Queue.{trunk_spelling}
pub use Rattle.trunk_packer.specs.Queue.{QueueEntry}

-- ---- what is put into the outbox

-- A datagram that is put into the outbox: a full frame without new media, a voice full frame with the media of an order, a mini
-- frame with the media of an order, or a trunk frame of these entries at a moment.
pub data Outgoing : Type 0 where
  Full : (frame : FullFrame) → Outgoing
  Voice : (frame : FullFrame) → Outgoing
  Mini : (entry : QueueEntry) → Outgoing
  Trunk : (moment : ℕ) → (entries : List QueueEntry) → Outgoing

-- its octets; timed: entries of trunk frames have timestamps
abbrev pub octets_of : Bool → Outgoing → List ℕ
octets_of timed (Full frame) = spelling frame
octets_of timed (Voice frame) = spelling frame
octets_of timed (Mini entry) =
    mini_spelling (record { source = entry.number; timestamp = entry.timestamp; media = entry.media })
octets_of timed (Trunk moment entries) = trunk_spelling timed moment entries

-- A full frame without new media is voice only if it goes out again, with R set. A trunk frame isn't empty.
abbrev pub IsOutgoing : Outgoing → Type 0
IsOutgoing (Full frame) = frame.head.frame_type ≡ FRAME_VOICE → frame.head.retransmitted ≡ true
IsOutgoing (Voice frame) = (frame.head.frame_type ≡ FRAME_VOICE) × (frame.head.retransmitted ≡ false)
IsOutgoing (Mini entry) = Unit {0}
IsOutgoing (Trunk moment entries) = entries ≢ []

-- the entries of the trunk queue that these bear, in order
abbrev pub entries_in : List Outgoing → List QueueEntry
entries_in [] = []
entries_in (Trunk moment entries ∷ others) = entries ++ entries_in others
entries_in (other ∷ others) = entries_in others

-- the ones among these that bear the media of an order
abbrev pub ordered_in : List Outgoing → List Outgoing
ordered_in [] = []
ordered_in (Voice frame ∷ others) = Voice frame ∷ ordered_in others
ordered_in (Mini entry ∷ others) = Mini entry ∷ ordered_in others
ordered_in (other ∷ others) = ordered_in others

-- ---- the media of one leg

-- media of the leg of a number
pub record Piece : Type 0 where
  pub number : ℕ
  pub media : List ℕ

-- the media of the leg of a number among these, in order
abbrev pub pieces_of : ℕ → List Piece → List (List ℕ)
pieces_of number [] = []
pieces_of number (piece ∷ others) = (if piece.number == number then piece.media ∷ [] else []) ++ pieces_of number others

-- .. in a trunk queue
abbrev pub queued_of : ℕ → List QueueEntry → List (List ℕ)
queued_of number [] = []
queued_of number (entry ∷ others) = (if entry.number == number then entry.media ∷ [] else []) ++ queued_of number others

-- .. in datagrams, but for full frames that go out again
abbrev pub sent_of : ℕ → List Outgoing → List (List ℕ)
sent_of number [] = []
sent_of number (Full frame ∷ others) = sent_of number others
sent_of number (Voice frame ∷ others) =
    (if frame.head.source == number then frame.payload ∷ [] else []) ++ sent_of number others
sent_of number (Mini entry ∷ others) = (if entry.number == number then entry.media ∷ [] else []) ++ sent_of number others
sent_of number (Trunk moment entries ∷ others) = queued_of number entries ++ sent_of number others

-- Queued media of a call is sent ahead of the call's frames, as in plan version 4. Or the peer has no trunk, and nothing is
-- queued.
abbrev pub GoesAhead : PeerView → Type 0
GoesAhead peer =
    ((waits peer.rules ≡ true) × (peer.rules.trunk ≡ true)) ⊎ ((peer.rules.trunk ≡ false) × (peer.queue ≡ []))

-- ---- what steps carry on

-- Each list is in the order of the steps.
pub record CarriedOn : Type 0 where
  -- the media that was queued, or sent at once
  pub kept : List Piece
  -- the entries taken into the trunk queue
  pub queued : List QueueEntry
  -- the datagrams put into the outbox
  pub put : List Outgoing
  -- those that a full outbox lost
  pub lost : List (List ℕ)
  -- those that were taken out of the outbox
  pub taken : List (List ℕ)
  -- the octets of media that were dropped
  pub dropped : ℕ

abbrev pub nothing : CarriedOn
nothing = record { kept = []; queued = []; put = []; lost = []; taken = []; dropped = 0 }

-- some steps, and then others
abbrev pub followed_by : CarriedOn → CarriedOn → CarriedOn
followed_by one other = record {
  kept = one.kept ++ other.kept;
  queued = one.queued ++ other.queued;
  put = one.put ++ other.put;
  lost = one.lost ++ other.lost;
  taken = one.taken ++ other.taken;
  dropped = one.dropped + other.dropped;
}

-- ---- first in, first out

-- these elements are taken out of a list one after another, and the others stay in their order
abbrev pub Without : List (List ℕ) → List (List ℕ) → List (List ℕ) → Type 0
Without all [] others = others ≡ all
Without all (one ∷ more) others =
    (before : List (List ℕ)) × (after : List (List ℕ)) × (all ≡ before ++ one ∷ after) × Without (before ++ after) more others

-- The steps by which a peer gets from one state to another carry this on.
pub record KeepsOrder (carried : CarriedOn) (old new : PeerView) : Type 0 where
  pub rules : new.rules ≡ old.rules
  -- of the trunk queue: the entries that waited and those that were taken in have gone out in trunk frames, or wait
  pub queue : old.queue ++ carried.queued ≡ entries_in carried.put ++ new.queue
  -- of the outbox: the datagrams that waited and those that were put, without the lost ones, were taken out, or wait
  pub outbox : Without (old.outbox.waiting ++ map (octets_of old.rules.trunk_timestamps) carried.put) carried.lost
      (carried.taken ++ new.outbox.waiting)
  -- lost datagrams and dropped media are counted
  pub lost : new.outbox.lost ≡ lose old.outbox.lost carried.lost
  pub dropped : new.accounts.dropped ≡ old.accounts.dropped + carried.dropped
  pub outgoing : AllByRecursion IsOutgoing carried.put
  -- of the media of one leg: the pieces that waited, and those that were kept, have gone out, or wait
  pub in_turn : GoesAhead old → (number : ℕ) →
      queued_of number old.queue ++ pieces_of number carried.kept ≡ sent_of number carried.put ++ queued_of number new.queue
  pub ahead : GoesAhead old → GoesAhead new

-- ---- the media of an order

-- Without an order of media nothing is queued, put with new media, or dropped.
pub record CarriesNoMedia (carried : CarriedOn) : Type 0 where
  pub kept : carried.kept ≡ []
  pub queued : carried.queued ≡ []
  pub put : ordered_in carried.put ≡ []
  pub dropped : carried.dropped ≡ 0

-- What becomes of the media of an order: it is queued, sent in a mini frame or in a voice full frame, or dropped.
pub data Way : Type 0 where
  Queues : (entry : QueueEntry) → Way
  SendsMini : (entry : QueueEntry) → Way
  SendsVoice : (frame : FullFrame) → Way
  Drops : Way

abbrev pub kept_by : Way → ℕ → List ℕ → List Piece
kept_by Drops number media = []
kept_by way number media = record { number = number; media = media } ∷ []

abbrev pub queued_by : Way → List QueueEntry
queued_by (Queues entry) = entry ∷ []
queued_by way = []

abbrev pub put_by : Way → List Outgoing
put_by (SendsMini entry) = Mini entry ∷ []
put_by (SendsVoice frame) = Voice frame ∷ []
put_by way = []

abbrev pub dropped_by : Way → ℕ → ℕ
dropped_by Drops octets = octets
dropped_by way octets = 0

-- the octets go that way whole, under the number of the leg
abbrev pub IsWayOf : ℕ → List ℕ → Way → Type 0
IsWayOf number media (Queues entry) = (entry.number ≡ number) × (entry.media ≡ media)
IsWayOf number media (SendsMini entry) = (entry.number ≡ number) × (entry.media ≡ media)
IsWayOf number media (SendsVoice frame) = (frame.head.source ≡ number) × (frame.payload ≡ media)
IsWayOf number media Drops = Unit {0}

-- the media of one order at the leg of a number goes one way, and no other media goes any
pub record CarriesMedia (number : ℕ) (media : List ℕ) (carried : CarriedOn) : Type 0 where
  pub way : Way
  pub whole : IsWayOf number media way
  pub kept : carried.kept ≡ kept_by way number media
  pub queued : carried.queued ≡ queued_by way
  pub put : ordered_in carried.put ≡ put_by way
  pub dropped : carried.dropped ≡ dropped_by way (length media)

-- ---- one step

-- a step that takes nothing out of the outbox, and isn't an order of media
pub record CarriesOn (old new : PeerView) : Type 0 where
  pub carried : CarriedOn
  pub order : KeepsOrder carried old new
  pub none_taken : carried.taken ≡ []
  pub no_media : CarriesNoMedia carried

-- an order of this media at the leg of this number
pub record CarriesOrder (number : ℕ) (media : List ℕ) (old new : PeerView) : Type 0 where
  pub carried : CarriedOn
  pub order : KeepsOrder carried old new
  pub none_taken : carried.taken ≡ []
  pub goes : CarriesMedia number media carried

-- a leg of this number obeyed an order
abbrev pub CarriesByOrder : Order → ℕ → PeerView → PeerView → Type 0
CarriesByOrder (commands.Media media) number old new = CarriesOrder number media.now old new
CarriesByOrder order number old new = CarriesOn old new
