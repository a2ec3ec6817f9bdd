-- The entries that a step of a leg adds to its record, and its frames, as those of one side of a network ("Message
-- Transport").
use Rattle.std.specs.Prelude.{◌≡◌, ◌⊎◌, ℕ, ◌+◌, ◌≤◌, Bool, true, false, Option, None, Some, List, [], ◌∷◌, ◌++◌, All, slice_get}
use Rattle.std.specs.Prelude.{if◌then◌else◌}
use Rattle.iax_frames.specs.FullFrame.{FullFrame, spelling, subclass_meaning}
use Rattle.iax_frames.specs.MiniFrame.{MiniFrame, SpellsMini}
use Rattle.iax_frames.specs.declared.stored_frame.Frame.{Frame}
use Rattle.seq_window.specs.Entry.{Entry, Sent}
use Rattle.seq_window.specs.History.{sent, sent_count, taken_count, acked_count, IsLegal}
use Rattle.seq_window.specs.Network.{Datagram}
use Rattle.seq_window.specs.Sequence.{byte_of}
use Rattle.seq_window.specs.Turn.{Turn, entries_in_turn, entries_for_reply}
use Rattle.seq_window.specs.Window.{held_count}
use Rattle.leg_machine.specs.Leg.{LegState}
use Rattle.call_signals.specs.Message.{message_by, message_of, is_numbered, is_inval}
use Rattle.call_signals.specs.declared.rules.PeerRules.{PeerRules}
use Rattle.leg_machine.specs.Working.{stored}

-- the frame to be judged, if it is numbered
abbrev pub numbered_frame : FullFrame → Option Frame
numbered_frame frame = if is_numbered (message_of frame.head) then Some (stored frame) else None

-- A full frame adds at most an acknowledgement, then at most a taken frame, then at most a sent one. That is one turn of a
-- side of a network, with the octets of this frame.
abbrev pub TakesTurn : LegState → FullFrame → LegState → Type 0
TakesTurn old frame new =
    (turn : Turn) × (new.window.history ≡ old.window.history
    ++ entries_in_turn old.window.history frame.head.iseqno frame.head.oseqno (numbered_frame frame) turn)

-- an order or a tick adds at most a sent frame
abbrev pub SendsAtMostOne : LegState → LegState → Type 0
SendsAtMostOne old new =
    (sent : Option Frame) × (new.window.history ≡ old.window.history ++ entries_for_reply sent)

-- The record of a leg that a NEW opened has the entries that a turn with the octets of the NEW adds to an empty one.
abbrev pub TakesFirstTurn : FullFrame → LegState → Type 0
TakesFirstTurn frame new =
    (turn : Turn) × (new.window.history ≡ entries_in_turn [] frame.head.iseqno frame.head.oseqno (Some (stored frame)) turn)

-- a leg that sends its NEW has at most a sent frame in its record
abbrev pub HasSentAtMostOne : LegState → Type 0
HasSentAtMostOne new = (sent : Option Frame) × (new.window.history ≡ entries_for_reply sent)

-- ---- sent frames

-- a frame is numbered, as its type and its octet of C and subclass say
abbrev pub IsNumberedFrame : Frame → Type 0
IsNumberedFrame frame = is_numbered (message_by frame.kind (subclass_meaning frame.subclass)) ≡ true

-- the sent frames of a leg's record are numbered
abbrev pub SendsNumbered : LegState → Type 0
SendsNumbered leg = All IsNumberedFrame (sent leg.window.history)

-- The last entry of the record is this frame, sent with this number, which was the next before it.
abbrev pub IsNewest : List Entry → Frame → ℕ → Type 0
IsNewest history frame number = (before : List Entry) × (history ≡ before ++ Sent frame ∷ []) × (number ≡ sent_count before)

-- The number under which a side with this record has sent. A new frame, the record's last entry, has the number that was
-- the next before it, so that it can't be acknowledged yet. A held frame that is retransmitted keeps its own. A frame that
-- isn't in the record has the next number. Again: R is set.
abbrev pub IsNumberOf : List Entry → Bool → Option Frame → ℕ → Type 0
IsNumberOf history false (Some frame) number = IsNewest history frame number
IsNumberOf history true (Some frame) number = (slice_get (sent history) number ≡ Some frame) × (acked_count history ≤ number)
IsNumberOf history again None number = (again ≡ false) × (number ≡ sent_count history)

-- A full frame that is sent is a sending of a side with this record: its octets are those of a datagram of the network.
pub record IsSendingOf (history : List Entry) (f : FullFrame) : Type 0 where
  pub datagram : Datagram
  -- each taken frame is acknowledged
  pub acknowledgement : datagram.acknowledgement ≡ taken_count history
  pub number : IsNumberOf history f.head.retransmitted datagram.frame datagram.number
  pub oseqno : f.head.oseqno ≡ byte_of datagram.number
  pub iseqno : f.head.iseqno ≡ byte_of datagram.acknowledgement
  -- it is numbered if and only if its type and its octet of C and subclass say so
  pub frame : numbered_frame f ≡ datagram.frame
  pub no_inval : is_inval (message_of f.head) ≡ false

-- a datagram that a leg sends is the spelling of such a full frame
abbrev pub IsSending : LegState → List ℕ → Type 0
IsSending leg octets = (f : FullFrame) × (octets ≡ spelling f) × IsSendingOf leg.window.history f

-- or a mini frame, which has no part in the numbers
abbrev pub IsSendingOrMini : LegState → List ℕ → Type 0
IsSendingOrMini leg octets = IsSending leg octets ⊎ ((mini : MiniFrame) × SpellsMini octets mini)

-- ---- after a step

-- A leg that has sent these datagrams in a step: each is a sending from its record, whose sent frames are numbered.
pub record HasSent (leg : LegState) (datagrams : List (List ℕ)) : Type 0 where
  pub numbered : SendsNumbered leg
  pub sendings : All (IsSending leg) datagrams

-- also for an order, which may send a mini frame
pub record HasSentOrMini (leg : LegState) (datagrams : List (List ℕ)) : Type 0 where
  pub numbered : SendsNumbered leg
  pub sendings : All (IsSendingOrMini leg) datagrams

-- ---- by a peer's rules

-- a leg of a peer with these rules
pub record IsLegOf (rules : PeerRules) (leg : LegState) : Type 0 where
  -- its window is as wide, and its record as long, as the rules say
  pub rules_are : leg.rules ≡ rules
  pub width : leg.window.width ≡ rules.window
  pub limit : leg.window.limit ≡ rules.record_limit
  -- its record is legal, and the sent frames there are numbered
  pub legal : IsLegal leg.window.width leg.window.limit leg.window.history
  pub numbered : SendsNumbered leg
  -- the held frames are those that the record has as sent and not acknowledged
  pub held : held_count leg.window + acked_count leg.window.history ≡ sent_count leg.window.history
