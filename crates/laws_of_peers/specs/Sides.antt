-- The records and the frames of a peer's legs after a step, as those of sides of networks ("Message Transport").
use Rattle.std.specs.Prelude.{◌≡◌, ◌⊎◌, ℕ, false, List, [], ◌∷◌, ◌++◌, All, Option, None, Some, slice_get}
use Rattle.call_auth.specs.declared.call_token.CallTokens.{CallTokens}
use Rattle.call_book.specs.declared.leg_name.LegName.{LegName}
use Rattle.iax_frames.specs.FullFrame.{FullFrame, spelling}
use Rattle.iax_frames.specs.MiniFrame.{MiniFrame, SpellsMini}
use Rattle.call_signals.specs.Message.{message_of, is_inval}
use Rattle.call_signals.specs.declared.rules.PeerRules.{PeerRules}
use Rattle.iax_frames.specs.declared.datagram.Datagram.{Datagram}
use Rattle.iax_frames.specs.declared.stored_frame.Frame.{Frame}
use Rattle.iax_frames.specs.declared.datagram.Datagram.TheVariants.{Full, Mini, Video, Trunk}
use Rattle.leg_machine.specs.Leg.{LegState}
use Rattle.leg_machine.specs.Tie.{numbered_frame, TakesTurn, SendsAtMostOne, TakesFirstTurn, HasSentAtMostOne}
use Rattle.leg_machine.specs.Tie.{IsSendingOf, IsSending, IsSendingOrMini}
use Rattle.peer_legs.specs.Legs.{PeerLegs, NamedLeg, leg_at, with_leg, with_place}
use Rattle.peer_lock.specs.Delivery.{answer_octets, inval_for, pong_for, regrej_for, reject_for, token_for}
use Rattle.outbox.specs.Outbox.{put, extended}
use Rattle.peer_lock.specs.Peer.{PeerView}
use Rattle.peer_lock.specs.Pokes.{poke_octets}
use Rattle.peer_lock.specs.declared.steps.Rejection.{Rejection}
use Rattle.peer_lock.specs.declared.steps.Rejection.TheVariants.{NoNumber}
use Rattle.peer_lock.specs.Delivery.{UnknownAnswer}
use Rattle.trunk_packer.specs.Queue.{trunk_spelling}
use Rattle.seq_window.specs.Network.{Action, SendNumbered, SendUnnumbered, Retransmit, JudgeAcknowledgement, JudgeNumber}
use Rattle.seq_window.specs.Network.{Datagram as Sending, Side, actions_in_turn, after_all, empty_side, reply_actions}
use Rattle.seq_window.specs.Turn.{Turn}
use Rattle.seq_window.specs.Sequence.{byte_of}

-- the trunk frame of all that was queued, or nothing
abbrev pub IsQueued : PeerView → List (List ℕ) → Type 0
IsQueued old ahead =
    (ahead ≡ []) ⊎ (ahead ≡ trunk_spelling old.rules.trunk_timestamps old.since old.queue ∷ [])

-- One leg steps, and sends these datagrams behind media that was queued. The first of them go into the outbox, as far as it
-- has room. The other legs stay.
pub record OneSteps (old new : PeerView) (named : NamedLeg) (leg : LegState) (datagrams : List (List ℕ)) : Type 0 where
  pub at : leg_at old.legs named.name.number ≡ Some named
  pub legs : new.legs ≡ with_leg old.legs named.name leg
  pub ahead : List (List ℕ)
  pub queued : IsQueued old ahead
  pub outbox : new.outbox ≡ put old.outbox (ahead ++ datagrams)

-- ---- datagrams

-- A full frame comes to a leg. Its record grows by one turn of a side, and each frame that it sends is a sending from that
-- record.
pub record TakesTurnAtLeg (old : PeerView) (frame : FullFrame) (new : PeerView) : Type 0 where
  pub named : NamedLeg
  pub leg : LegState
  pub datagrams : List (List ℕ)
  pub steps : OneSteps old new named leg datagrams
  pub tied : TakesTurn named.leg frame leg
  pub sendings : All (IsSending leg) datagrams

-- the outbox has one frame more, this answer
abbrev pub SendsAnswer : PeerView → UnknownAnswer → PeerView → Type 0
SendsAnswer old answer new = new.outbox ≡ put old.outbox (answer_octets answer ∷ [])

-- A full frame comes to no leg: none changes. At most one answer is sent: an INVAL, the PONG for a POKE, the REGREJ for a
-- registration, or the REJECT or the CALLTOKEN for a NEW.
pub record ComesToNone (old : PeerView) (frame : FullFrame) (new : PeerView) : Type 0 where
  pub legs : new.legs ≡ old.legs
  pub outbox : (new.outbox ≡ old.outbox) ⊎ SendsAnswer old (inval_for frame.head) new ⊎ SendsAnswer old (pong_for frame.head) new
      ⊎ SendsAnswer old (regrej_for frame.head) new ⊎ ((why : Rejection) × SendsAnswer old (reject_for why frame.head) new)
      ⊎ ((tokens : CallTokens) × (now : ℕ) × SendsAnswer old (token_for tokens frame.head now) new)

-- a NEW finds no number: no leg changes, and a REJECT is sent
pub record RejectsNew (old : PeerView) (frame : FullFrame) (new : PeerView) : Type 0 where
  pub legs : new.legs ≡ old.legs
  pub outbox : SendsAnswer old (reject_for NoNumber frame.head) new

-- no leg changes, and nothing is sent
pub record SendsNothing (old new : PeerView) : Type 0 where
  pub legs : new.legs ≡ old.legs
  pub outbox : new.outbox ≡ old.outbox

abbrev pub TakesDatagram : PeerView → Datagram → PeerView → Type 0
TakesDatagram old (Full frame) new = TakesTurnAtLeg old frame new ⊎ ComesToNone old frame new
TakesDatagram old (Mini mini) new = SendsNothing old new
TakesDatagram old (Video video) new = SendsNothing old new
TakesDatagram old (Trunk trunk) new = SendsNothing old new

-- ---- orders and openings

-- The leg of a name obeys an order. Its record grows by at most a sent frame, and each frame that it sends is a sending
-- from that record, or a mini frame.
pub record SendsAtLeg (old : PeerView) (name : LegName) (new : PeerView) : Type 0 where
  pub named : NamedLeg
  pub is : named.name ≡ name
  pub leg : LegState
  pub datagrams : List (List ℕ)
  pub steps : OneSteps old new named leg datagrams
  pub tied : SendsAtMostOne named.leg leg
  pub sendings : All (IsSendingOrMini leg) datagrams

-- a leg is opened under a free name, and is then found there: each frame that it sends is a sending from its record
pub record OpensLeg (old : PeerView) (name : LegName) (leg : LegState) (new : PeerView) : Type 0 where
  pub free : leg_at old.legs name.number ≡ None
  pub legs : new.legs ≡ with_place old.legs name.number (Some (record { name = name; leg = leg }))
  pub there : leg_at new.legs name.number ≡ Some (record { name = name; leg = leg })
  pub datagrams : List (List ℕ)
  pub outbox : new.outbox ≡ put old.outbox datagrams
  pub sendings : All (IsSending leg) datagrams

-- by a received NEW: its record begins with one turn of a side
pub record TakesNew (old : PeerView) (name : LegName) (frame : FullFrame) (new : PeerView) : Type 0 where
  pub leg : LegState
  pub opens : OpensLeg old name leg new
  pub tied : TakesFirstTurn frame leg

-- by a NEW that is sent: its record begins with at most a sent frame
pub record SendsNew (old : PeerView) (name : LegName) (new : PeerView) : Type 0 where
  pub leg : LegState
  pub opens : OpensLeg old name leg new
  pub tied : HasSentAtMostOne leg

-- ---- ticks

-- at a number the leg's record grows by at most a sent frame
abbrev pub SendsAt : Option NamedLeg → Option NamedLeg → Type 0
SendsAt None new = new ≡ None
SendsAt (Some named) new = (leg : LegState) × SendsAtMostOne named.leg leg ×
    (new ≡ Some (record { name = named.name; leg = leg }))

-- a datagram is a sending from the record of one of the legs
pub record IsSendingOfOne (legs : PeerLegs) (datagram : List ℕ) : Type 0 where
  pub number : ℕ
  pub named : NamedLeg
  pub at : leg_at legs number ≡ Some named
  pub sending : IsSending named.leg datagram

-- these datagrams are at most one POKE, which belongs to no call
abbrev pub IsAtMostPoke : List (List ℕ) → Type 0
IsAtMostPoke datagrams = (datagrams ≡ []) ⊎ ((timestamp : ℕ) × (datagrams ≡ poke_octets timestamp ∷ []))

-- A POKE may come first. Each leg ticks separately, and each frame that the legs send is a sending from the record of one of
-- them, behind media that was queued. Then come trunk frames.
pub record EachSends (old new : PeerView) : Type 0 where
  pub each : (number : ℕ) → SendsAt (leg_at old.legs number) (leg_at new.legs number)
  pub pokes : List (List ℕ)
  pub poke : IsAtMostPoke pokes
  pub ahead : List (List ℕ)
  pub queued : IsQueued old ahead
  pub datagrams : List (List ℕ)
  pub sendings : All (IsSendingOfOne new.legs) datagrams
  pub trunks : List (List ℕ)
  pub outbox : new.outbox ≡ extended (put (put old.outbox pokes) (ahead ++ datagrams)) trunks

-- ---- the network

-- a side of a network with the record of a leg, and with the sizes that the peer's rules give its window
pub record IsSideOf (rules : PeerRules) (leg : LegState) (own : Side) : Type 0 where
  pub width : own.width ≡ rules.window
  pub limit : own.limit ≡ rules.record_limit
  pub history : own.history ≡ leg.window.history

-- a full frame has the numbers of a datagram of the network, each in an octet, and its frame if that is numbered
pub record Bears (frame : FullFrame) (datagram : Sending) : Type 0 where
  pub oseqno : frame.head.oseqno ≡ byte_of datagram.number
  pub iseqno : frame.head.iseqno ≡ byte_of datagram.acknowledgement
  pub frame_is : numbered_frame frame ≡ datagram.frame

-- a side has sent this datagram
abbrev pub HasDatagram : Side → Sending → Type 0
HasDatagram own datagram = (which : ℕ) × (slice_get own.datagrams which ≡ Some datagram)

-- A side has sent these octets: they spell a full frame with one of its datagrams, and it is no INVAL.
pub record IsSentBy (own : Side) (octets : List ℕ) : Type 0 where
  pub frame : FullFrame
  pub spelt : octets ≡ spelling frame
  pub datagram : Sending
  pub sent : HasDatagram own datagram
  pub bears : Bears frame datagram
  pub no_inval : is_inval (message_of frame.head) ≡ false

-- or they are a mini frame, which has no part in the numbers
abbrev pub IsSentByOrMini : Side → List ℕ → Type 0
IsSentByOrMini own octets = IsSentBy own octets ⊎ ((mini : MiniFrame) × SpellsMini octets mini)

-- a leg sends this datagram from its record, as a full frame that is a sending from it
abbrev pub IsSentFrom : LegState → Sending → Type 0
IsSentFrom leg datagram = (frame : FullFrame) × (sending : IsSendingOf leg.window.history frame) × (sending.datagram ≡ datagram)

-- an action that retransmits a held frame, or sends one that isn't numbered: the record stays
abbrev pub SendsNothingNew : Action → Type 0
SendsNothingNew SendUnnumbered = Unit {0}
SendsNothingNew (Retransmit place) = Unit {0}
SendsNothingNew (SendNumbered frame) = ⊥
SendsNothingNew (JudgeAcknowledgement which) = ⊥
SendsNothingNew (JudgeNumber which) = ⊥

-- By such actions a side, which keeps the record of a leg, comes to have sent all of these.
pub record SendsAll (X : Type 0) (IsSent : Side → X → Type 0) (rules : PeerRules) (leg : LegState) (own other : Side)
    (items : List X) : Type 0 where
  pub actions : List Action
  pub nothing_new : All SendsNothingNew actions
  pub stays : IsSideOf rules leg (after_all actions own other)
  pub sent : All (IsSent (after_all actions own other)) items

-- By these actions a side comes to the record that a leg has, and then sends these datagrams.
pub record ActsInto (IsSent : Side → List ℕ → Type 0) (rules : PeerRules) (own other : Side) (actions : List Action)
    (leg : LegState) (datagrams : List (List ℕ)) : Type 0 where
  pub grows : IsSideOf rules leg (after_all actions own other)
  pub sends : SendsAll (List ℕ) IsSent rules leg (after_all actions own other) other datagrams

-- by the actions of one turn, which judge this datagram of the other side alone
abbrev pub TurnsInto : PeerRules → Side → Side → ℕ → LegState → List (List ℕ) → Type 0
TurnsInto rules own other which leg datagrams =
    (turn : Turn) × ActsInto IsSentBy rules own other (actions_in_turn which turn) leg datagrams

-- by sending at most one new frame
abbrev pub SendsInto : (Side → List ℕ → Type 0) → PeerRules → Side → Side → LegState → List (List ℕ) → Type 0
SendsInto IsSent rules own other leg datagrams =
    (sent : Option Frame) × ActsInto IsSent rules own other (reply_actions sent) leg datagrams

-- a side that has done nothing, with the sizes that the peer's rules give
abbrev pub unused_side : PeerRules → Side
unused_side rules = empty_side (record { width = rules.window; limit = rules.record_limit })
