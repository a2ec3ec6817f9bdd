-- The effect of one step of a call on the stored exchange, and its answer. It is one locked section, in which one peer
-- makes a step, the book does, or nothing changes. The effect on a peer is stated as in the clauses of `PeerState`, that on
-- the book as in those of `CallBook`.
use Rattle.std.specs.Prelude.{◌≡◌, ◌⊎◌, ◌↔◌, ℕ, true, false, List, ◌∷◌, Option, None, Some, Ok, Err, option_map}
use Rattle.std.specs.Prelude.{slice_get, slice_set, All, IsTrue}
use Rattle.call_book.specs.Book.{Book, after_bridge, after_release, after_reserve, bridge_answer, has_name, partner_of}
use Rattle.call_book.specs.Book.{release_answer, reserve_answer}
use Rattle.call_book.specs.declared.leg_name.LegName.{LegName}
use Rattle.call_signals.specs.declared.format.Format.{Format}
use Rattle.call_signals.specs.Order.{Order}
use Rattle.call_control.specs.Scene.{dropped}
use Rattle.call_signals.specs.declared.order.Command.{Command}
use Rattle.call_signals.specs.declared.signal.MediaSpan.{MediaSpan}
use Rattle.call_control.specs.declared.need.Need.{Need}
use Rattle.call_control.specs.declared.need.Need.TheVariants as needs
use Rattle.call_control.specs.declared.need.Route.{Route}
use Rattle.call_control.specs.declared.reply.StepReply.{StepReply}
use Rattle.call_control.specs.declared.reply.Reply.{Reply}
use Rattle.call_control.specs.declared.reply.Reply.TheVariants as replies
use Rattle.iax_frames.specs.FullFrame.{FullFrame}
use Rattle.iax_frames.specs.declared.datagram.Datagram.{Datagram}
use Rattle.leg_machine.specs.OrderTable.{wants_memory}
use Rattle.leg_machine.specs.Seen.{kind_of}
use Rattle.peer_lock.specs.Arrivals.{datagram_step}
use Rattle.peer_lock.specs.Legs.{NamedLeg, leg_at, leg_named}
use Rattle.peer_lock.specs.Openings.{open_in_refused, open_out_refused, opens_in, opens_out, reject_new_refused, rejects_new}
use Rattle.peer_lock.specs.Orders.{order_refused_by, ordered_step, IsOrderRefusal}
use Rattle.peer_lock.specs.Peer.{PeerView, PeerStep, without_leg}
use Rattle.peer_lock.specs.SoundPeer.{IsSoundPeer}
use Rattle.peer_lock.specs.Statuses.{is_done, is_quiet, status_of}
use Rattle.peer_lock.specs.Ticks.{Ticks}
use Rattle.peer_lock.specs.declared.errors.OrderError.{OrderError}
use Rattle.peer_lock.specs.declared.errors.OrderError.TheVariants as order_errors
use Rattle.peer_lock.specs.declared.steps.Status.{Status}
use Rattle.peer_lock.specs.declared.steps.TickReport.{TickReport}
use Rattle.laws_of_calls.specs.Stored.{Stored}

-- ---- the effect on one peer, and its answer

-- the leg, the rejection and the signals of a step, in a list with this room
abbrev pub heard_of : PeerStep → ℕ → StepReply
heard_of step room = record {
  touched = step.step.touched;
  rejected = step.step.rejected;
  onwards = record { signals = step.signals; offer = step.offer; room = room };
}

-- a datagram comes and is handled; first: the octet credit with which every peer begins
pub record TakesDatagram (old new : PeerView) (reply : Reply) : Type 0 where
  pub first : ℕ
  pub datagram : Datagram
  pub now : ℕ
  pub room : ℕ
  pub becomes : new ≡ (datagram_step first old datagram now).peer
  pub answers : reply ≡ replies.Datagram (Ok (heard_of (datagram_step first old datagram now) room))

-- a NEW opens a leg under this name; credit: the step credit with which every peer begins
pub record TakesNew (name : LegName) (old new : PeerView) (reply : Reply) : Type 0 where
  pub credit : ℕ
  pub frame : FullFrame
  pub now : ℕ
  pub challenge : List ℕ
  pub room : ℕ
  pub unrefused : open_in_refused old credit name frame.head.source ≡ None
  pub becomes : new ≡ (opens_in old name frame now challenge).peer
  pub answers : reply ≡ replies.OpenIn (Ok (heard_of (opens_in old name frame now challenge) room))

-- a NEW is rejected
pub record RejectsNew (old new : PeerView) (reply : Reply) : Type 0 where
  pub credit : ℕ
  pub frame : FullFrame
  pub unrefused : reject_new_refused old credit frame.head.source ≡ None
  pub becomes : new ≡ (rejects_new old frame).peer
  pub answers : reply ≡ replies.RejectNew (Ok tt)

-- a call is placed under this name
pub record SendsNew (name : LegName) (old new : PeerView) (reply : Reply) : Type 0 where
  pub credit : ℕ
  pub called : List ℕ
  pub caller : List ℕ
  pub format : Format
  pub now : ℕ
  pub unrefused : open_out_refused old credit name ≡ None
  pub becomes : new ≡ (opens_out old name called caller format now).peer
  pub answers : reply ≡ replies.OpenOut (Ok tt)

-- the leg of a name obeys an order
pub record Obeys (name : LegName) (command : Command MediaSpan) (old new : PeerView) (reply : Reply) : Type 0 where
  pub credit : ℕ
  pub order : Order
  pub now : ℕ
  pub kind : kind_of order ≡ kind_of command
  pub unrefused : order_refused_by old credit name order now ≡ None
  pub becomes : new ≡ ordered_step old name order now
  pub answers : reply ≡ replies.Order (Ok tt)

-- .. or it is refused: for the cause that is due, and for want of memory only if the leg needs some
pub record Disobeys (name : LegName) (command : Command MediaSpan) (old new : PeerView) (reply : Reply) : Type 0 where
  pub credit : ℕ
  pub order : Order
  pub now : ℕ
  pub error : OrderError
  pub kind : kind_of order ≡ kind_of command
  pub refused : IsOrderRefusal (order_refused_by old credit name order now) error
  pub memory : error ≡ order_errors.Memory → (named : NamedLeg) → leg_named old.legs name ≡ Some named
      → wants_memory named.leg order now ≡ true
  pub becomes : new ≡ old
  pub answers : reply ≡ replies.Order (Err error)

abbrev pub TakesOrder : LegName → Command MediaSpan → PeerView → PeerView → Reply → Type 0
TakesOrder name command old new reply = Obeys name command old new reply ⊎ Disobeys name command old new reply

-- a tick; the answer says whether no leg has ended and none owes then
pub record TakesTick (old new : PeerView) (reply : Reply) : Type 0 where
  pub now : ℕ
  pub report : TickReport
  pub ticks : Ticks old now report new
  pub quiet : IsTrue report.is_quiet ↔ All (λ place. is_quiet place ≡ true) new.legs.places
  pub answers : reply ≡ replies.Tick (Ok report.is_quiet)

-- the leg of a name, which has ended and owes nothing, is taken out
pub record GivesUp (name : LegName) (old new : PeerView) (reply : Reply) : Type 0 where
  pub done : is_done (leg_named old.legs name) ≡ true
  pub becomes : new ≡ without_leg old name
  pub answers : reply ≡ replies.Retire true

-- ---- the effect on the exchange

-- the peer of a place makes this step and is sound again; all others stay as they are, and so does the book
pub record AtPeer (place : ℕ) (Does : PeerView → PeerView → Reply → Type 0) (old new : Stored) (reply : Reply) : Type 0 where
  pub before : PeerView
  pub at : slice_get old.peers place ≡ Some before
  pub after : PeerView
  pub does : Does before after reply
  pub sound : IsSoundPeer after
  pub peers : new.peers ≡ slice_set old.peers place after
  pub book : new.book ≡ old.book

-- the book changes so, with this answer; all peers stay as they are
pub record AtBook (book : Book) (answer : Reply) (old new : Stored) (reply : Reply) : Type 0 where
  pub becomes : new.book ≡ book
  pub peers : new.peers ≡ old.peers
  pub answers : reply ≡ answer

-- this is the answer, and nothing is changed
abbrev pub Answers : Reply → Stored → Stored → Reply → Type 0
Answers answer old new reply = AtBook old.book answer old new reply

-- it is refused for some cause, and nothing is changed
pub record IsRefused {E : Type 0} (answer : E → Reply) (old new : Stored) (reply : Reply) : Type 0 where
  pub error : E
  pub unchanged : Answers (answer error) old new reply

-- the book gives a name out, makes two names partners, or takes a name back
abbrev pub Reserves : Book → ℕ → Stored → Stored → Reply → Type 0
Reserves book peer = AtBook (after_reserve book peer) (replies.Reserve (reserve_answer book peer))

abbrev pub Bridges : Book → LegName → LegName → Stored → Stored → Reply → Type 0
Bridges book a b = AtBook (after_bridge book a b (bridge_answer book a b)) (replies.Bridge (bridge_answer book a b))

abbrev pub Releases : Book → LegName → Stored → Stored → Reply → Type 0
Releases book name =
    AtBook (after_release book name (has_name book name)) (replies.Release (release_answer book name (has_name book name)))

-- the status of the leg of a peer's number; none if there is no such peer in the plan
abbrev pub look_at : Option PeerView → ℕ → Option Status
look_at None number = None
look_at (Some peer) number = option_map status_of (leg_at peer.legs number)

-- an order to a leg whose peer isn't one of the plan's
pub record IsNobodys (place : ℕ) (old new : Stored) (reply : Reply) : Type 0 where
  pub nobody : slice_get old.peers place ≡ None
  pub unchanged : Answers (replies.Order (Err order_errors.Gone)) old new reply

-- The needed step is made, with this answer. A leg that could be taken out is kept if there is no memory for its place in
-- the call's answer. Routes are looked up in the plan alone.
abbrev pub Makes : Need → Stored → Stored → Reply → Type 0
Makes (needs.Datagram place) old new reply =
    AtPeer place TakesDatagram old new reply ⊎ IsRefused (λ error. replies.Datagram (Err error)) old new reply
Makes (needs.RejectNew place) old new reply =
    AtPeer place RejectsNew old new reply ⊎ IsRefused (λ error. replies.RejectNew (Err error)) old new reply
Makes (needs.OpenIn name) old new reply =
    AtPeer name.peer (TakesNew name) old new reply ⊎ IsRefused (λ error. replies.OpenIn (Err error)) old new reply
Makes (needs.OpenOut name) old new reply =
    AtPeer name.peer (SendsNew name) old new reply ⊎ IsRefused (λ error. replies.OpenOut (Err error)) old new reply
Makes (needs.Order name command) old new reply =
    AtPeer name.peer (TakesOrder name command) old new reply ⊎ IsNobodys name.peer old new reply
Makes (needs.Tick place) old new reply =
    AtPeer place TakesTick old new reply ⊎ IsRefused (λ spent. replies.Tick (Err spent)) old new reply
Makes (needs.Look place number) old new reply = Answers (replies.Look (look_at (slice_get old.peers place) number)) old new reply
Makes (needs.Retire name) old new reply =
    AtPeer name.peer (GivesUp name) old new reply ⊎ Answers (replies.Retire false) old new reply
Makes (needs.Reserve peer) old new reply = Reserves old.book peer old new reply
Makes (needs.Bridge a b) old new reply = Bridges old.book a b old new reply
Makes (needs.Partner name) old new reply = Answers (replies.Partner (partner_of old.book name)) old new reply
Makes (needs.Release name) old new reply = Releases old.book name old new reply
Makes (needs.Route name) old new reply = (route : Route) × Answers (replies.Route route) old new reply

-- ---- the leases of a caller

-- one comes from the book, or with a leg that is taken out; it is used up by a leg that is opened, or returned
abbrev pub leases_after : Need → Reply → List LegName → List LegName
leases_after (needs.Reserve peer) (replies.Reserve (Ok name)) leases = name ∷ leases
leases_after (needs.Retire name) (replies.Retire true) leases = name ∷ leases
leases_after (needs.OpenIn name) (replies.OpenIn (Ok heard)) leases = dropped leases name
leases_after (needs.OpenOut name) (replies.OpenOut (Ok done)) leases = dropped leases name
leases_after (needs.Release name) reply leases = dropped leases name
leases_after need reply leases = leases
