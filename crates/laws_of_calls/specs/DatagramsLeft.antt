-- The number of datagrams that a call still puts into outboxes and trunk queues ("Call Setup", "Control Frames", "Mini
-- Frames").
use Rattle.std.specs.Prelude.{ℕ, ◌+◌, ◌≤◌, Bool, true, false, List, [], ◌∷◌, length, Option, None, Some, Ok, Err}
use Rattle.call_book.specs.declared.leg_name.LegName.{LegName}
use Rattle.call_signals.specs.declared.signal.Signal.{Signal}
use Rattle.call_signals.specs.declared.signal.Signal.TheVariants as signals
use Rattle.laws_of_peers.specs.Loads.{order_load}
use Rattle.peer_lock.specs.Peer.{PeerStep}
use Rattle.peer_lock.specs.declared.errors.PeerError.TheVariants.{NeedsNumber}
use Rattle.call_signals.specs.Order.{kind_of}
use Rattle.call_control.specs.Work.{Rest, Work}
use Rattle.call_signals.specs.declared.order.Command.{Command}
use Rattle.call_signals.specs.declared.signal.MediaSpan.{MediaSpan}
use Rattle.call_control.specs.declared.need.Need.{Need}
use Rattle.call_control.specs.declared.need.Need.TheVariants as needs
use Rattle.call_control.specs.declared.place.Place.{Place}
use Rattle.call_control.specs.declared.place.Place.TheVariants as places
use Rattle.call_control.specs.declared.reply.StepReply.{StepReply}
use Rattle.call_control.specs.declared.reply.Reply.{Reply}
use Rattle.call_control.specs.declared.reply.Reply.TheVariants as replies

-- an order puts one, except Doom and Paid
abbrev pub command_puts : Command MediaSpan → ℕ
command_puts command = (order_load (kind_of command) 0).datagrams

-- The number that the next step puts. A peer's answer to a datagram, and its frames at a tick, aren't counted here.
abbrev pub need_puts : Option Need → ℕ
need_puts (Some (needs.OpenIn name)) = 1
need_puts (Some (needs.RejectNew peer)) = 1
need_puts (Some (needs.OpenOut name)) = 1
need_puts (Some (needs.Order name command)) = command_puts command
need_puts need = 0

-- ---- the remaining number

-- The number that a signal leads to: an offered call is accepted and placed, or rejected; other signals are passed on.
abbrev pub signal_puts : Signal → ℕ
signal_puts signals.Offered = 2
signal_puts signals.Hangup = 0
signal_puts signal = 1

abbrev pub signals_put : List (LegName × Signal) → ℕ
signals_put [] = 0
signals_put (up ∷ onward) = signal_puts up.1 + signals_put onward

-- a leg that is finished may have its partner hung up
abbrev pub touched_puts : Option LegName → ℕ
touched_puts None = 0
touched_puts (Some name) = 1

-- the number from a place on, without the rest
abbrev pub place_puts : Place → ℕ
place_puts (places.ReserveIn peer) = 4
place_puts (places.RejectNew peer) = 1
place_puts (places.OpenIn name) = 4
place_puts (places.Routing offered) = 2
place_puts (places.Rejecting offered cause) = 1
place_puts (places.ReserveOut offered peer format) = 2
place_puts (places.Bridging offered target format) = 2
place_puts (places.Accepting offered target format) = 2
place_puts (places.OpenOut offered target) = 1
place_puts (places.Finding name command) = command_puts command
place_puts (places.Passing partner command) = command_puts command
place_puts (places.Looking name) = 1
place_puts (places.LookingAt peer number) = 1
place_puts (places.FindingPartner name cause) = 1
place_puts (places.HangingUp name partner cause) = 1
place_puts (places.HangUp name) = 1
place_puts (places.ReserveCall peer) = 1
place_puts (places.OpenCall name) = 1
place_puts place = 0

abbrev pub rest_puts : Rest → ℕ
rest_puts rest = signals_put rest.onward + touched_puts rest.touched + length rest.looks

abbrev pub datagrams_left : Work → ℕ
datagrams_left work = place_puts work.place + rest_puts work.rest

-- ---- the number that an answer brings

abbrev pub heard_puts : StepReply → ℕ
heard_puts heard = signals_put heard.onwards.signals + touched_puts heard.touched

-- the same for a step of a peer
abbrev pub step_puts : PeerStep → ℕ
step_puts step = signals_put step.signals + touched_puts step.step.touched

-- of a datagram: by its signals, or by a leg that is to be opened for it
abbrev pub brought_by : Reply → ℕ
brought_by (replies.Datagram (Ok heard)) = heard_puts heard
brought_by (replies.Datagram (Err NeedsNumber)) = 4
brought_by reply = 0

-- an opened leg offers at most one call, and is finished
abbrev pub OpensFew : Reply → Type 0
OpensFew (replies.OpenIn (Ok heard)) = heard_puts heard ≤ 3
OpensFew reply = Unit {0}

-- a datagram or a tick is handled here
abbrev pub is_first : Place → Bool
is_first (places.Datagram peer) = true
is_first (places.Tick peer) = true
is_first place = false
