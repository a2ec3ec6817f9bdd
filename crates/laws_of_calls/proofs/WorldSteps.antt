-- The laws of the lower crates about the steps of peers, and the goal for a step.
use Rattle.std.specs.Prelude.{option_map, Ok, Err}
use Rattle.std.proofs.Common.{◌≡◌, ℕ, ◌≤◌, Bool, true, List, ◌∷◌, None, Some}
use Rattle.call_book.specs.declared.leg_name.LegName.{LegName}
use Rattle.call_signals.specs.declared.format.Format.{Format}
use Rattle.call_signals.specs.Order.{Order}
use Rattle.call_control.specs.Scene.{Scene, Choice, answered, is_leased, dropped, leg_at as world_leg_at, without}
use Rattle.call_control.specs.SeenReply.{heard, seen_reply}
use Rattle.call_control.specs.Sees.{Sees, IsWorldStep}
use Rattle.call_signals.specs.declared.order.Command.{Command}
use Rattle.call_signals.specs.declared.signal.MediaSpan.{MediaSpan}
use Rattle.call_control.specs.declared.need.Need.{Need}
use Rattle.call_control.specs.declared.need.Need.TheVariants as needs
use Rattle.call_control.specs.declared.reply.Reply.{Reply}
use Rattle.call_control.specs.declared.reply.Reply.TheVariants as replies
use Rattle.iax_frames.specs.FullFrame.{FullFrame}
use Rattle.iax_frames.specs.declared.datagram.Datagram.{Datagram}
use Rattle.leg_machine.specs.OrderTable.{wants_memory}
use Rattle.leg_machine.specs.Seen.{kind_of}
use Rattle.peer_lock.specs.Arrivals.{datagram_step}
use Rattle.peer_lock.specs.Legs.{AreLegs, PeerLegs, NamedLeg, leg_at, leg_named, with_place}
use Rattle.peer_lock.specs.Openings.{is_free_name, opens_in, opens_out, rejects_new}
use Rattle.peer_lock.specs.Orders.{order_refused_by, ordered_step, IsOrderRefusal}
use Rattle.peer_lock.specs.Peer.{PeerView}
use Rattle.peer_lock.specs.Statuses.{is_done, status_of}
use Rattle.peer_lock.specs.Ticks.{Ticks}
use Rattle.peer_lock.specs.declared.errors.OrderError.{OrderError}
use Rattle.peer_lock.specs.declared.errors.OrderError.TheVariants.{Memory}
use Rattle.peer_lock.specs.declared.steps.TickReport.{TickReport}
use Rattle.laws_of_calls.specs.Stored.{Stored, AreSeenIn}
use Rattle.laws_of_calls.specs.StoredSteps.{leases_after}

-- each step of a peer is one of the world
pub record PeersSteps : Type 0 where
  pub datagrams : (first : ℕ) (peer : PeerView) (datagram : Datagram) (now : ℕ) (scene : Scene) (called : Bool)
      → AreLegs peer.legs → Sees scene.legs peer.legs
      → IsWorldStep scene (needs.Datagram peer.legs.peer) called peer.legs (datagram_step first peer datagram now).peer.legs
      (replies.Datagram (Ok (heard (datagram_step first peer datagram now).step.touched
      (datagram_step first peer datagram now).signals))) scene.leases
  pub rejected_calls : (peer : PeerView) (frame : FullFrame) (scene : Scene) (called : Bool) → Sees scene.legs peer.legs
      → IsWorldStep scene (needs.RejectNew peer.legs.peer) called peer.legs (rejects_new peer frame).peer.legs
      (replies.RejectNew (Ok tt)) scene.leases
  pub calls_in : (peer : PeerView) (name : LegName) (frame : FullFrame) (now : ℕ) (challenge : List ℕ) (scene : Scene)
      (called : Bool) → AreLegs peer.legs
      → 1 ≤ peer.rules.window → is_free_name peer.legs name ≡ true → Sees scene.legs peer.legs
      → is_leased scene.leases name ≡ true
      → IsWorldStep scene (needs.OpenIn name) called peer.legs (opens_in peer name frame now challenge).peer.legs
      (replies.OpenIn (Ok (heard (opens_in peer name frame now challenge).step.touched
      (opens_in peer name frame now challenge).signals))) (dropped scene.leases name)
  pub calls_out : (peer : PeerView) (name : LegName) (number : List ℕ) (caller : List ℕ) (format : Format) (now : ℕ)
      (scene : Scene) (called : Bool)
      → AreLegs peer.legs → is_free_name peer.legs name ≡ true → Sees scene.legs peer.legs → is_leased scene.leases name ≡ true
      → IsWorldStep scene (needs.OpenOut name) called peer.legs (opens_out peer name number caller format now).peer.legs
      (replies.OpenOut (Ok tt)) (dropped scene.leases name)
  pub orders : (peer : PeerView) (credit : ℕ) (name : LegName) (command : Command MediaSpan) (order : Order) (now : ℕ)
      (scene : Scene) (called : Bool) → AreLegs peer.legs
      → name.peer ≡ peer.legs.peer → kind_of order ≡ kind_of command → order_refused_by peer credit name order now ≡ None
      → Sees scene.legs peer.legs
      → IsWorldStep scene (needs.Order name command) called peer.legs (ordered_step peer name order now).legs
      (replies.Order (Ok tt)) scene.leases
  pub refused_orders : (peer : PeerView) (credit : ℕ) (name : LegName) (command : Command MediaSpan) (order : Order) (now : ℕ)
      (error : OrderError) (scene : Scene) (called : Bool)
      → AreLegs peer.legs → name.peer ≡ peer.legs.peer → kind_of order ≡ kind_of command
      → IsOrderRefusal (order_refused_by peer credit name order now) error
      → (error ≡ Memory → (named : NamedLeg) → leg_named peer.legs name ≡ Some named → wants_memory named.leg order now ≡ true)
      → Sees scene.legs peer.legs
      → IsWorldStep scene (needs.Order name command) called peer.legs peer.legs (replies.Order (Err error)) scene.leases
  pub ticks : (old new : PeerView) (now : ℕ) (report : TickReport) (scene : Scene) (called : Bool) → AreLegs old.legs
      → Ticks old now report new → Sees scene.legs old.legs
      → IsWorldStep scene (needs.Tick old.legs.peer) called old.legs new.legs (replies.Tick (Ok report.is_quiet)) scene.leases
  pub looks : (legs : PeerLegs) (number : ℕ) (scene : Scene) (called : Bool) → Sees scene.legs legs
      → IsWorldStep scene (needs.Look legs.peer number) called legs legs
      (replies.Look (option_map status_of (leg_at legs number))) scene.leases
  pub retiring : (legs : PeerLegs) (name : LegName) (scene : Scene) (called : Bool) → AreLegs legs → name.peer ≡ legs.peer
      → is_done (leg_named legs name) ≡ true
      → Sees scene.legs legs → world_leg_at (without scene.legs name) name.peer name.number ≡ None
      → IsWorldStep scene (needs.Retire name) called legs (with_place legs name.number None) (replies.Retire true)
      (name ∷ scene.leases)

-- the world's step can have a result that agrees with the stored exchange afterwards, as it is seen
pub record ComesOut (scene : Scene) (need : Need) (called : Bool) (new : Stored) (reply : Reply) : Type 0 where
  pub choice : Choice
  pub answers : (answered scene need called choice).reply ≡ seen_reply reply
  pub book : (answered scene need called choice).scene.book ≡ new.book
  pub leases : (answered scene need called choice).scene.leases ≡ leases_after need reply scene.leases
  pub legs : AreSeenIn (answered scene need called choice).scene.legs new.peers

-- the world in which a step is made agrees with the stored exchange before it
pub record IsSceneOf (scene : Scene) (old : Stored) : Type 0 where
  pub book : scene.book ≡ old.book
  pub legs : AreSeenIn scene.legs old.peers
