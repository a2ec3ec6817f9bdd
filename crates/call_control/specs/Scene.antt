-- One step of a call, on the book and the legs of all peers: the state after it, and its answer.
use Rattle.std.specs.Prelude.{ℕ, ◌==◌, ◌&&◌, not, Bool, true, false, List, [], ◌∷◌, ◌++◌, Option, None, Some, Result, Ok, Err}
use Rattle.std.specs.Prelude.{is_some, if◌then◌else◌}
use Rattle.call_book.specs.Book.{Book, has_name, is_same, reserve_answer, after_reserve, bridge_answer, bridged, partner_of}
use Rattle.call_book.specs.Book.{released}
use Rattle.call_book.specs.declared.errors.BridgeError.{BridgeError}
use Rattle.call_book.specs.declared.errors.ReserveError.{ReserveError}
use Rattle.call_book.specs.declared.leg_name.LegName.{LegName}
use Rattle.leg_machine.specs.Seen.{SeenLeg, SeenFrame, Speaks, frame_effect, opening_effect, fresh_leg, stage_after, ordered}
use Rattle.leg_machine.specs.Seen.{moved, Lapse, lapsed}
use Rattle.leg_machine.specs.Stage.{is_ended}
use Rattle.call_signals.specs.declared.cause.Cause.{Cause}
use Rattle.call_signals.specs.declared.cause.Cause.TheVariants.{NormalClearing}
use Rattle.call_signals.specs.declared.openings.Opening.{Opening}
use Rattle.call_signals.specs.declared.openings.Opening.TheVariants.{Offers}
use Rattle.call_signals.specs.Order.{kind_of, Kind}
use Rattle.call_signals.specs.declared.signal.MediaSpan.{MediaSpan}
use Rattle.call_signals.specs.declared.signal.Signal.{Signal}
use Rattle.call_signals.specs.declared.stage.Stage.{Stage}
use Rattle.call_signals.specs.declared.stage.Stage.TheVariants as stages
pub use Rattle.peer_lock.specs.Peer.{handed_up}
pub use Rattle.peer_lock.specs.Seen.{refuses_order}
use Rattle.peer_lock.specs.declared.errors.OpenError.{OpenError}
use Rattle.peer_lock.specs.declared.errors.OpenError.TheVariants as open_errors
use Rattle.peer_lock.specs.declared.errors.OrderError.{OrderError}
use Rattle.peer_lock.specs.declared.errors.OrderError.TheVariants as order_errors
use Rattle.peer_lock.specs.declared.errors.PeerError.{PeerError}
use Rattle.peer_lock.specs.declared.errors.RejectError.{RejectError}
use Rattle.peer_lock.specs.declared.steps.Status.{Status}
use Rattle.call_control.specs.SeenReply.{heard}
use Rattle.call_control.specs.declared.need.Need.{Need}
use Rattle.call_control.specs.declared.need.Need.TheVariants as needs
use Rattle.call_control.specs.declared.need.Route.{Route}
use Rattle.call_control.specs.declared.need.Route.TheVariants as routes
use Rattle.call_control.specs.declared.place.Place.{Place}
use Rattle.call_control.specs.declared.place.Place.TheVariants as places
use Rattle.call_control.specs.declared.reply.StepReply.{StepReply}
use Rattle.call_control.specs.declared.reply.Reply.{Reply}
use Rattle.call_control.specs.declared.reply.Reply.TheVariants as replies

pub record Leg : Type 0 where
  pub name : LegName
  -- it was opened by a call from outside
  pub called : Bool
  pub seen : SeenLeg

-- the state before or after a step
pub record Scene : Type 0 where
  pub book : Book
  pub legs : List Leg
  pub leases : List LegName

-- the possible outcomes of a step
pub data Choice : Type 0 where
  -- the step is made
  Goes : Choice
  -- refusals that depend on more than is seen here, such as want of memory
  RefusesDatagram : (error : PeerError) → Choice
  RefusesRejecting : (error : RejectError) → Choice
  RefusesOpening : (error : OpenError) → Choice
  RefusesOrder : (error : OrderError) → Choice
  RefusesTick : Choice
  -- there is no room for a leg in the list of retired legs
  KeepsLeg : Choice
  -- datagram: it is this frame to the leg with the number
  Brings : (number : ℕ) (frame : SeenFrame) → Choice
  -- datagram: it has media for the legs with these numbers
  HasMedia : (media : List (ℕ × MediaSpan)) → Choice
  -- tick: the lapses of the legs with these numbers, and whether there is none to be finished then
  Lapses : (lapses : List (ℕ × Lapse)) (quiet : Bool) → Choice
  Opens : (opening : Opening) → Choice
  LeadsTo : (route : Route) → Choice
  -- a look: the cause of the leg's end
  TellsCause : (cause : Cause) → Choice

-- ---- legs

-- the leg under a number of a peer
abbrev pub leg_at : List Leg → ℕ → ℕ → Option Leg
leg_at [] peer number = None
leg_at (leg ∷ legs) peer number =
    if leg.name.peer == peer && leg.name.number == number then Some leg else leg_at legs peer number

abbrev pub if_named : LegName → Option Leg → Option Leg
if_named name None = None
if_named name (Some leg) = if is_same leg.name name then Some leg else None

abbrev pub leg_named : List Leg → LegName → Option Leg
leg_named legs name = if_named name (leg_at legs name.peer name.number)

-- a leg that is seen in another state
abbrev pub turned : Leg → SeenLeg → Leg
turned leg seen = record leg { seen = seen }

-- the legs with another state of one
abbrev pub replaced : List Leg → Leg → List Leg
replaced [] new = []
replaced (leg ∷ legs) new = (if is_same leg.name new.name then new else leg) ∷ replaced legs new

abbrev pub without : List Leg → LegName → List Leg
without [] name = []
without (leg ∷ legs) name = if is_same leg.name name then without legs name else leg ∷ without legs name

-- ---- the state after a step, and its answer

pub record Answer : Type 0 where
  pub scene : Scene
  pub reply : Reply

abbrev pub answer : Scene → Reply → Answer
answer scene reply = record { scene = scene; reply = reply }

abbrev pub heard_of : LegName → Option Signal → StepReply
heard_of name signal = heard (Some name) (handed_up name signal)

abbrev pub nothing_heard : StepReply
nothing_heard = heard None []

-- ---- datagrams and ticks

-- a leg that a frame comes to
abbrev pub brought : SeenFrame → Leg → Leg
brought frame leg = turned leg (moved leg.seen (frame_effect frame leg.seen.stage).stage)

-- a frame comes to a leg, if there is one
abbrev pub brings : Scene → Option Leg → SeenFrame → Answer
brings scene None frame = answer scene (replies.Datagram (Ok nothing_heard))
brings scene (Some leg) frame =
    answer (record scene { legs = replaced scene.legs (brought frame leg) })
    (replies.Datagram (Ok (heard_of leg.name (frame_effect frame leg.seen.stage).signal)))

-- media is handed up at a leg that talks
abbrev pub media_up : Option Leg → MediaSpan → List (LegName × Signal)
media_up None span = []
media_up (Some leg) span = handed_up leg.name (frame_effect (Speaks span) leg.seen.stage).signal

abbrev pub all_media : List Leg → ℕ → List (ℕ × MediaSpan) → List (LegName × Signal)
all_media legs peer [] = []
all_media legs peer (one ∷ media) = media_up (leg_at legs peer one.0) one.1 ++ all_media legs peer media

abbrev pub at_datagram : Scene → ℕ → Choice → Answer
at_datagram scene peer (RefusesDatagram error) = answer scene (replies.Datagram (Err error))
at_datagram scene peer (Brings number frame) = brings scene (leg_at scene.legs peer number) frame
at_datagram scene peer (HasMedia media) =
    answer scene (replies.Datagram (Ok (heard None (all_media scene.legs peer media))))
at_datagram scene peer choice = answer scene (replies.Datagram (Ok nothing_heard))

-- a leg with this lapse at a tick
abbrev pub let_lapse : Lapse → Leg → Leg
let_lapse lapse leg = turned leg (lapsed lapse leg.seen)

abbrev pub lapsed_at : Option Leg → Lapse → List Leg → List Leg
lapsed_at None lapse legs = legs
lapsed_at (Some leg) lapse legs = replaced legs (let_lapse lapse leg)

abbrev pub all_lapsed : ℕ → List (ℕ × Lapse) → List Leg → List Leg
all_lapsed peer [] legs = legs
all_lapsed peer (lapse ∷ lapses) legs =
    all_lapsed peer lapses (lapsed_at (leg_at legs peer lapse.0) lapse.1 legs)

abbrev pub at_tick : Scene → ℕ → Choice → Answer
at_tick scene peer RefusesTick = answer scene (replies.Tick (Err (record {})))
at_tick scene peer (Lapses lapses quiet) =
    answer (record scene { legs = all_lapsed peer lapses scene.legs }) (replies.Tick (Ok quiet))
at_tick scene peer choice = answer scene (replies.Tick (Ok false))

-- ---- openings

-- a NEW is rejected
abbrev pub at_reject_new : Scene → Choice → Answer
at_reject_new scene (RefusesRejecting error) = answer scene (replies.RejectNew (Err error))
at_reject_new scene choice = answer scene (replies.RejectNew (Ok tt))

abbrev pub is_leased : List LegName → LegName → Bool
is_leased [] name = false
is_leased (lease ∷ leases) name = if is_same lease name then true else is_leased leases name

abbrev pub dropped : List LegName → LegName → List LegName
dropped [] name = []
dropped (lease ∷ leases) name = if is_same lease name then leases else lease ∷ dropped leases name

-- this caller has a lease for the name, and no leg has its number
abbrev pub can_open : Scene → LegName → Bool
can_open scene name = is_leased scene.leases name && not (is_some (leg_at scene.legs name.peer name.number))

-- the lease is used up by the new leg
abbrev pub opened : Scene → LegName → Stage → Bool → Scene
opened scene name stage called =
    record scene {
      legs = record { name = name; called = called; seen = fresh_leg stage } ∷ scene.legs;
      leases = dropped scene.leases name;
    }

abbrev pub opens_in : Scene → LegName → Opening → Answer
opens_in scene name opening =
    answer (opened scene name (opening_effect opening).stage false)
    (replies.OpenIn (Ok (heard_of name (opening_effect opening).signal)))

abbrev pub busy_in : Scene → Answer
busy_in scene = answer scene (replies.OpenIn (Err open_errors.NumberBusy))

abbrev pub at_open_in : Scene → LegName → Choice → Answer
at_open_in scene name (RefusesOpening error) = answer scene (replies.OpenIn (Err error))
at_open_in scene name (Opens opening) = if can_open scene name then opens_in scene name opening else busy_in scene
at_open_in scene name choice = if can_open scene name then opens_in scene name Offers else busy_in scene

abbrev pub opens_out : Scene → LegName → Bool → Answer
opens_out scene name called = answer (opened scene name stages.Waiting called) (replies.OpenOut (Ok tt))

abbrev pub busy_out : Scene → Answer
busy_out scene = answer scene (replies.OpenOut (Err open_errors.NumberBusy))

abbrev pub at_open_out : Scene → LegName → Bool → Choice → Answer
at_open_out scene name called (RefusesOpening error) = answer scene (replies.OpenOut (Err error))
at_open_out scene name called choice =
    if can_open scene name then opens_out scene name called else busy_out scene

-- ---- orders

-- a leg that is carried to this stage by an order
abbrev pub carried : Kind → Leg → Stage → Leg
carried kind leg stage = turned leg (ordered kind leg.seen stage)

abbrev pub refused : Scene → OrderError → Answer
refused scene error = answer scene (replies.Order (Err error))

abbrev pub obeys : Scene → Kind → Leg → Option Stage → Answer
obeys scene kind leg None = refused scene order_errors.WrongStage
obeys scene kind leg (Some stage) =
    answer (record scene { legs = replaced scene.legs (carried kind leg stage) }) (replies.Order (Ok tt))

abbrev pub at_leg : Scene → Kind → Option Leg → Choice → Answer
at_leg scene kind None choice = refused scene order_errors.Gone
at_leg scene kind (Some leg) (RefusesOrder error) =
    if refuses_order kind error && is_some (stage_after kind leg.seen.stage)
    then refused scene error
    else obeys scene kind leg (stage_after kind leg.seen.stage)
at_leg scene kind (Some leg) choice = obeys scene kind leg (stage_after kind leg.seen.stage)

-- a peer without step credit refuses before any other check
abbrev pub at_order : Scene → LegName → Kind → Choice → Answer
at_order scene name kind (RefusesOrder order_errors.StepsSpent) = refused scene order_errors.StepsSpent
at_order scene name kind choice = at_leg scene kind (leg_named scene.legs name) choice

-- ---- looking at a leg, and taking it out

abbrev pub status_of : Cause → Option Leg → Option Status
status_of cause None = None
status_of cause (Some leg) =
    Some (record { name = leg.name; stage = leg.seen.stage; owes = leg.seen.owes; cause = cause; held = 0; entries = 0 })

abbrev pub told_cause : Choice → Cause
told_cause (TellsCause cause) = cause
told_cause choice = NormalClearing

-- a leg that has ended and owes nothing
abbrev pub is_done : Option Leg → Bool
is_done None = false
is_done (Some leg) = is_ended leg.seen.stage && not leg.seen.owes

abbrev pub retires : Scene → LegName → Answer
retires scene name =
    answer (record scene { legs = without scene.legs name; leases = name ∷ scene.leases }) (replies.Retire true)

abbrev pub keeps : Scene → Answer
keeps scene = answer scene (replies.Retire false)

abbrev pub at_retire : Scene → LegName → Choice → Answer
at_retire scene name KeepsLeg = keeps scene
at_retire scene name choice = if is_done (leg_named scene.legs name) then retires scene name else keeps scene

-- ---- the book

abbrev pub reserves : Scene → ℕ → Result LegName ReserveError → Answer
reserves scene peer (Ok name) =
    answer (record scene { book = after_reserve scene.book peer; leases = name ∷ scene.leases }) (replies.Reserve (Ok name))
reserves scene peer (Err error) = answer scene (replies.Reserve (Err error))

abbrev pub bridges : Scene → LegName → LegName → Result (Unit {0}) BridgeError → Answer
bridges scene a b (Ok done) = answer (record scene { book = bridged scene.book a b }) (replies.Bridge (Ok tt))
bridges scene a b (Err error) = answer scene (replies.Bridge (Err error))

abbrev pub releases : Scene → LegName → Answer
releases scene name =
    answer (record scene { book = released scene.book name; leases = dropped scene.leases name })
    (replies.Release (Ok (partner_of scene.book name)))

abbrev pub is_stale : Scene → LegName → Answer
is_stale scene name =
    answer (record scene { leases = dropped scene.leases name }) (replies.Release (Err (record {})))

-- only with a lease; a lease that the book refuses is dropped
abbrev pub at_release : Scene → LegName → Answer
at_release scene name =
    if is_leased scene.leases name && has_name scene.book name then releases scene name else is_stale scene name

abbrev pub at_route : Scene → Choice → Answer
at_route scene (LeadsTo route) = answer scene (replies.Route route)
at_route scene choice = answer scene (replies.Route routes.Nowhere)

-- ---- steps

-- a step, with this outcome; called: a leg that it opens is opened by a call from outside
abbrev pub answered : Scene → Need → Bool → Choice → Answer
answered scene (needs.Datagram peer) called choice = at_datagram scene peer choice
answered scene (needs.RejectNew peer) called choice = at_reject_new scene choice
answered scene (needs.OpenIn name) called choice = at_open_in scene name choice
answered scene (needs.OpenOut name) called choice = at_open_out scene name called choice
answered scene (needs.Order name command) called choice = at_order scene name (kind_of command) choice
answered scene (needs.Tick peer) called choice = at_tick scene peer choice
answered scene (needs.Look peer number) called choice =
    answer scene (replies.Look (status_of (told_cause choice) (leg_at scene.legs peer number)))
answered scene (needs.Retire name) called choice = at_retire scene name choice
answered scene (needs.Reserve peer) called choice = reserves scene peer (reserve_answer scene.book peer)
answered scene (needs.Bridge a b) called choice = bridges scene a b (bridge_answer scene.book a b)
answered scene (needs.Partner name) called choice = answer scene (replies.Partner (partner_of scene.book name))
answered scene (needs.Release name) called choice = at_release scene name
answered scene (needs.Route name) called choice = at_route scene choice

-- the legs that this place opens are opened by a call from outside
abbrev pub is_call : Place → Bool
is_call (places.OpenCall name) = true
is_call place = false
