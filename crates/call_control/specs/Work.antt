-- The steps of one call of the exchange: its place, the step that it needs next, and the place after each answer.
use Rattle.std.specs.Prelude.{ℕ, suc, zero, ◌+◌, Bool, true, false, List, [], ◌∷◌, Option, None, Some, Ok, Err, if◌then◌else◌}
use Rattle.call_book.specs.Book.{is_same}
use Rattle.call_book.specs.declared.errors.ReserveError.TheVariants as reserve_errors
use Rattle.call_book.specs.declared.leg_name.LegName.{LegName}
use Rattle.call_signals.specs.declared.cause.Cause.{Cause}
use Rattle.call_signals.specs.declared.cause.Cause.TheVariants.{UnallocatedNumber, NormalClearing, CallRejected}
use Rattle.call_signals.specs.declared.cause.Cause.TheVariants.{NoChannelAvailable, Other}
use Rattle.call_signals.specs.declared.format.Format.{Format}
use Rattle.call_signals.specs.declared.signal.Signal.{Signal}
use Rattle.call_signals.specs.declared.signal.Signal.TheVariants as signals
use Rattle.peer_lock.specs.declared.errors.OrderError.TheVariants as order_errors
use Rattle.peer_lock.specs.declared.errors.PeerError.{PeerError}
use Rattle.peer_lock.specs.declared.errors.PeerError.TheVariants as peer_errors
use Rattle.call_signals.specs.declared.order.Command.{Command}
use Rattle.call_signals.specs.declared.signal.MediaSpan.{MediaSpan}
use Rattle.call_signals.specs.declared.order.Command.TheVariants as commands
use Rattle.call_control.specs.declared.need.Need.{Need}
use Rattle.call_control.specs.declared.need.Need.TheVariants as needs
use Rattle.call_control.specs.declared.need.Route.TheVariants as routes
use Rattle.call_control.specs.declared.place.Place.{Place}
use Rattle.call_control.specs.declared.place.Place.TheVariants as places
use Rattle.call_control.specs.declared.reply.StepReply.{StepReply}
use Rattle.call_control.specs.declared.reply.Reply.{Reply}
use Rattle.call_control.specs.declared.reply.Reply.TheVariants as replies

-- the remaining work after the step of the present place
pub record Rest : Type 0 where
  -- the signals that aren't passed on yet, each with the name of its leg
  pub onward : List (LegName × Signal)
  -- the leg that is finished after that
  pub touched : Option LegName
  -- of a tick: the peer and the number of each leg that is still to be finished
  pub looks : List (ℕ × ℕ)

pub record Work : Type 0 where
  pub place : Place
  pub rest : Rest

abbrev pub at : Place → Rest → Work
at place rest = record { place = place; rest = rest }

abbrev pub nothing_left : Rest
nothing_left = record { onward = []; touched = None; looks = [] }

abbrev pub ended : Work
ended = at places.End nothing_left

-- ---- the beginning of a call

abbrev pub of_datagram : ℕ → Work
of_datagram peer = at (places.Datagram peer) nothing_left

-- count numbers of a peer, in ascending order from the first
abbrev pub looks_from : ℕ → ℕ → ℕ → List (ℕ × ℕ)
looks_from peer first zero = []
looks_from peer first (suc count) = (peer, first) ∷ looks_from peer (first + 1) count

abbrev pub of_tick : ℕ → ℕ → ℕ → Work
of_tick peer first count = at (places.Tick peer) (record nothing_left { looks = looks_from peer first count })

abbrev pub of_call : ℕ → Work
of_call peer = at (places.ReserveCall peer) nothing_left

abbrev pub of_hang_up : LegName → Work
of_hang_up name = at (places.HangUp name) (record nothing_left { touched = Some name })

-- ---- the step at each place

abbrev pub next_at : Place → Option Need
next_at (places.Datagram peer) = Some (needs.Datagram peer)
next_at (places.ReserveIn peer) = Some (needs.Reserve peer)
next_at (places.RejectNew peer) = Some (needs.RejectNew peer)
next_at (places.OpenIn name) = Some (needs.OpenIn name)
next_at (places.GiveBack name) = Some (needs.Release name)
next_at (places.Routing offered) = Some (needs.Route offered)
next_at (places.Rejecting offered cause) = Some (needs.Order offered (commands.Reject cause))
next_at (places.ReserveOut offered peer format) = Some (needs.Reserve peer)
next_at (places.Bridging offered target format) = Some (needs.Bridge offered target)
next_at (places.Accepting offered target format) = Some (needs.Order offered (commands.Accept format))
next_at (places.OpenOut offered target) = Some (needs.OpenOut target)
next_at (places.Checking target) = Some (needs.Partner target)
next_at (places.Undoing offered target) = Some (needs.Release target)
next_at (places.Dooming name cause) = Some (needs.Order name (commands.Doom cause))
next_at (places.Finding name command) = Some (needs.Partner name)
next_at (places.Passing partner command) = Some (needs.Order partner command)
next_at (places.Looking name) = Some (needs.Look name.peer name.number)
next_at (places.LookingAt peer number) = Some (needs.Look peer number)
next_at (places.FindingPartner name cause) = Some (needs.Partner name)
next_at (places.HangingUp name partner cause) = Some (needs.Order partner (commands.Hangup cause))
next_at (places.Paying name cause) = Some (needs.Order name commands.Paid)
next_at (places.Retiring name cause) = Some (needs.Retire name)
next_at (places.Freeing name cause) = Some (needs.Release name)
next_at (places.Tick peer) = Some (needs.Tick peer)
next_at (places.HangUp name) = Some (needs.Order name (commands.Hangup NormalClearing))
next_at (places.ReserveCall peer) = Some (needs.Reserve peer)
next_at (places.OpenCall name) = Some (needs.OpenOut name)
next_at places.End = None

abbrev pub next_of : Work → Option Need
next_of work = next_at work.place

-- ---- the next place: for a signal, then for the touched leg, then for the next number of a tick

abbrev pub next_look : List (ℕ × ℕ) → Work
next_look [] = ended
next_look (look ∷ looks) = at (places.LookingAt look.0 look.1) (record nothing_left { looks = looks })

abbrev pub finish : Option LegName → List (ℕ × ℕ) → Work
finish None looks = next_look looks
finish (Some name) looks = at (places.Looking name) (record nothing_left { looks = looks })

-- the first place for a leg's signal; none if it needs no step
abbrev pub place_for : LegName → Signal → Option Place
place_for name signals.Offered = Some (places.Routing name)
place_for name (signals.Indicated indication) = Some (places.Finding name (commands.Indicate indication))
place_for name signals.Answered = Some (places.Finding name commands.Answer)
place_for name (signals.Dtmf digit) = Some (places.Finding name (commands.Dtmf digit))
place_for name (signals.Media span) = Some (places.Finding name (commands.Media span))
place_for name signals.Hangup = None

abbrev pub passed_on : Option Place → Rest → Work → Work
passed_on None rest further = further
passed_on (Some place) rest further = at place rest

abbrev pub advance_from : List (LegName × Signal) → Option LegName → List (ℕ × ℕ) → Work
advance_from [] touched looks = finish touched looks
advance_from (up ∷ onward) touched looks =
    passed_on (place_for up.0 up.1) (record {
      onward = onward;
      touched = touched;
      looks = looks;
    }) (advance_from onward touched looks)

abbrev pub advance : Rest → Work
advance rest = advance_from rest.onward rest.touched rest.looks

-- ---- the place after each answer; an answer of the wrong kind counts as a refusal

-- the signals of a peer's step, and the leg that it touched
abbrev pub after_heard : StepReply → Rest → Work
after_heard heard rest = advance (record rest { onward = heard.onwards.signals; touched = heard.touched })

abbrev pub after_refused_datagram : PeerError → ℕ → Rest → Work
after_refused_datagram peer_errors.NeedsNumber peer rest = at (places.ReserveIn peer) rest
after_refused_datagram error peer rest = ended

abbrev pub after_datagram : Reply → ℕ → Rest → Work
after_datagram (replies.Datagram (Ok heard)) peer rest = after_heard heard rest
after_datagram (replies.Datagram (Err error)) peer rest = after_refused_datagram error peer rest
after_datagram reply peer rest = ended

-- a NEW for which no number is free is rejected
abbrev pub after_reserve_in : Reply → ℕ → Rest → Work
after_reserve_in (replies.Reserve (Ok name)) peer rest = at (places.OpenIn name) rest
after_reserve_in (replies.Reserve (Err reserve_errors.NoNumber)) peer rest = at (places.RejectNew peer) rest
after_reserve_in reply peer rest = ended

abbrev pub after_open_in : Reply → LegName → Rest → Work
after_open_in (replies.OpenIn (Ok heard)) name rest = after_heard heard rest
after_open_in reply name rest = at (places.GiveBack name) rest

abbrev pub after_route : Reply → LegName → Rest → Work
after_route (replies.Route routes.WithoutFormat) offered rest = at (places.Rejecting offered CallRejected) rest
after_route (replies.Route routes.BadNumber) offered rest = at (places.Rejecting offered (Other 28)) rest
after_route (replies.Route (routes.To peer format)) offered rest = at (places.ReserveOut offered peer format) rest
after_route reply offered rest = at (places.Rejecting offered UnallocatedNumber) rest

abbrev pub after_reject : Reply → LegName → Rest → Work
after_reject (replies.Order (Ok done)) offered rest = advance rest
after_reject reply offered rest = at (places.Dooming offered NormalClearing) rest

abbrev pub after_reserve_out : Reply → LegName → Format → Rest → Work
after_reserve_out (replies.Reserve (Ok target)) offered format rest = at (places.Bridging offered target format) rest
after_reserve_out reply offered format rest = at (places.Rejecting offered NoChannelAvailable) rest

abbrev pub after_bridge : Reply → LegName → LegName → Format → Rest → Work
after_bridge (replies.Bridge (Ok done)) offered target format rest = at (places.Accepting offered target format) rest
after_bridge reply offered target format rest = at (places.Undoing offered target) rest

abbrev pub after_accept : Reply → LegName → LegName → Format → Rest → Work
after_accept (replies.Order (Ok done)) offered target format rest = at (places.OpenOut offered target) rest
after_accept reply offered target format rest = at (places.Undoing offered target) rest

abbrev pub after_open_out : Reply → LegName → LegName → Rest → Work
after_open_out (replies.OpenOut (Ok done)) offered target rest = at (places.Checking target) rest
after_open_out reply offered target rest = at (places.Undoing offered target) rest

abbrev pub after_check : Reply → LegName → Rest → Work
after_check (replies.Partner (Some partner)) target rest = advance rest
after_check reply target rest = at (places.Dooming target NormalClearing) rest

abbrev pub after_find : Reply → Command MediaSpan → Rest → Work
after_find (replies.Partner (Some partner)) command rest = at (places.Passing partner command) rest
after_find reply command rest = advance rest

-- refused for want of room: the partner is doomed, unless it was media
abbrev pub after_no_room : Command MediaSpan → LegName → Rest → Work
after_no_room (commands.Media span) partner rest = advance rest
after_no_room command partner rest = at (places.Dooming partner NormalClearing) rest

abbrev pub after_pass : Reply → LegName → Command MediaSpan → Rest → Work
after_pass (replies.Order (Err order_errors.WindowFull)) partner command rest = after_no_room command partner rest
after_pass (replies.Order (Err order_errors.RecordFull)) partner command rest = after_no_room command partner rest
after_pass (replies.Order (Err order_errors.Memory)) partner command rest = after_no_room command partner rest
after_pass reply partner command rest = advance rest

-- a leg that owes is settled with its partner before it is taken out; the partner is hung up for the cause of its end
abbrev pub after_status : LegName → Bool → Cause → Rest → Work
after_status name true cause rest = at (places.FindingPartner name cause) rest
after_status name false cause rest = at (places.Retiring name cause) rest

abbrev pub after_look : Reply → LegName → Rest → Work
after_look (replies.Look (Some status)) name rest =
    if is_same status.name name then after_status status.name status.owes status.cause rest else advance rest
after_look reply name rest = advance rest

abbrev pub after_look_at : Reply → Rest → Work
after_look_at (replies.Look (Some status)) rest = after_status status.name status.owes status.cause rest
after_look_at reply rest = advance rest

abbrev pub after_find_partner : Reply → LegName → Cause → Rest → Work
after_find_partner (replies.Partner (Some partner)) name cause rest = at (places.HangingUp name partner cause) rest
after_find_partner reply name cause rest = at (places.Paying name cause) rest

-- it has paid if the partner is hung up, or was before
abbrev pub after_partner_hangup : Reply → LegName → Cause → Rest → Work
after_partner_hangup (replies.Order (Ok done)) name cause rest = at (places.Paying name cause) rest
after_partner_hangup (replies.Order (Err order_errors.Gone)) name cause rest = at (places.Paying name cause) rest
after_partner_hangup (replies.Order (Err order_errors.WrongStage)) name cause rest = at (places.Paying name cause) rest
after_partner_hangup reply name cause rest = at (places.Retiring name cause) rest

abbrev pub after_retire : Reply → LegName → Cause → Rest → Work
after_retire (replies.Retire true) name cause rest = at (places.Freeing name cause) rest
after_retire reply name cause rest = advance rest

-- the former partner is doomed
abbrev pub after_free : Reply → Cause → Rest → Work
after_free (replies.Release (Ok (Some partner))) cause rest = at (places.Dooming partner cause) rest
after_free reply cause rest = advance rest

-- if no leg has ended and none owes, there is none to be finished
abbrev pub after_tick : Reply → Rest → Work
after_tick (replies.Tick (Ok false)) rest = advance rest
after_tick reply rest = ended

abbrev pub after_hang_up : Reply → Rest → Work
after_hang_up (replies.Order (Ok done)) rest = advance rest
after_hang_up reply rest = ended

abbrev pub after_reserve_call : Reply → Rest → Work
after_reserve_call (replies.Reserve (Ok name)) rest = at (places.OpenCall name) rest
after_reserve_call reply rest = ended

abbrev pub after_open_call : Reply → LegName → Rest → Work
after_open_call (replies.OpenOut (Ok done)) name rest = ended
after_open_call reply name rest = at (places.GiveBack name) rest

abbrev pub told_at : Place → Reply → Rest → Work
told_at (places.Datagram peer) reply rest = after_datagram reply peer rest
told_at (places.ReserveIn peer) reply rest = after_reserve_in reply peer rest
told_at (places.RejectNew peer) reply rest = ended
told_at (places.OpenIn name) reply rest = after_open_in reply name rest
told_at (places.GiveBack name) reply rest = ended
told_at (places.Routing offered) reply rest = after_route reply offered rest
told_at (places.Rejecting offered cause) reply rest = after_reject reply offered rest
told_at (places.ReserveOut offered peer format) reply rest = after_reserve_out reply offered format rest
told_at (places.Bridging offered target format) reply rest = after_bridge reply offered target format rest
told_at (places.Accepting offered target format) reply rest = after_accept reply offered target format rest
told_at (places.OpenOut offered target) reply rest = after_open_out reply offered target rest
told_at (places.Checking target) reply rest = after_check reply target rest
told_at (places.Undoing offered target) reply rest = at (places.Dooming offered NormalClearing) rest
told_at (places.Dooming name cause) reply rest = advance rest
told_at (places.Finding name command) reply rest = after_find reply command rest
told_at (places.Passing partner command) reply rest = after_pass reply partner command rest
told_at (places.Looking name) reply rest = after_look reply name rest
told_at (places.LookingAt peer number) reply rest = after_look_at reply rest
told_at (places.FindingPartner name cause) reply rest = after_find_partner reply name cause rest
told_at (places.HangingUp name partner cause) reply rest = after_partner_hangup reply name cause rest
told_at (places.Paying name cause) reply rest = at (places.Retiring name cause) rest
told_at (places.Retiring name cause) reply rest = after_retire reply name cause rest
told_at (places.Freeing name cause) reply rest = after_free reply cause rest
told_at (places.Tick peer) reply rest = after_tick reply rest
told_at (places.HangUp name) reply rest = after_hang_up reply rest
told_at (places.ReserveCall peer) reply rest = after_reserve_call reply rest
told_at (places.OpenCall name) reply rest = after_open_call reply name rest
told_at places.End reply rest = ended

abbrev pub after_told : Work → Reply → Work
after_told work reply = told_at work.place reply work.rest

-- ---- leases

-- the names for which the caller has a lease
abbrev pub in_hand : Place → List LegName
in_hand (places.OpenIn name) = name ∷ []
in_hand (places.GiveBack name) = name ∷ []
in_hand (places.Bridging offered target format) = target ∷ []
in_hand (places.Accepting offered target format) = target ∷ []
in_hand (places.OpenOut offered target) = target ∷ []
in_hand (places.Undoing offered target) = target ∷ []
in_hand (places.Freeing name cause) = name ∷ []
in_hand (places.OpenCall name) = name ∷ []
in_hand place = []
