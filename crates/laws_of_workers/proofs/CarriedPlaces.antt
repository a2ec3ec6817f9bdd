-- The places of a datagram's call: what each has of the signals that wait, and of the notes before it.
use Rattle.std.proofs.Common.{◌≡◌, ℕ, Bool, true, false, List, [], ◌∷◌, ◌++◌, Option, None, Some, Ok, Err, refl, sym, ap, subst}
use Rattle.std.proofs.Common.{◌∙◌, append_assoc, append-nil}
use Rattle.std.proofs.lemmas.Bool.{cond_both}
use Rattle.std.specs.Prelude.{Result}
use Rattle.call_book.specs.Book.{is_same}
use Rattle.call_book.specs.declared.errors.ReserveError.{ReserveError}
use Rattle.call_book.specs.declared.errors.ReserveError.TheVariants as reserve_errors
use Rattle.call_book.specs.declared.leg_name.LegName.{LegName}
use Rattle.call_signals.specs.declared.cause.Cause.{Cause}
use Rattle.call_signals.specs.declared.signal.MediaSpan.{MediaSpan}
use Rattle.call_signals.specs.declared.signal.Signal.{Signal}
use Rattle.call_signals.specs.declared.signal.Signal.TheVariants as signals
use Rattle.call_control.specs.Work.{Rest, Work, after_look, after_no_room, after_status, at, finish, advance, advance_from}
use Rattle.call_control.specs.Work.{next_at}
use Rattle.call_control.specs.Work.{passed_on, place_for, told_at}
use Rattle.call_signals.specs.declared.order.Command.{Command}
use Rattle.call_signals.specs.declared.order.Command.TheVariants as commands
use Rattle.call_control.specs.declared.need.Need.TheVariants as needs
use Rattle.call_control.specs.declared.need.Route.TheVariants as routes
use Rattle.call_control.specs.declared.place.Place.{Place}
use Rattle.call_control.specs.declared.place.Place.TheVariants as places
use Rattle.call_control.specs.declared.reply.Reply.{Reply}
use Rattle.call_control.specs.declared.reply.Reply.TheVariants as replies
use Rattle.step_log.specs.declared.made.Made.{Made}
use Rattle.step_log.specs.declared.made.Made.TheVariants as mades
use Rattle.peer_lock.specs.HandedUp.{HandedUp}
use Rattle.peer_lock.specs.declared.errors.OrderError.TheVariants as order_errors
use Rattle.peer_lock.specs.declared.errors.PeerError.{PeerError}
use Rattle.peer_lock.specs.declared.errors.PeerError.TheVariants as peer_errors
use Rattle.laws_of_workers.specs.Carried.{NeededName}

-- ---- the signals that wait

abbrev pub Signals : Type 0
Signals = List (LegName × Signal)

-- some signals end with these
abbrev pub Ends : Signals → Signals → Type 0
Ends waiting last = (skipped : Signals) × (waiting ≡ skipped ++ last)

pub all_left : (waiting : Signals) → Ends waiting waiting
all_left waiting = ([], refl)

pub none_left : (waiting : Signals) → Ends waiting []
none_left waiting = (waiting, sym (append-nil waiting))

pub no_more : (last waiting : Signals) → last ≡ [] → Ends waiting last
no_more last waiting none = subst (λ (l : Signals). Ends waiting l) (sym none) (none_left waiting)

pub one_less : (up : LegName × Signal) (last waiting : Signals) → Ends waiting (up ∷ last) → Ends waiting last
one_less up last waiting ends = (ends.0 ++ up ∷ [], ends.1 ∙ sym (append_assoc ends.0 (up ∷ []) last))

-- the peer needed a number for the datagram
abbrev pub NeedsName : ℕ → List ℕ → List Made → Type 0
NeedsName peer octets earlier =
    (now : ℕ) × (onwards : HandedUp) × (earlier ≡ mades.Datagram peer octets now (Err peer_errors.NeedsNumber) onwards ∷ [])

-- ---- the answers that hand nothing up

abbrev pub hands : Reply → Bool
hands (replies.Datagram (Ok heard)) = true
hands (replies.OpenIn (Ok heard)) = true
hands reply = false

-- the note of an answer that needs a number, gives a name or names a partner, at a place that asks for that
abbrev pub Names : List ℕ → Reply → Place → List Made → List Made → Type 0
Names octets (replies.Datagram (Err peer_errors.NeedsNumber)) (places.Datagram first) was earlier =
    (now : ℕ) × (onwards : HandedUp) × (earlier ≡ mades.Datagram first octets now (Err peer_errors.NeedsNumber) onwards ∷ was)
Names octets (replies.Reserve (Ok name)) (places.ReserveIn first) was earlier = earlier ≡ mades.Reserve first (Ok name) ∷ was
Names octets (replies.Partner (Some partner)) (places.Finding leg command) was earlier =
    earlier ≡ mades.Partner leg (Some partner) ∷ was
Names octets reply place was earlier = Unit {0}

module _ (peer : ℕ) (octets : List ℕ) (waiting : Signals) where
  -- The signals that wait end with the signal of the place, if it is media, and those that the work has left. A leg is opened
  -- or gets media only as the notes before say.
  abbrev pub Pends : List Made → Place → Signals → Type 0
  Pends earlier (places.Datagram first) onward = (first ≡ peer) × (earlier ≡ []) × (onward ≡ [])
  Pends earlier (places.ReserveIn first) onward = (first ≡ peer) × NeedsName peer octets earlier × (onward ≡ [])
  Pends earlier (places.OpenIn name) onward = NeededName peer octets earlier name × (onward ≡ [])
  Pends earlier (places.Finding leg (commands.Media span)) onward = Ends waiting ((leg, signals.Media span) ∷ onward)
  Pends earlier (places.Passing partner (commands.Media span)) onward =
      (leg : LegName) × (before : List Made) × (earlier ≡ mades.Partner leg (Some partner) ∷ before) ×
      Ends waiting ((leg, signals.Media span) ∷ onward)
  Pends earlier place onward = Ends waiting onward

  abbrev pub Stands : List Made → Work → Type 0
  Stands earlier work = Pends earlier work.place work.rest.onward

  -- ---- the next place of a call

  passes : (earlier : List Made) (name : LegName) (signal : Signal) (rest : Rest) (further : Work)
      → Ends waiting ((name, signal) ∷ rest.onward) → Stands earlier further
      → Stands earlier (passed_on (place_for name signal) rest further)
  passes earlier name signals.Hangup rest further ends later = later
  passes earlier name (signals.Media span) rest further ends later = ends
  passes earlier name signal rest further ends later = one_less (name, signal) rest.onward waiting ends

  finishes : (earlier : List Made) (touched : Option LegName) (looks : List (ℕ × ℕ))
      → Stands earlier (finish touched looks)
  finishes earlier (Some name) looks = none_left waiting
  finishes earlier None [] = none_left waiting
  finishes earlier None (look ∷ looks) = none_left waiting

  goes_from : (earlier : List Made) (onward : Signals) (touched : Option LegName) (looks : List (ℕ × ℕ))
      → Ends waiting onward → Stands earlier (advance_from onward touched looks)
  goes_from earlier [] touched looks ends = finishes earlier touched looks
  goes_from earlier (up ∷ onward) touched looks ends =
      passes earlier up.0 up.1 (record { onward = onward; touched = touched; looks = looks })
      (advance_from onward touched looks) ends (goes_from earlier onward touched looks (one_less up onward waiting ends))

  pub goes : (earlier : List Made) (rest : Rest) → Ends waiting rest.onward → Stands earlier (advance rest)
  goes earlier rest ends = goes_from earlier rest.onward rest.touched rest.looks ends

  -- ---- each answer

  looks_at : (earlier : List Made) (name : LegName) (owes : Bool) (cause : Cause) (rest : Rest)
      → Ends waiting rest.onward → Stands earlier (after_status name owes cause rest)
  looks_at earlier name true cause rest ends = ends
  looks_at earlier name false cause rest ends = ends

  looked : (earlier : List Made) (reply : Reply) (name : LegName) (rest : Rest)
      → Ends waiting rest.onward → Stands earlier (after_look reply name rest)
  looked earlier (replies.Look (Some status)) name rest ends =
      cond_both (is_same status.name name) (after_status status.name status.owes status.cause rest) (advance rest) (Stands
      earlier)
      (λ _. looks_at earlier status.name status.owes status.cause rest ends) (λ _. goes earlier rest ends)
  looked earlier reply name rest ends = goes earlier rest ends

  no_room : (earlier : List Made) (command : Command MediaSpan) (partner : LegName) (rest : Rest)
      → Ends waiting rest.onward → Stands earlier (after_no_room command partner rest)
  no_room earlier (commands.Media span) partner rest ends = goes earlier rest ends
  no_room earlier command partner rest ends = ends

  pub passed : (earlier : List Made) (reply : Reply) (partner : LegName) (command : Command MediaSpan) (rest : Rest)
      → Ends waiting rest.onward → Stands earlier (told_at (places.Passing partner command) reply rest)
  passed earlier (replies.Order (Err order_errors.WindowFull)) partner command rest ends =
      no_room earlier command partner rest ends
  passed earlier (replies.Order (Err order_errors.RecordFull)) partner command rest ends =
      no_room earlier command partner rest ends
  passed earlier (replies.Order (Err order_errors.Memory)) partner command rest ends = no_room earlier command partner rest ends
  passed earlier reply partner command rest ends = goes earlier rest ends

  found : (was earlier : List Made) (name partner : LegName) (command : Command MediaSpan) (rest : Rest)
      → earlier ≡ mades.Partner name (Some partner) ∷ was → Stands was (at (places.Finding name command) rest)
      → Stands earlier (at (places.Passing partner command) rest)
  found was earlier name partner (commands.Media span) rest named stands = (name, was, named, stands)
  found was earlier name partner command rest named stands = stands

  finding_left : (was : List Made) (name : LegName) (command : Command MediaSpan) (rest : Rest)
      → Stands was (at (places.Finding name command) rest) → Ends waiting rest.onward
  finding_left was name (commands.Media span) rest stands = one_less (name, signals.Media span) rest.onward waiting stands
  finding_left was name command rest stands = stands

  passing_left : (was : List Made) (partner : LegName) (command : Command MediaSpan) (rest : Rest)
      → Stands was (at (places.Passing partner command) rest) → Ends waiting rest.onward
  passing_left was partner (commands.Media span) rest stands =
      one_less (stands.0, signals.Media span) rest.onward waiting stands.3
  passing_left was partner command rest stands = stands

  -- at each place of the call
  pub stays : (was earlier : List Made) (place : Place) (reply : Reply) (rest : Rest) → hands reply ≡ false
      → Names octets reply place was earlier
      → Stands was (at place rest) → Stands earlier (told_at place reply rest)
  stays was earlier (places.Datagram first) (replies.Datagram (Ok heard)) rest quiet names stands =
      let same : true ≡ false = quiet in cc
  stays was earlier (places.Datagram first) (replies.Datagram (Err peer_errors.NeedsNumber)) rest quiet names stands =
      let note : ℕ → Made = λ place. mades.Datagram place octets names.0 (Err peer_errors.NeedsNumber) names.1 in
      let needed : earlier ≡ note peer ∷ [] =
      names.2 ∙ ap (λ (place : ℕ). note place ∷ was) stands.0 ∙ ap (λ (before : List Made). note peer ∷ before) stands.1 in
      (stands.0, (names.0, names.1, needed), stands.2)
  stays was earlier (places.Datagram first) reply rest quiet names stands = none_left waiting
  stays was earlier (places.ReserveIn first) (replies.Reserve (Ok name)) rest quiet names stands =
      let note : ℕ → Made = λ place. mades.Reserve place (Ok name) in
      let here : earlier ≡ note peer ∷ was = names ∙ ap (λ (place : ℕ). note place ∷ was) stands.0 in
      let needed : NeededName peer octets earlier name = record {
        now = stands.1.0;
        onwards = stands.1.1;
        needed = here ∙ ap (λ (before : List Made). note peer ∷ before) stands.1.2;
      } in
      (needed, stands.2)
  stays was earlier (places.ReserveIn first) (replies.Reserve (Err reserve_errors.NoNumber)) rest quiet names stands =
      no_more rest.onward waiting stands.2
  stays was earlier (places.ReserveIn first) reply rest quiet names stands = none_left waiting
  stays was earlier (places.RejectNew first) reply rest quiet names stands = none_left waiting
  stays was earlier (places.OpenIn name) (replies.OpenIn (Ok heard)) rest quiet names stands =
      let same : true ≡ false = quiet in cc
  stays was earlier (places.OpenIn name) reply rest quiet names stands = no_more rest.onward waiting stands.1
  stays was earlier (places.GiveBack name) reply rest quiet names stands = none_left waiting
  stays was earlier (places.Routing offered) (replies.Route (routes.To other format)) rest quiet names stands = stands
  stays was earlier (places.Routing offered) (replies.Route routes.WithoutFormat) rest quiet names stands = stands
  stays was earlier (places.Routing offered) (replies.Route routes.BadNumber) rest quiet names stands = stands
  stays was earlier (places.Routing offered) reply rest quiet names stands = stands
  stays was earlier (places.Rejecting offered cause) (replies.Order (Ok done)) rest quiet names stands = goes earlier rest stands
  stays was earlier (places.Rejecting offered cause) reply rest quiet names stands = stands
  stays was earlier (places.ReserveOut offered other format) (replies.Reserve (Ok target)) rest quiet names stands = stands
  stays was earlier (places.ReserveOut offered other format) reply rest quiet names stands = stands
  stays was earlier (places.Bridging offered target format) (replies.Bridge (Ok done)) rest quiet names stands = stands
  stays was earlier (places.Bridging offered target format) reply rest quiet names stands = stands
  stays was earlier (places.Accepting offered target format) (replies.Order (Ok done)) rest quiet names stands = stands
  stays was earlier (places.Accepting offered target format) reply rest quiet names stands = stands
  stays was earlier (places.OpenOut offered target) (replies.OpenOut (Ok done)) rest quiet names stands = stands
  stays was earlier (places.OpenOut offered target) reply rest quiet names stands = stands
  stays was earlier (places.Checking target) (replies.Partner (Some partner)) rest quiet names stands = goes earlier rest stands
  stays was earlier (places.Checking target) reply rest quiet names stands = stands
  stays was earlier (places.Undoing offered target) reply rest quiet names stands = stands
  stays was earlier (places.Dooming name cause) reply rest quiet names stands = goes earlier rest stands
  stays was earlier (places.Finding name command) (replies.Partner (Some partner)) rest quiet names stands =
      found was earlier name partner command rest names stands
  stays was earlier (places.Finding name command) reply rest quiet names stands =
      goes earlier rest (finding_left was name command rest stands)
  stays was earlier (places.Passing partner command) reply rest quiet names stands =
      passed earlier reply partner command rest (passing_left was partner command rest stands)
  stays was earlier (places.Looking name) reply rest quiet names stands = looked earlier reply name rest stands
  stays was earlier (places.LookingAt other number) (replies.Look (Some status)) rest quiet names stands =
      looks_at earlier status.name status.owes status.cause rest stands
  stays was earlier (places.LookingAt other number) reply rest quiet names stands = goes earlier rest stands
  stays was earlier (places.FindingPartner name cause) (replies.Partner (Some partner)) rest quiet names stands = stands
  stays was earlier (places.FindingPartner name cause) reply rest quiet names stands = stands
  stays was earlier (places.HangingUp name partner cause) (replies.Order (Ok done)) rest quiet names stands = stands
  stays was earlier (places.HangingUp name partner cause) (replies.Order (Err order_errors.Gone)) rest quiet names stands = stands
  stays was earlier (places.HangingUp name partner cause) (replies.Order (Err order_errors.WrongStage)) rest quiet names stands =
      stands
  stays was earlier (places.HangingUp name partner cause) reply rest quiet names stands = stands
  stays was earlier (places.Paying name cause) reply rest quiet names stands = stands
  stays was earlier (places.Retiring name cause) (replies.Retire true) rest quiet names stands = stands
  stays was earlier (places.Retiring name cause) reply rest quiet names stands = goes earlier rest stands
  stays was earlier (places.Freeing name cause) (replies.Release (Ok (Some partner))) rest quiet names stands = stands
  stays was earlier (places.Freeing name cause) reply rest quiet names stands = goes earlier rest stands
  stays was earlier (places.Tick other) (replies.Tick (Ok false)) rest quiet names stands = goes earlier rest stands
  stays was earlier (places.Tick other) (replies.Tick (Ok true)) rest quiet names stands = none_left waiting
  stays was earlier (places.Tick other) reply rest quiet names stands = none_left waiting
  stays was earlier (places.HangUp name) (replies.Order (Ok done)) rest quiet names stands = goes earlier rest stands
  stays was earlier (places.HangUp name) reply rest quiet names stands = none_left waiting
  stays was earlier (places.ReserveCall other) (replies.Reserve (Ok name)) rest quiet names stands = stands
  stays was earlier (places.ReserveCall other) reply rest quiet names stands = none_left waiting
  stays was earlier (places.OpenCall name) (replies.OpenOut (Ok done)) rest quiet names stands = none_left waiting
  stays was earlier (places.OpenCall name) reply rest quiet names stands = stands
  stays was earlier places.End reply rest quiet names stands = none_left waiting

-- ---- the place of a need

pub datagram_place : (place : Place) (peer : ℕ) → next_at place ≡ Some (needs.Datagram peer) → place ≡ places.Datagram peer
datagram_place (places.Datagram first) peer is = cc
datagram_place place peer is = cc

pub open_place : (place : Place) (name : LegName) → next_at place ≡ Some (needs.OpenIn name) → place ≡ places.OpenIn name
open_place (places.OpenIn opened) name is = cc
open_place place name is = cc

pub media_place : (place : Place) (name : LegName) (span : MediaSpan) → next_at place
    ≡ Some (needs.Order name (commands.Media span))
    → place ≡ places.Passing name (commands.Media span)
media_place (places.Passing partner command) name span is = cc
media_place place name span is = cc

pub names_partner : (place : Place) (leg : LegName) (answer : Option LegName) → next_at place ≡ Some (needs.Partner leg)
    → (octets : List ℕ) (was : List Made) → Names octets (replies.Partner answer) place was (mades.Partner leg answer ∷ was)
names_partner (places.Finding asked command) leg (Some partner) is octets was = cc
names_partner place leg None is octets was = tt
names_partner place leg (Some partner) is octets was = tt

pub names_reserved : (place : Place) (peer : ℕ) (answer : Result LegName ReserveError) → next_at place ≡ Some (needs.Reserve peer)
    → (octets : List ℕ) (was : List Made) → Names octets (replies.Reserve answer) place was (mades.Reserve peer answer ∷ was)
names_reserved (places.ReserveIn first) peer (Ok name) is octets was = cc
names_reserved place peer (Ok name) is octets was = tt
names_reserved place peer (Err error) is octets was = tt

pub names_needed : (first : ℕ) (octets received : List ℕ) (now : ℕ) (error : PeerError) (onwards : HandedUp)
    (was : List Made) → received ≡ octets → Names octets (replies.Datagram (Err error)) (places.Datagram first) was
    (mades.Datagram first received now (Err error) onwards ∷ was)
names_needed first octets received now peer_errors.NeedsNumber onwards was is =
    (now, onwards, ap (λ (o : List ℕ). mades.Datagram first o now (Err peer_errors.NeedsNumber) onwards ∷ was) is)
names_needed first octets received now error onwards was is = tt
