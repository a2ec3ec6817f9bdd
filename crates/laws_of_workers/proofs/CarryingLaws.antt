-- Each order of media in the notes of a datagram's call passes on what a leg handed up in that call.
use Rattle.std.proofs.Common.{◌≡◌, ℕ, Bool, true, false, List, [], ◌∷◌, ◌++◌, Option, Some, Ok, Err, refl, sym, ap, subst, ◌∙◌}
use Rattle.std.proofs.Common.{inl, inr, arith}
use Rattle.std.specs.List.{AllByRecursion}
use Rattle.call_book.specs.declared.leg_name.LegName.{LegName}
use Rattle.call_signals.specs.Order.{kind_of, media_over, Kind}
use Rattle.call_signals.specs.declared.order.Command.TheVariants as commands
use Rattle.call_signals.specs.declared.signal.MediaSpan.{MediaSpan}
use Rattle.call_signals.specs.declared.signal.Signal.{Signal}
use Rattle.call_signals.specs.declared.signal.Signal.TheVariants as signals
use Rattle.call_control.specs.Work.{Rest, Work, after_told, at, advance, next_of, of_call, of_datagram, of_hang_up, of_tick}
use Rattle.call_control.specs.Work.{told_at}
use Rattle.call_control.specs.WorkState.{WorkState, begun, offer_in}
use Rattle.call_signals.specs.declared.order.Command.{Command}
use Rattle.call_control.specs.declared.need.Need.{Need}
use Rattle.call_control.specs.declared.need.Need.TheVariants as needs
use Rattle.call_control.specs.declared.place.Place.{Place}
use Rattle.call_control.specs.declared.place.Place.TheVariants as places
use Rattle.call_control.specs.declared.reply.Reply.{Reply}
use Rattle.call_control.specs.declared.reply.Reply.TheVariants as replies
use Rattle.exchange_core.specs.Traces.{Call, IsHeard, IsMade, IsTrace, IsUnasked, done_of, told}
use Rattle.step_log.specs.Notes.{Noted}
use Rattle.step_log.specs.declared.made.Made.{Made}
use Rattle.step_log.specs.declared.made.Made.TheVariants as mades
use Rattle.peer_lock.specs.HandedUp.{HandedUp}
use Rattle.peer_plan.specs.Plan.{PlanView}
use Rattle.peer_plan.specs.declared.endpoint.Endpoint.{Endpoint}
use Rattle.udp_wires.specs.Parcels.{Parcel}
use Rattle.laws_of_workers.specs.Carried.{AllCarry, Carries, CarriesAt, IsItsCall, IsNoMedia, PassesOn}
use Rattle.udp_workers.specs.Intake.{TakesAll, TurnView}
use Rattle.laws_of_workers.proofs.CarriedPlaces.{Names, Pends, Signals, Stands, all_left, datagram_place, goes, hands}
use Rattle.laws_of_workers.proofs.CarriedPlaces.{media_place}
use Rattle.laws_of_workers.proofs.CarriedPlaces.{names_needed, names_partner, names_reserved, open_place, passed, stays}

-- ---- one step

-- an answer that was given without a locked state
record IsQuiet (reply : Reply) : Type 0 where
  quiet : hands reply ≡ false
  names : (octets : List ℕ) (place : Place) (was earlier : List Made) → Names octets reply place was earlier

quiet_is : (reply answer : Reply) → reply ≡ answer → IsQuiet answer → IsQuiet reply
quiet_is reply answer is quiet = subst IsQuiet (sym is) quiet

unasked_quiet : (call : Call) (handed : Option HandedUp) (need : Need) (reply : Reply)
    → IsUnasked call (offer_in handed) need reply → IsQuiet reply
unasked_quiet call handed (needs.OpenOut name) reply is =
    quiet_is reply _ is.0 (record { quiet = refl; names = λ octets place was earlier. tt })
unasked_quiet call handed (needs.Order name command) reply is =
    quiet_is reply _ is.0 (record { quiet = refl; names = λ octets place was earlier. tt })
unasked_quiet call handed (needs.Look peer number) reply is =
    quiet_is reply _ is.0 (record { quiet = refl; names = λ octets place was earlier. tt })
unasked_quiet call handed (needs.Retire name) reply is =
    quiet_is reply _ is.0 (record { quiet = refl; names = λ octets place was earlier. tt })
unasked_quiet call handed (needs.Route name) (replies.Route route) is =
    record { quiet = refl; names = λ octets place was earlier. tt }
unasked_quiet call handed (needs.Route name) reply is = absurd is
unasked_quiet call handed need reply is = absurd is

media_command : (command : Command MediaSpan) → commands.Media tt ≡ kind_of command
    → (span : MediaSpan) × (command ≡ commands.Media span)
media_command (commands.Media span) is = (span, refl)
media_command command is = cc

abbrev is_media : Kind → Bool
is_media (commands.Media _) = true
is_media kind = false

no_media : (command : Command MediaSpan) (kind : Kind) (octets : List ℕ) → kind ≡ kind_of command → is_media kind ≡ false
    → media_over command octets ≡ []
no_media (commands.Media span) kind octets is other = let same : true ≡ false = sym (ap is_media is) ∙ other in cc
no_media command kind octets is other = refl

-- what follows from an answer at a place
told_so : (P : Work → Type 0) (work : Work) (place : Place) (reply answer : Reply) → work.place ≡ place → reply ≡ answer
    → P (told_at place answer work.rest) → P (after_told work reply)
told_so P work place reply answer at_place is so =
    subst (λ (q : Place). P (told_at q reply work.rest)) (sym at_place)
    (subst (λ (r : Reply). P (told_at place r work.rest)) (sym is) so)

module _ (call : Call) (peer : ℕ) where
  abbrev Here : Signals → List Made → Work → Type 0
  Here waiting earlier work = Stands peer call.octets waiting earlier work

  -- after a note, and the answer to its step
  abbrev Follows : List Made → Signals → Made → Work → Type 0
  Follows earlier waiting note work =
      (further : Signals) × CarriesAt peer call.octets earlier waiting note further × Here further (note ∷ earlier) work

  -- an answer that hands nothing up
  kept : (was earlier : List Made) (waiting : Signals) (work : Work) (reply answer : Reply) → reply ≡ answer
      → hands answer ≡ false → Names call.octets answer work.place was earlier → Here waiting was work
      → Here waiting earlier (after_told work reply)
  kept was earlier waiting work reply answer is quiet names stands =
      subst (λ (r : Reply). Here waiting earlier (after_told work r)) (sym is)
      (stays peer call.octets waiting was earlier work.place answer work.rest quiet names stands)

  -- the same at its place
  there : (waiting : Signals) (earlier : List Made) (work : Work) (place : Place) → work.place ≡ place
      → Here waiting earlier work → Here waiting earlier (at place work.rest)
  there waiting earlier work place is stands =
      subst (λ (q : Place). Pends peer call.octets waiting earlier q work.rest.onward) is stands

  -- what an answer hands up is passed on
  heard : (notes : List Made) (rest : Rest) (onwards : HandedUp) (touched : Option LegName)
      → Here onwards.signals notes (advance (record rest { onward = onwards.signals; touched = touched }))
  heard notes rest onwards touched =
      goes peer call.octets onwards.signals notes (record rest { onward = onwards.signals; touched = touched })
      (all_left onwards.signals)

  -- the next note of a call, at its place
  carries_at : (handed : Option HandedUp) (need : Need) (reply : Reply) (step : Made) (work : Work) (earlier : List Made)
      (waiting : Signals) → next_of work ≡ Some need → IsMade call (offer_in handed) need reply step
      → Here waiting earlier work → Follows earlier waiting step (after_told work reply)
  carries_at handed need reply (mades.Datagram first received now (Ok step) onwards) work earlier waiting next made stands =
      let notes = mades.Datagram first received now (Ok step) onwards ∷ earlier in
      let here : work.place ≡ places.Datagram first = datagram_place work.place first (next ∙ ap Some made.0) in
      let stood = there waiting earlier work (places.Datagram first) here stands in (
        onwards.signals,
        (stood.0, made.2, stood.1, refl),
        told_so (Here onwards.signals notes) work (places.Datagram first) reply _ here made.1
            (heard notes work.rest onwards step.touched),
      )
  carries_at handed need reply (mades.Datagram first received now (Err error) onwards) work earlier waiting next made stands =
      let notes = mades.Datagram first received now (Err error) onwards ∷ earlier in
      let here : work.place ≡ places.Datagram first = datagram_place work.place first (next ∙ ap Some made.0) in
      let stood = there waiting earlier work (places.Datagram first) here stands in
      let names = names_needed first call.octets received now error onwards earlier made.2 in (
        [],
        (stood.0, made.2, stood.1, refl),
        told_so (Here [] notes) work (places.Datagram first) reply (replies.Datagram (Err error)) here made.1
            (stays peer call.octets [] earlier notes (places.Datagram first) (replies.Datagram (Err error)) work.rest refl names
            stood),
      )
  carries_at handed need reply (mades.OpenIn first name head payload now challenge (Ok step) onwards) work earlier waiting
      next made stands =
      let notes = mades.OpenIn first name head payload now challenge (Ok step) onwards ∷ earlier in
      let here : work.place ≡ places.OpenIn name = open_place work.place name (next ∙ ap Some made.0) in
      let stood = there waiting earlier work (places.OpenIn name) here stands in (
        onwards.signals,
        (made.2, stood.0, refl),
        told_so (Here onwards.signals notes) work (places.OpenIn name) reply _ here made.1
            (heard notes work.rest onwards step.touched),
      )
  carries_at handed need reply (mades.OpenIn first name head payload now challenge (Err error) onwards) work earlier waiting
      next made stands =
      let notes = mades.OpenIn first name head payload now challenge (Err error) onwards ∷ earlier in
      let here : work.place ≡ places.OpenIn name = open_place work.place name (next ∙ ap Some made.0) in
      let stood = there waiting earlier work (places.OpenIn name) here stands in (
        [],
        (made.2, stood.0, refl),
        told_so (Here [] notes) work (places.OpenIn name) reply (replies.OpenIn (Err error)) here made.1
            (stays peer call.octets [] earlier notes (places.OpenIn name) (replies.OpenIn (Err error)) work.rest refl tt stood),
      )
  carries_at handed need reply (mades.Order place name (commands.Media tt) media now answer) work earlier waiting next made
      stands =
      let notes = mades.Order place name (commands.Media tt) media now answer ∷ earlier in
      let carried = media_command made.0 made.4 in
      let passing = places.Passing name (commands.Media carried.0) in
      let here : work.place ≡ places.Passing name (commands.Media carried.0) =
      media_place work.place name carried.0
      (next ∙ ap Some (made.1 ∙ ap (λ (command : Command MediaSpan). needs.Order name command) carried.1)) in
      let stood = there waiting earlier work (places.Passing name (commands.Media carried.0)) here stands in
      let passes : PassesOn call.octets earlier waiting work.rest.onward name media = record {
        leg = stood.0;
        span = carried.0;
        passed_over = stood.3.0;
        waits = stood.3.1;
        before = stood.1;
        named = stood.2;
        media_is = made.5 ∙ ap (λ (command : Command MediaSpan). media_over command call.octets) carried.1;
      } in (
        work.rest.onward,
        (made.3, passes),
        told_so (Here work.rest.onward notes) work passing reply (replies.Order (done_of answer)) here made.2
            (passed peer call.octets work.rest.onward notes (replies.Order (done_of answer)) name (commands.Media carried.0)
            work.rest (all_left work.rest.onward)),
      )
  carries_at handed need reply (mades.Order place name kind media now answer) work earlier waiting next made stands = (
    waiting,
    (made.5 ∙ no_media made.0 kind call.octets made.4 refl, refl),
    kept earlier _ waiting work reply (replies.Order (done_of answer)) made.2 refl tt stands,
  )
  carries_at handed need reply (mades.Partner leg answer) work earlier waiting next made stands =
      let names = names_partner work.place leg answer (next ∙ ap Some made.0) call.octets earlier in
      (waiting, refl, kept earlier _ waiting work reply (replies.Partner answer) made.1 refl names stands)
  carries_at handed need reply (mades.Reserve first answer) work earlier waiting next made stands =
      let names = names_reserved work.place first answer (next ∙ ap Some made.0) call.octets earlier in
      (waiting, refl, kept earlier _ waiting work reply (replies.Reserve answer) made.1 refl names stands)
  carries_at handed need reply (mades.TakeOut first out) work earlier waiting next made stands = absurd made
  carries_at handed need reply (mades.SetDraining first drains) work earlier waiting next made stands = absurd made
  carries_at handed need reply (mades.Describe first number answer) work earlier waiting next made stands = absurd made
  carries_at handed need reply (mades.DescribeFrom first number answer) work earlier waiting next made stands = absurd made
  carries_at handed need reply (mades.CountLegs first count) work earlier waiting next made stands = absurd made
  carries_at handed need reply (mades.ShowSums first sums) work earlier waiting next made stands = absurd made
  carries_at handed need reply (mades.ShowLost first lost) work earlier waiting next made stands = absurd made
  carries_at handed need reply (mades.ShowPokes first pokes) work earlier waiting next made stands = absurd made
  carries_at handed need reply (mades.NextSerial serial) work earlier waiting next made stands = absurd made
  carries_at handed need reply mades.Unasked work earlier waiting next made stands =
      let quiet = unasked_quiet call handed need reply made in
      let names = quiet.names call.octets work.place earlier (mades.Unasked ∷ earlier) in
      (waiting, refl, kept earlier _ waiting work reply reply refl quiet.quiet names stands)
  carries_at handed need reply step work earlier waiting next made stands =
      (waiting, refl, kept earlier _ waiting work reply _ made.1 refl tt stands)

  -- ---- all notes of a call

  carries_from : (steps : List Made) (from to : WorkState) (earlier : List Made) (waiting : Signals) → IsTrace call from steps to
      → Here waiting earlier from.work → Carries peer call.octets earlier waiting steps
  carries_from [] from to earlier waiting trace stands = tt
  carries_from (step ∷ rest) from to earlier waiting trace stands =
      let one = carries_at from.onwards trace.0 trace.1 step from.work earlier waiting trace.2 trace.3 stands in
      (one.0, one.1, carries_from rest (told from trace.1) to (step ∷ earlier) one.0 trace.4 one.2)

  pub call_carries : (steps : List Made) (to : WorkState) → IsTrace call (begun (of_datagram peer)) steps to
      → Carries peer call.octets [] [] steps
  call_carries steps to trace = carries_from steps (begun (of_datagram peer)) to [] [] trace (refl, refl, refl)

-- ---- calls that no datagram begins

no_element : (skipped last : Signals) (up : LegName × Signal) → [] ≡ skipped ++ up ∷ last → ⊥
no_element [] last up is = cc
no_element (first ∷ skipped) last up is = cc

abbrev given_at : List Made → ℕ
given_at (mades.Reserve peer answer ∷ before) = peer
given_at before = 0

none_at : (octets : List ℕ) (earlier : List Made) (step : Made) (one other : Signals)
    → CarriesAt 0 octets earlier [] step one → CarriesAt 1 octets earlier [] step other
    → (one ≡ []) × (other ≡ []) × IsNoMedia step
none_at octets earlier (mades.Order place name (commands.Media tt) media now answer) one other carries also =
    absurd (no_element carries.1.passed_over one (carries.1.leg, signals.Media carries.1.span) carries.1.waits)
none_at octets earlier (mades.Order place name kind media now answer) one other carries also =
    (carries.1, also.1, ((λ same. let is = same in cc), carries.0))
none_at octets earlier (mades.Datagram place received now answer onwards) one other carries also =
    let differ : 0 ≡ 1 = sym carries.0 ∙ also.0 in absurd (omega (arith, differ))
none_at octets earlier (mades.OpenIn place name head payload now challenge answer onwards) one other carries also =
    let differ : 0 ≡ 1 = ap given_at (sym carries.1.needed ∙ also.1.needed) in absurd (omega (arith, differ))
none_at octets earlier step one other carries also = (carries, also, tt)

-- it would be the call of a datagram at any peer
none_from : (call : Call) (steps : List Made) (from to : WorkState) (earlier : List Made) → IsTrace call from steps to
    → Stands 0 call.octets [] earlier from.work → Stands 1 call.octets [] earlier from.work → AllByRecursion IsNoMedia steps
none_from call [] from to earlier trace stands also = tt
none_from call (step ∷ rest) from to earlier trace stands also =
    let one = carries_at call 0 from.onwards trace.0 trace.1 step from.work earlier [] trace.2 trace.3 stands in
    let other = carries_at call 1 from.onwards trace.0 trace.1 step from.work earlier [] trace.2 trace.3 also in
    let none = none_at call.octets earlier step one.0 other.0 one.1 other.1 in
    let work = after_told from.work trace.1 in (
      none.2,
      none_from call rest (told from trace.1) to (step ∷ earlier) trace.4
          (subst (λ (waiting : Signals). Stands 0 call.octets waiting (step ∷ earlier) work) none.0 one.2)
          (subst (λ (waiting : Signals). Stands 1 call.octets waiting (step ∷ earlier) work) none.1 other.2),
    )

pub ticks_carry_none : (call : Call) (peer first count : ℕ) (steps : List Made) (to : WorkState)
    → IsTrace call (begun (of_tick peer first count)) steps to → AllByRecursion IsNoMedia steps
ticks_carry_none call peer first count steps to trace =
    none_from call steps (begun (of_tick peer first count)) to [] trace (all_left []) (all_left [])

pub calls_carry_none : (call : Call) (peer : ℕ) (steps : List Made) (to : WorkState)
    → IsTrace call (begun (of_call peer)) steps to → AllByRecursion IsNoMedia steps
calls_carry_none call peer steps to trace =
    none_from call steps (begun (of_call peer)) to [] trace (all_left []) (all_left [])

pub hang_ups_carry_none : (call : Call) (name : LegName) (steps : List Made) (to : WorkState)
    → IsTrace call (begun (of_hang_up name)) steps to → AllByRecursion IsNoMedia steps
hang_ups_carry_none call name steps to trace =
    none_from call steps (begun (of_hang_up name)) to [] trace (all_left []) (all_left [])

-- ---- datagrams

pub heard_carries : (plan : PlanView) (from : Endpoint) (call : Call) (old new : Noted) → IsHeard plan from call old new
    → IsItsCall plan from call.octets old new
heard_carries plan from call old new (inl stranger) = inl stranger.1
heard_carries plan from call old new (inr known) =
    let traces = known.2.traces in
    inr (
      known.0,
      known.1,
      record {
        notes = traces.steps;
        noted = traces.noted;
        carries = call_carries call known.0 traces.steps known.2.to traces.trace;
      },
    )

pub all_carry : (plan : PlanView) (turn : TurnView) (arrivals : List Parcel) (old new : Noted)
    → TakesAll plan turn arrivals old new → AllCarry plan turn.stage arrivals old new
all_carry plan turn [] old new takes = takes
all_carry plan turn (arrival ∷ before) old new takes = (
  takes.0,
  all_carry plan turn before old takes.0 takes.1,
  record {
    away = takes.2.away;
    heard = elim takes.2.heard [
      | inl away ↦ inl away
      | inr heard ↦ inr (heard_carries plan arrival.endpoint _ takes.0 new heard)
    ];
  },
)
