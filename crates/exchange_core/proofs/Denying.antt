-- The denial in a call's steps, and after one more step.
use Rattle.std.specs.Option.{option_or, unwrap_or}
use Rattle.std.specs.Prelude.{◌≡◌, ℕ, zero, suc, ◌+◌, ◌≤◌, List, [], ◌∷◌, ◌++◌, Bool, true, false, Option, None, Some, Ok, Err}
use Rattle.std.specs.Prelude.{IsSome, refl}
use Rattle.std.specs.Prelude.{◌≢◌, All, MatchOption, is_some, length, option_copied, option_map, slice_get}
use Rattle.std.proofs.Common.{Bor, append_assoc, append-nil, ap, arith, sym, ◌∙◌, inl, inr}
use Rattle.call_book.specs.declared.errors.ReserveError.TheVariants as reserve_errors
use Rattle.call_control.specs.Beginnings.{Beginning, OfCall, OfDatagram, OfHangUp, OfTick, beginning_at, is_answer, is_made}
use Rattle.call_control.specs.Beginnings.{is_over, is_refusal}
use Rattle.call_control.specs.Work.{Rest, Work, after_told, at, next_at, next_of, told_at}
use Rattle.call_control.specs.declared.need.Need.{Need}
use Rattle.call_control.specs.declared.need.Need.TheVariants as needs
use Rattle.call_control.specs.declared.place.Place.{Place}
use Rattle.call_control.specs.declared.place.Place.TheVariants as places
use Rattle.call_control.specs.declared.reply.Reply.{Reply}
use Rattle.call_control.specs.declared.reply.Reply.TheVariants as replies
use Rattle.step_log.specs.Notes.{Noted, steps_in, steps_of}
use Rattle.step_log.specs.declared.made.Made.{Made}
use Rattle.step_log.specs.declared.made.Made.TheVariants as mades
use Rattle.peer_accounts.specs.declared.onwards.Offer.{Offer}
use Rattle.peer_lock.specs.declared.errors.PeerError.TheVariants as peer_errors
use Rattle.exchange_core.proofs.FirstSteps.{GoesOn, MadeIsPast, OverStays, PastStays, RefusedIsOver}
use Rattle.exchange_core.proofs.FirstPeers.{PlaceInPlan}
use Rattle.exchange_core.proofs.FirstSteps.{made_denies_nothing, over_is_past}
use Rattle.exchange_core.proofs.Tracing.{last_longer}
use Rattle.peer_plan.specs.declared.endpoint.Endpoint.{Endpoint}
use Rattle.peer_plan.specs.declared.peer.Peer.{Peer}
use Rattle.exchange_core.specs.Denial.{Denies, denial_by, denial_of, denied_by, noted, unless_made}
use Rattle.exchange_core.specs.Since.{last_of}
use Rattle.exchange_core.specs.Traces.{Call, IsMade, IsUnasked, Makes}
use Rattle.exchange_core.specs.declared.answers.Refusal.TheVariants as refusals
use Rattle.exchange_core.specs.declared.denial.Denial.{Denial}
use Rattle.exchange_core.specs.declared.denial.Denial.TheVariants as denials

-- the values of equal options are equal
unsome : {A : Type 0} {x y : A} → Some x ≡ Some y → x ≡ y
unsome {x = x} is = ap (λ o. unwrap_or o x) is

-- ---- one step

abbrev as_steps : Bool → ℕ
as_steps true = 1
as_steps false = 0

unasked_is_none : (call : Call) (offer : Option Offer) (need : Need) (reply : Reply) → IsUnasked call offer need reply
    → 0 ≡ as_steps (is_made reply)
unasked_is_none call offer (needs.OpenOut name) reply is = sym (ap (λ r. as_steps (is_made r)) is.0)
unasked_is_none call offer (needs.Order name command) reply is = sym (ap (λ r. as_steps (is_made r)) is.0)
unasked_is_none call offer (needs.Look peer number) reply is = sym (ap (λ r. as_steps (is_made r)) is.0)
unasked_is_none call offer (needs.Retire name) reply is = sym (ap (λ r. as_steps (is_made r)) is.0)
unasked_is_none call offer (needs.Route name) (replies.Route route) is = refl
unasked_is_none call offer need reply is = absurd is

-- it is noted as a step of a peer if its answer says so
steps_are : (call : Call) (offer : Option Offer) (need : Need) (reply : Reply) (step : Made) → IsMade call offer need reply step
    → steps_of step ≡ as_steps (is_made reply)
steps_are call offer need reply (mades.Datagram peer octets now (Ok step) onwards) made =
    sym (ap (λ r. as_steps (is_made r)) made.1)
steps_are call offer need reply (mades.Datagram peer octets now (Err error) onwards) made =
    sym (ap (λ r. as_steps (is_made r)) made.1)
steps_are call offer need reply (mades.OpenIn peer name head payload now challenge (Ok step) onwards) made =
    sym (ap (λ r. as_steps (is_made r)) made.1)
steps_are call offer need reply (mades.OpenIn peer name head payload now challenge (Err error) onwards) made =
    sym (ap (λ r. as_steps (is_made r)) made.1)
steps_are call offer need reply (mades.RejectNew peer head payload (Ok step)) made = sym (ap (λ r. as_steps (is_made r)) made.1)
steps_are call offer need reply (mades.RejectNew peer head payload (Err error)) made = sym (ap (λ r. as_steps (is_made r)) made.1)
steps_are call offer need reply (mades.OpenOut peer name called caller format now (Ok step)) made =
    sym (ap (λ r. as_steps (is_made r)) made.1)
steps_are call offer need reply (mades.OpenOut peer name called caller format now (Err error)) made =
    sym (ap (λ r. as_steps (is_made r)) made.1)
steps_are call offer need reply (mades.Order peer name kind media now (Ok step)) made =
    sym (ap (λ r. as_steps (is_made r)) made.2)
steps_are call offer need reply (mades.Order peer name kind media now (Err error)) made =
    sym (ap (λ r. as_steps (is_made r)) made.2)
steps_are call offer need reply (mades.Tick peer now (Ok report)) made = sym (ap (λ r. as_steps (is_made r)) made.1)
steps_are call offer need reply (mades.Tick peer now (Err spent)) made = sym (ap (λ r. as_steps (is_made r)) made.1)
steps_are call offer need reply (mades.Look peer number answer) made = sym (ap (λ r. as_steps (is_made r)) made.1)
steps_are call offer need reply (mades.Retire peer name answer) made = sym (ap (λ r. as_steps (is_made r)) made.1)
steps_are call offer need reply (mades.Reserve peer answer) made = sym (ap (λ r. as_steps (is_made r)) made.1)
steps_are call offer need reply (mades.Bridge one other answer) made = sym (ap (λ r. as_steps (is_made r)) made.1)
steps_are call offer need reply (mades.Partner name answer) made = sym (ap (λ r. as_steps (is_made r)) made.1)
steps_are call offer need reply (mades.Release name answer) made = sym (ap (λ r. as_steps (is_made r)) made.1)
steps_are call offer need reply mades.Unasked made = unasked_is_none call offer need reply made
steps_are call offer need reply step made = absurd made

-- if a locked state was asked, it is noted as the answer denies the call
denial_is : (call : Call) (offer : Option Offer) (need : Need) (reply : Reply) (step : Made) → IsMade call offer need reply step
    → (IsUnasked call offer need reply → ⊥) → denial_by step ≡ denial_of reply
denial_is call offer need reply (mades.Datagram peer octets now (Ok step) onwards) made asked = sym (ap denial_of made.1)
denial_is call offer need reply (mades.Datagram peer octets now (Err error) onwards) made asked = sym (ap denial_of made.1)
denial_is call offer need reply (mades.OpenIn peer name head payload now challenge (Ok step) onwards) made asked =
    sym (ap denial_of made.1)
denial_is call offer need reply (mades.OpenIn peer name head payload now challenge (Err error) onwards) made asked =
    sym (ap denial_of made.1)
denial_is call offer need reply (mades.RejectNew peer head payload (Ok step)) made asked = sym (ap denial_of made.1)
denial_is call offer need reply (mades.RejectNew peer head payload (Err error)) made asked = sym (ap denial_of made.1)
denial_is call offer need reply (mades.OpenOut peer name called caller format now (Ok step)) made asked =
    sym (ap denial_of made.1)
denial_is call offer need reply (mades.OpenOut peer name called caller format now (Err error)) made asked =
    sym (ap denial_of made.1)
denial_is call offer need reply (mades.Order peer name kind media now (Ok step)) made asked = sym (ap denial_of made.2)
denial_is call offer need reply (mades.Order peer name kind media now (Err error)) made asked = sym (ap denial_of made.2)
denial_is call offer need reply (mades.Tick peer now (Ok report)) made asked = sym (ap denial_of made.1)
denial_is call offer need reply (mades.Tick peer now (Err spent)) made asked = sym (ap denial_of made.1)
denial_is call offer need reply (mades.Look peer number answer) made asked = sym (ap denial_of made.1)
denial_is call offer need reply (mades.Retire peer name answer) made asked = sym (ap denial_of made.1)
denial_is call offer need reply (mades.Reserve peer (Ok name)) made asked = sym (ap denial_of made.1)
denial_is call offer need reply (mades.Reserve peer (Err error)) made asked = sym (ap denial_of made.1)
denial_is call offer need reply (mades.Bridge one other answer) made asked = sym (ap denial_of made.1)
denial_is call offer need reply (mades.Partner name answer) made asked = sym (ap denial_of made.1)
denial_is call offer need reply (mades.Release name answer) made asked = sym (ap denial_of made.1)
denial_is call offer need reply mades.Unasked made asked = absurd (asked made)
denial_is call offer need reply step made asked = absurd made

-- ---- strangers

no_stranger : (begun : Option Beginning) → Denies begun (denials.Call refusals.Stranger) → ⊥
no_stranger (Some OfDatagram) denies = denies
no_stranger (Some OfTick) denies = denies
no_stranger (Some OfCall) denies = denies
no_stranger (Some OfHangUp) denies = denies
no_stranger None denies = denies

-- no step of a call says that its sender is a stranger
pub never_stranger : (A B : Type 0) (begun : Option Beginning) (denial : Option Denial)
    → MatchOption denial A (λ why. B × Denies begun why)
    → denial ≡ Some (denials.Call refusals.Stranger) → ⊥
never_stranger A B begun None may is = cc
never_stranger A B begun (Some (denials.Call refusals.Stranger)) may is = no_stranger begun may.1
never_stranger A B begun (Some why) may is = cc

-- a peer that has the endpoint is among those of the plan
pub found_among : (peers : List Peer) (place : ℕ) (from : Endpoint) → option_map (λ peer. peer.endpoint) (slice_get peers place)
    ≡ Some from
    → All (λ peer. peer.endpoint ≢ from) peers → ⊥
found_among [] place from found all = cc
found_among (peer ∷ peers) zero from found all = all 0 peer (omega arith) (unsome found)
found_among (peer ∷ peers) (suc place) from found all = found_among peers place from found
    (λ k d within. all (suc k) d (omega (arith, within)))

-- ---- at a place

-- a number that is called was given
abbrev pub CalledIsGiven : Call → Place → Type 0
CalledIsGiven call place = beginning_at place ≡ Some OfCall → IsSome call.called

pub some_copied : {A : Type 0} (called : Option (Bor A)) → IsSome called → IsSome (option_copied called)
some_copied None some = absurd (cc)
some_copied (Some text) some = refl

called_is_some : {A : Type 0} (called : Option A) → IsSome called → called ≡ None → ⊥
called_is_some None some is = absurd (cc)
called_is_some (Some text) some is = absurd (cc)

-- the peer of an order, or of a leg that is opened
abbrev peer_needed : Option Need → ℕ
peer_needed (Some (needs.Order name command)) = name.peer
peer_needed (Some (needs.OpenOut name)) = name.peer
peer_needed need = 0

-- a first step at a peer of the plan asks a locked state
asked_first : (call : Call) (offer : Option Offer) (place : Place) (need : Need) (reply : Reply) → next_at place ≡ Some need
    → is_some (beginning_at place) ≡ true → PlaceInPlan (length call.plan.peers) place → CalledIsGiven call place
    → IsUnasked call offer need reply → ⊥
asked_first call offer (places.Datagram peer) (needs.Datagram other) reply next first within given unasked = unasked
asked_first call offer (places.ReserveIn peer) (needs.Reserve other) reply next first within given unasked = unasked
asked_first call offer (places.RejectNew peer) (needs.RejectNew other) reply next first within given unasked = unasked
asked_first call offer (places.OpenIn name) (needs.OpenIn other) reply next first within given unasked = unasked
asked_first call offer (places.Tick peer) (needs.Tick other) reply next first within given unasked = unasked
asked_first call offer (places.ReserveCall peer) (needs.Reserve other) reply next first within given unasked = unasked
asked_first call offer (places.HangUp name) (needs.Order other command) reply next first within given unasked =
    let peer = ap peer_needed next in let most = unasked.1 in absurd (omega (arith, within, most, peer))
asked_first call offer (places.OpenCall name) (needs.OpenOut other) reply next first within given unasked =
    let peer = ap peer_needed next in elim unasked.1 [
      | inl most ↦ absurd (omega (arith, within, most, peer))
      | inr lacks ↦ called_is_some call.called (given refl) lacks.0
    ]
asked_first call offer place need reply next first within given unasked = absurd (cc)

-- a lease that is returned asks the book
asked_over : (call : Call) (offer : Option Offer) (place : Place) (need : Need) (reply : Reply) → next_at place ≡ Some need
    → is_over place ≡ true
    → IsUnasked call offer need reply → ⊥
asked_over call offer (places.GiveBack name) (needs.Release other) reply next over unasked = unasked
asked_over call offer place need reply next over unasked = absurd (cc)

-- the rest of a refused call makes no step, and isn't refused
over_denies_none : (place : Place) (reply : Reply) → is_over place ≡ true → is_answer (next_at place) reply ≡ true
    → (is_made reply ≡ false) × (denial_of reply ≡ None)
over_denies_none (places.GiveBack name) (replies.Release answer) over answers = (refl, refl)
over_denies_none place reply over answers = absurd (cc)

-- a NEW is rejected here
abbrev pub is_rejecting : Place → Bool
is_rejecting (places.RejectNew peer) = true
is_rejecting place = false

-- its rejection is made, or denies the call
rejecting_denies : (place : Place) (reply : Reply) → is_rejecting place ≡ true → is_answer (next_at place) reply ≡ true
    → is_made reply ≡ false
    → denial_of reply ≡ None → ⊥
rejecting_denies (places.RejectNew peer) (replies.RejectNew (Ok done)) here answers unmade none = cc
rejecting_denies (places.RejectNew peer) (replies.RejectNew (Err error)) here answers unmade none = cc
rejecting_denies place reply here answers unmade none = cc

-- a step that isn't refused denies nothing, unless it leads to a rejection
unrefused_denies_none : (place : Place) (reply : Reply) (rest : Rest) → is_refusal place reply ≡ false
    → is_rejecting (told_at place reply rest).place ≡ false
    → denial_of reply ≡ None
unrefused_denies_none place (replies.Datagram (Ok heard)) rest further clear = refl
unrefused_denies_none place (replies.Datagram (Err peer_errors.NeedsNumber)) rest further clear = refl
unrefused_denies_none place (replies.Datagram (Err error)) rest further clear = absurd (cc)
unrefused_denies_none place (replies.RejectNew (Err error)) rest further clear = absurd (cc)
unrefused_denies_none place (replies.OpenIn (Err error)) rest further clear = absurd (cc)
unrefused_denies_none place (replies.OpenOut (Err error)) rest further clear = absurd (cc)
unrefused_denies_none place (replies.Order (Err error)) rest further clear = absurd (cc)
unrefused_denies_none place (replies.Tick (Err spent)) rest further clear = absurd (cc)
unrefused_denies_none (places.ReserveIn peer) (replies.Reserve (Err reserve_errors.NoNumber)) rest further clear = absurd (cc)
unrefused_denies_none place (replies.Reserve (Err error)) rest further clear = absurd (cc)
unrefused_denies_none place reply rest further clear = refl

-- ---- through the steps of a call

-- the denial in the steps since then
pub record DeniedSince (first now : Noted) (place : Place) (denial : Option Denial) : Type 0 where
  pub steps : List Made
  pub noted : now.made ≡ first.made ++ steps
  pub denied : denial ≡ denied_by steps
  -- during the first steps no peer has made one
  pub begins : is_some (beginning_at place) ≡ true → steps_in steps ≡ 0
  -- .. and nothing is refused but the number of a NEW that is rejected
  pub clear : is_some (beginning_at place) ≡ true → is_rejecting place ≡ false → denial ≡ None
  -- after them a peer has made one, or the call is over
  pub over : is_some (beginning_at place) ≡ false → steps_in steps ≡ 0 → is_over place ≡ true

pub none_denied : (pass : Noted) (place : Place) → is_some (beginning_at place) ≡ true → DeniedSince pass pass place None
none_denied pass place first = record {
  steps = [];
  noted = sym (append-nil pass.made);
  denied = refl;
  begins = λ _. refl;
  clear = λ _ _. refl;
  over = λ past _. absurd (cc);
}

steps_longer : (steps : List Made) (step : Made) → steps_in (steps ++ step ∷ []) ≡ steps_in steps + steps_of step
steps_longer [] step = omega arith
steps_longer (first ∷ rest) step = let e = steps_longer rest step in omega arith

-- no step of a peer, or some, are made in one more
none_longer : (steps : List Made) (step : Made) (made : Bool) → steps_in steps ≡ 0 → steps_of step ≡ as_steps made → made ≡ false
    → steps_in (steps ++ step ∷ []) ≡ 0
none_longer steps step made none is unmade = let longer = steps_longer steps step in let zero = is ∙ ap as_steps unmade in
    omega (arith, longer, zero, none)

some_longer : (steps : List Made) (step : Made) → 1 ≤ steps_of step → 1 ≤ steps_in (steps ++ step ∷ [])
some_longer steps step some = let longer = steps_longer steps step in omega (arith, longer, some)

still_some : (steps : List Made) (step : Made) → 1 ≤ steps_in steps → 1 ≤ steps_in (steps ++ step ∷ [])
still_some steps step some = let longer = steps_longer steps step in omega (arith, longer, some)

made_by : (n : ℕ) (last : Option Denial) → 1 ≤ n → unless_made n last ≡ None
made_by zero last some = absurd (omega (arith, some))
made_by (suc n) last some = refl

denied_if_none : (steps : List Made) → steps_in steps ≡ 0 → denied_by steps ≡ last_of denial_by steps None
denied_if_none steps none = ap (λ n. unless_made n (last_of denial_by steps None)) none

-- with one more that makes none
denied_longer : (steps : List Made) (step : Made) (before : Option Denial) → before ≡ denied_by steps → steps_in steps ≡ 0
    → steps_in (steps ++ step ∷ []) ≡ 0
    → denied_by (steps ++ step ∷ []) ≡ option_or (denial_by step) before
denied_longer steps step before is none still =
    denied_if_none (steps ++ step ∷ []) still ∙ last_longer denial_by steps step None
    ∙ ap (option_or (denial_by step)) (sym (is ∙ denied_if_none steps none))

-- the denial of a first step is the last
is_last : (denial before : Option Denial) → (denial ≡ None → before ≡ None) → denial ≡ option_or denial before
is_last None before clear = sym (clear refl)
is_last (Some why) before clear = refl

no_some_none : {A : Type 0} (o : Option A) → is_some o ≡ false → o ≡ None
no_some_none None is = refl
no_some_none (Some x) is = absurd (cc)

is_some_of : {A : Type 0} (o : Option A) (x : A) → o ≡ Some x → is_some o ≡ true
is_some_of o x is = ap is_some is

pub denied_more : MadeIsPast → GoesOn → PastStays → RefusedIsOver → OverStays → (call : Call) (offer : Option Offer) (need : Need)
    (reply : Reply) (first old new : Noted)
    (work after : Work) (before after_denial : Option Denial) → next_of work ≡ Some need → is_answer (next_of work) reply ≡ true
    → Makes call offer need reply old new
    → PlaceInPlan (length call.plan.peers) work.place → CalledIsGiven call work.place → after ≡ after_told work reply
    → after_denial ≡ noted (beginning_at work.place) reply before
    → DeniedSince first old work.place before → DeniedSince first new after.place after_denial
denied_more made_past goes_on past_stays refused_over over_stays call offer need reply first old new work after before
    after_denial next answers makes within given told is since =
    rw told (rw is (go (beginning_at work.place) refl))
  where
    all : List Made
    all = since.steps ++ makes.step ∷ []

    all_noted : new.made ≡ first.made ++ all
    all_noted = makes.noted.made ∙ ap (λ made. made ++ makes.step ∷ []) since.noted ∙ append_assoc first.made since.steps
        (makes.step ∷ [])

    counts : steps_of makes.step ≡ as_steps (is_made reply)
    counts = steps_are call offer need reply makes.step makes.made

    next_place : Place
    next_place = (after_told work reply).place

    -- a step of a peer was made
    made_so : (denial : Option Denial) → denial ≡ None → 1 ≤ steps_in all → beginning_at next_place ≡ None
        → DeniedSince first new next_place denial
    made_so denial none some past = record {
      steps = all;
      noted = all_noted;
      denied = none ∙ sym (made_by (steps_in all) (last_of denial_by all None) some);
      begins = λ starts. let never = sym starts ∙ ap is_some past in absurd (cc);
      clear = λ starts _. none;
      over = λ _ zero. absurd (omega (arith, some, zero));
    }

    -- none was
    unmade_first : (begun : Beginning) → beginning_at work.place ≡ Some begun → is_made reply ≡ false
        → DeniedSince first new next_place (denial_of reply)
    unmade_first begun began unmade =
        let starts = is_some_of (beginning_at work.place) begun began in
        let none = since.begins starts in
        let still = none_longer since.steps makes.step (is_made reply) none counts unmade in
        let asked = asked_first call offer work.place need reply next starts within given in
        let here = denial_is call offer need reply makes.step makes.made asked in
        record {
          steps = all;
          noted = all_noted;
          denied = is_last (denial_of reply) before (before_clear starts unmade) ∙ ap (λ o. option_or o before) (sym here)
              ∙ sym (denied_longer since.steps makes.step before since.denied none still);
          begins = λ _. still;
          clear = first_clear begun began unmade (is_refusal work.place reply) refl;
          over = λ past _. first_over begun began unmade (is_refusal work.place reply) refl (no_some_none _ past);
        }
      where
        before_clear : is_some (beginning_at work.place) ≡ true → is_made reply ≡ false → denial_of reply ≡ None → before ≡ None
        before_clear starts unmade none = at_place (is_rejecting work.place) refl
          where
            at_place : (b : Bool) → is_rejecting work.place ≡ b → before ≡ None
            at_place false here = since.clear starts here
            at_place true here = absurd (rejecting_denies work.place reply here answers unmade none)

        first_clear : (begun : Beginning) → beginning_at work.place ≡ Some begun → is_made reply ≡ false → (b : Bool)
            → is_refusal work.place reply ≡ b
            → is_some (beginning_at next_place) ≡ true → is_rejecting next_place ≡ false → denial_of reply ≡ None
        first_clear begun began unmade false further starts here = unrefused_denies_none work.place reply work.rest further here
        first_clear begun began unmade true refused starts here =
            let past = over_is_past next_place (refused_over work reply begun answers began refused) in
            let never = sym starts ∙ ap is_some past in absurd (cc)

        first_over : (begun : Beginning) → beginning_at work.place ≡ Some begun → is_made reply ≡ false → (b : Bool)
            → is_refusal work.place reply ≡ b
            → beginning_at next_place ≡ None → is_over next_place ≡ true
        first_over begun began unmade true refused past = refused_over work reply begun answers began refused
        first_over begun began unmade false further past =
            let never = sym (goes_on work reply begun answers began unmade further) ∙ past in absurd (cc)

    beginning : (begun : Beginning) → beginning_at work.place ≡ Some begun → (b : Bool) → is_made reply ≡ b
        → DeniedSince first new next_place (denial_of reply)
    beginning begun began true is_made =
        made_so (denial_of reply) (made_denies_nothing reply is_made)
        (some_longer since.steps makes.step (let one = counts ∙ ap as_steps is_made in omega (arith, one)))
        (made_past work reply answers is_made)
    beginning begun began false unmade = unmade_first begun began unmade

    -- past the first steps
    later : beginning_at work.place ≡ None → (n : ℕ) → steps_in since.steps ≡ n → DeniedSince first new next_place before
    later past (suc n) some =
        let more : 1 ≤ steps_in since.steps = omega (arith, some) in
        made_so before (since.denied ∙ made_by (steps_in since.steps) (last_of denial_by since.steps None) more)
        (still_some since.steps makes.step more)
        (past_stays work reply past)
    later past zero none =
        let over = since.over (ap is_some past) none in
        let rest = over_denies_none work.place reply over answers in
        let still = none_longer since.steps makes.step (is_made reply) none counts rest.0 in
        let here = denial_is call offer need reply makes.step makes.made (asked_over call offer work.place need reply next
        over) in
        record {
          steps = all;
          noted = all_noted;
          denied = ap (λ o. option_or o before) (sym (here ∙ rest.1)) ∙ sym (denied_longer since.steps makes.step before
              since.denied none still);
          begins = λ starts. let never = sym starts ∙ ap is_some (past_stays work reply past) in absurd (cc);
          clear = λ starts _. let never = sym starts ∙ ap is_some (past_stays work reply past) in absurd (cc);
          over = λ _ _. over_stays work reply over;
        }

    go : (o : Option Beginning) → beginning_at work.place ≡ o → DeniedSince first new next_place (noted o reply before)
    go (Some begun) began = beginning begun began (is_made reply) refl
    go None past = later past (steps_in since.steps) refl
