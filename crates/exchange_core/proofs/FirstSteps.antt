-- During the first steps of a call no peer makes a step, and nothing is refused. After them a step was made, or the call is
-- refused.
use Rattle.std.proofs.Common.{◌≡◌, ◌+◌, ◌≤◌, Option, None, Some, Bool, true, false, refl, sym, ap, subst, ◌∙◌}
use Rattle.std.proofs.Common.{arith}
use Rattle.std.specs.Prelude.{Ok, Err, MatchOption, is_some}
use Rattle.call_book.specs.declared.errors.ReserveError.TheVariants as reserve_errors
use Rattle.peer_lock.specs.Accounts.{Credit}
use Rattle.peer_lock.specs.declared.errors.OpenError.TheVariants as open_errors
use Rattle.peer_lock.specs.declared.errors.PeerError.TheVariants as peer_errors
use Rattle.peer_lock.specs.declared.errors.RejectError.TheVariants as reject_errors
use Rattle.call_control.specs.Beginnings.{Beginning, beginning_at, is_over, is_answer, is_made, is_refusal}
use Rattle.call_control.specs.Work.{Work, at, next_at, next_of, after_told}
use Rattle.call_control.specs.declared.place.Place.{Place}
use Rattle.call_control.specs.declared.place.Place.TheVariants as places
use Rattle.call_control.specs.declared.reply.Reply.{Reply}
use Rattle.call_control.specs.declared.reply.Reply.TheVariants as replies
use Rattle.exchange_core.specs.Denial.{Denies, denial_of, noted}
use Rattle.exchange_core.specs.FirstSteps.{FitsOpenOut}
use Rattle.exchange_core.specs.declared.denial.Denial.{Denial}

-- the laws of a call's first steps
abbrev pub MadeIsPast : Type 0
MadeIsPast = (work : Work) (reply : Reply) → is_answer (next_of work) reply ≡ true → is_made reply ≡ true
    → beginning_at (after_told work reply).place ≡ None

abbrev pub GoesOn : Type 0
GoesOn =
    (work : Work) (reply : Reply) (begun : Beginning) → is_answer (next_of work) reply ≡ true
    → beginning_at work.place ≡ Some begun → is_made reply ≡ false
    → is_refusal work.place reply ≡ false → beginning_at (after_told work reply).place ≡ Some begun

abbrev pub PastStays : Type 0
PastStays = (work : Work) (reply : Reply) → beginning_at work.place ≡ None → beginning_at (after_told work reply).place ≡ None

abbrev pub RefusedIsOver : Type 0
RefusedIsOver =
    (work : Work) (reply : Reply) (begun : Beginning) → is_answer (next_of work) reply ≡ true
    → beginning_at work.place ≡ Some begun → is_refusal work.place reply ≡ true
    → is_over (after_told work reply).place ≡ true

abbrev pub OverStays : Type 0
OverStays = (work : Work) (reply : Reply) → is_over work.place ≡ true → is_over (after_told work reply).place ≡ true

abbrev pub OverMakesNone : Type 0
OverMakesNone = (work : Work) (reply : Reply) → is_over work.place ≡ true → is_answer (next_of work) reply ≡ true
    → is_made reply ≡ false

-- ---- answers and denials

pub made_denies_nothing : (reply : Reply) → is_made reply ≡ true → denial_of reply ≡ None
made_denies_nothing (replies.Datagram (Ok heard)) made = refl
made_denies_nothing (replies.RejectNew (Ok done)) made = refl
made_denies_nothing (replies.OpenIn (Ok heard)) made = refl
made_denies_nothing (replies.OpenOut (Ok done)) made = refl
made_denies_nothing (replies.Order (Ok done)) made = refl
made_denies_nothing (replies.Tick (Ok quiet)) made = refl
made_denies_nothing reply made = absurd (cc)

no_denial_goes_on : (place : Place) (reply : Reply) → denial_of reply ≡ None → is_refusal place reply ≡ false
no_denial_goes_on place (replies.Datagram (Err peer_errors.NeedsNumber)) is = refl
no_denial_goes_on place (replies.Datagram (Err error)) is = absurd (cc)
no_denial_goes_on place (replies.RejectNew (Err error)) is = absurd (cc)
no_denial_goes_on place (replies.OpenIn (Err error)) is = absurd (cc)
no_denial_goes_on place (replies.OpenOut (Err error)) is = absurd (cc)
no_denial_goes_on place (replies.Order (Err error)) is = absurd (cc)
no_denial_goes_on place (replies.Tick (Err spent)) is = absurd (cc)
no_denial_goes_on place (replies.Reserve (Err error)) is = absurd (cc)
no_denial_goes_on place reply is = refl

abbrev MayDeny : Option Beginning → Option Denial → Type 0
MayDeny begun denial = MatchOption denial (Unit {0}) (Denies begun)

may_deny : (place : Place) (reply : Reply) (begun : Beginning) → is_answer (next_at place) reply ≡ true
    → beginning_at place ≡ Some begun
    → FitsOpenOut reply → MayDeny (beginning_at place) (denial_of reply)
may_deny (places.Datagram peer) (replies.Datagram (Ok heard)) begun answers first fits = tt
may_deny (places.Datagram peer) (replies.Datagram (Err peer_errors.NeedsNumber)) begun answers first fits = tt
may_deny (places.Datagram peer) (replies.Datagram (Err error)) begun answers first fits = tt
may_deny (places.ReserveIn peer) (replies.Reserve (Ok name)) begun answers first fits = tt
may_deny (places.ReserveIn peer) (replies.Reserve (Err reserve_errors.SerialsSpent)) begun answers first fits = tt
may_deny (places.ReserveIn peer) (replies.Reserve (Err reserve_errors.NoNumber)) begun answers first fits = tt
may_deny (places.RejectNew peer) (replies.RejectNew (Ok done)) begun answers first fits = tt
may_deny (places.RejectNew peer) (replies.RejectNew (Err reject_errors.Unanswered)) begun answers first fits = tt
may_deny (places.RejectNew peer) (replies.RejectNew (Err reject_errors.StepsSpent)) begun answers first fits = tt
may_deny (places.RejectNew peer) (replies.RejectNew (Err reject_errors.RemoteBusy)) begun answers first fits = tt
may_deny (places.OpenIn name) (replies.OpenIn (Ok heard)) begun answers first fits = tt
may_deny (places.OpenIn name) (replies.OpenIn (Err open_errors.StepsSpent)) begun answers first fits = tt
may_deny (places.OpenIn name) (replies.OpenIn (Err open_errors.NumberBusy)) begun answers first fits = tt
may_deny (places.OpenIn name) (replies.OpenIn (Err open_errors.Draining)) begun answers first fits = tt
may_deny (places.OpenIn name) (replies.OpenIn (Err open_errors.RemoteBusy)) begun answers first fits = tt
may_deny (places.OpenIn name) (replies.OpenIn (Err open_errors.Memory)) begun answers first fits = tt
may_deny (places.Tick peer) (replies.Tick (Ok quiet)) begun answers first fits = tt
may_deny (places.Tick peer) (replies.Tick (Err spent)) begun answers first fits = tt
may_deny (places.HangUp name) (replies.Order (Ok done)) begun answers first fits = tt
may_deny (places.HangUp name) (replies.Order (Err error)) begun answers first fits = tt
may_deny (places.ReserveCall peer) (replies.Reserve (Ok name)) begun answers first fits = tt
may_deny (places.ReserveCall peer) (replies.Reserve (Err reserve_errors.SerialsSpent)) begun answers first fits = tt
may_deny (places.ReserveCall peer) (replies.Reserve (Err reserve_errors.NoNumber)) begun answers first fits = tt
may_deny (places.OpenCall name) (replies.OpenOut (Ok done)) begun answers first fits = tt
may_deny (places.OpenCall name) (replies.OpenOut (Err open_errors.StepsSpent)) begun answers first fits = tt
may_deny (places.OpenCall name) (replies.OpenOut (Err open_errors.NumberBusy)) begun answers first fits = tt
may_deny (places.OpenCall name) (replies.OpenOut (Err open_errors.Memory)) begun answers first fits = tt
may_deny (places.OpenCall name) (replies.OpenOut (Err open_errors.Draining)) begun answers first fits = absurd fits
may_deny (places.OpenCall name) (replies.OpenOut (Err open_errors.RemoteBusy)) begun answers first fits = absurd fits
may_deny place reply begun answers first fits = absurd (cc)

-- ---- the progress of a call

-- of a call that began here with this credit; a denial counts once the first steps are past
pub record IsUnderWay (start : Place) (first now : Credit) (place : Place) (denial : Option Denial) : Type 0 where
  pub before : (begun : Beginning) → beginning_at place ≡ Some begun → (beginning_at start ≡ Some begun) × (now ≡ first)
  pub past : beginning_at place ≡ None
      → MatchOption denial (first.steps + 1 ≤ now.steps) (λ why. (now ≡ first) × (is_over place ≡ true) ×
      Denies (beginning_at start) why)

pub over_is_past : (place : Place) → is_over place ≡ true → beginning_at place ≡ None
over_is_past (places.GiveBack name) over = refl
over_is_past places.End over = refl
over_is_past place over = absurd (cc)

-- the note of the answer to a first step, and to a later one
pub noted_first : (begun : Option Beginning) (reply : Reply) (denial : Option Denial) → is_some begun ≡ true
    → denial_of reply ≡ noted begun reply denial
noted_first (Some begun) reply denial first = refl
noted_first None reply denial first = absurd (cc)

pub noted_later : (begun : Option Beginning) (reply : Reply) (denial : Option Denial) → is_some begun ≡ false
    → denial ≡ noted begun reply denial
noted_later (Some begun) reply denial later = absurd (cc)
noted_later None reply denial later = refl

-- past the beginning at the next place
is_past : (start : Place) (first now : Credit) (place : Place) (denial : Option Denial) → beginning_at place ≡ None
    → MatchOption denial (first.steps + 1 ≤ now.steps) (λ why. (now ≡ first) × (is_over place ≡ true) ×
    Denies (beginning_at start) why)
    → IsUnderWay start first now place denial
is_past start first now place denial past so = record { before = λ begun is. absurd (cc); past = λ _. so }

pub under_way : MadeIsPast → GoesOn → PastStays → RefusedIsOver → OverStays → OverMakesNone
    → (start : Place) (first old new : Credit) (work after : Work) (reply : Reply)
    (denial after_denial : Option Denial) → is_answer (next_of work) reply ≡ true
    → (is_made reply ≡ true → new.steps ≡ old.steps + 1) → (is_made reply ≡ false → new ≡ old)
    → FitsOpenOut reply → after ≡ after_told work reply
    → after_denial ≡ noted (beginning_at work.place) reply denial
    → IsUnderWay start first old work.place denial → IsUnderWay start first new after.place after_denial
under_way made_past goes_on past_stays refused_over over_stays over_none start first old new work after reply denial after_denial
    answers made unmade fits told is h =
    rw told (rw is (go (beginning_at work.place) refl))
  where
    -- a step that leads on, that was refused, or that was made
    leads_on : (begun : Beginning) → beginning_at work.place ≡ Some begun → is_made reply ≡ false
        → is_refusal work.place reply ≡ false → (o : Option Denial)
        → IsUnderWay start first new (after_told work reply).place o
    leads_on begun began none further o =
        let on = goes_on work reply begun answers began none further in
        record {
          before = λ now_begun is_begun. (
            sym (sym is_begun ∙ on ∙ sym (h.before begun began).0),
            unmade none ∙ (h.before begun began).1,
          );
          past = λ past. absurd (cc);
        }

    denied_so : (begun : Beginning) → beginning_at work.place ≡ Some begun → is_made reply ≡ false → (why : Denial)
        → denial_of reply ≡ Some why
        → (b : Bool) → is_refusal work.place reply ≡ b → IsUnderWay start first new (after_told work reply).place (Some why)
    denied_so begun began none why denied false further = leads_on begun began none further (Some why)
    denied_so begun began none why denied true refusal =
        let over = refused_over work reply begun answers began refusal in
        is_past start first new (after_told work reply).place (Some why) (over_is_past _ over) (
          unmade none ∙ (h.before begun began).1,
          over,
          subst (λ b. Denies b why) (began ∙ sym (h.before begun began).0)
              (subst (λ o. MayDeny (beginning_at work.place) o) denied (may_deny work.place reply begun answers began fits)),
        )

    refused : (begun : Beginning) → beginning_at work.place ≡ Some begun → is_made reply ≡ false → (o : Option Denial)
        → denial_of reply ≡ o
        → IsUnderWay start first new (after_told work reply).place o
    refused begun began none None kept = leads_on begun began none (no_denial_goes_on work.place reply kept) None
    refused begun began none (Some why) denied = denied_so begun began none why denied (is_refusal work.place reply) refl

    stepped : (begun : Beginning) → beginning_at work.place ≡ Some begun → is_made reply ≡ true
        → IsUnderWay start first new (after_told work reply).place (denial_of reply)
    stepped begun began is_made =
        rw (made_denies_nothing reply is_made) (is_past start first new (after_told work reply).place None
        (made_past work reply answers is_made)
        (let more = made is_made in let same = ap (λ (c : Credit). c.steps) (h.before begun began).1 in omega (
          arith,
          more,
          same,
        )))

    beginning : (begun : Beginning) → beginning_at work.place ≡ Some begun → (b : Bool) → is_made reply ≡ b
        → IsUnderWay start first new (after_told work reply).place (denial_of reply)
    beginning begun began true is = stepped begun began is
    beginning begun began false is = refused begun began is (denial_of reply) refl

    further : beginning_at work.place ≡ None → (o : Option Denial) → denial ≡ o → (b : Bool) → is_made reply ≡ b
        → IsUnderWay start first new (after_told work reply).place o
    further past None kept true is =
        is_past start first new (after_told work reply).place None (past_stays work reply past)
        (let more = made is in let were = subst (λ o. MatchOption o (first.steps + 1 ≤ old.steps) (λ why. (old ≡ first) ×
        (is_over work.place ≡ true) × Denies (beginning_at start) why)) kept (h.past past) in omega (arith, more, were))
    further past None kept false is =
        is_past start first new (after_told work reply).place None (past_stays work reply past)
        (let same = ap (λ (c : Credit). c.steps) (unmade is) in let were = subst (λ o. MatchOption o (first.steps + 1 ≤ old.steps)
        (λ why. (old ≡ first) × (is_over work.place ≡ true) × Denies (beginning_at start) why)) kept (h.past past) in omega
        (arith, same, were))
    further past (Some why) denied b is =
        let were = subst (λ o. MatchOption o (first.steps + 1 ≤ old.steps) (λ why. (old ≡ first) × (is_over work.place ≡ true) ×
        Denies (beginning_at start) why)) denied (h.past past) in
        is_past start first new (after_told work reply).place (Some why) (past_stays work reply past)
        (unmade (over_none work reply were.1 answers) ∙ were.0, over_stays work reply were.1, were.2)

    go : (o : Option Beginning) → beginning_at work.place ≡ o → IsUnderWay start first new (after_told work reply).place
        (noted o reply denial)
    go (Some begun) began = beginning begun began (is_made reply) refl
    go None past = further past denial refl (is_made reply) refl
