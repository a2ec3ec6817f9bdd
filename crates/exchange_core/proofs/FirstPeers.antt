-- The peers that the first steps of a call name, the NEW for which a leg is opened, and the end of a call from outside.
use Rattle.std.proofs.Common.{◌≡◌, ℕ, ◌<◌, Option, None, Some, true, false, refl, sym, ap, subst, ◌∙◌, inl, inr}
use Rattle.std.proofs.Common.{◌⊎◌}
use Rattle.std.specs.Prelude.{Ok, Err, MatchOption, is_some}
use Rattle.call_book.specs.declared.errors.ReserveError.TheVariants as reserve_errors
use Rattle.peer_lock.specs.Accounts.{Credit, with_step}
use Rattle.call_book.specs.declared.leg_name.LegName.{LegName}
use Rattle.peer_lock.specs.declared.errors.PeerError.TheVariants as peer_errors
use Rattle.call_control.specs.Beginnings.{OfDatagram, beginning_at, is_answer, is_made}
use Rattle.call_control.specs.Work.{Work, Rest, at, next_at, next_of, told_at, after_told}
use Rattle.call_control.specs.declared.place.Place.{Place}
use Rattle.call_control.specs.declared.place.Place.TheVariants as places
use Rattle.call_control.specs.declared.reply.Reply.{Reply}
use Rattle.call_control.specs.declared.reply.Reply.TheVariants as replies
use Rattle.exchange_core.specs.Denial.{noted}
use Rattle.exchange_core.specs.FirstSteps.{StartsInPlan, InPlan, IsOfNew, IsOpenedOut, IsOpeningDue, KeepsPeer, CallIsMade}
use Rattle.exchange_core.specs.FirstSteps.{named_after}
use Rattle.exchange_core.specs.declared.denial.Denial.{Denial}
use Rattle.exchange_core.proofs.FirstSteps.{MadeIsPast, PastStays}

-- ---- the peers that the first steps name

abbrev pub PlaceInPlan : ℕ → Place → Type 0
PlaceInPlan peers (places.Datagram peer) = peer < peers
PlaceInPlan peers (places.ReserveIn peer) = peer < peers
PlaceInPlan peers (places.RejectNew peer) = peer < peers
PlaceInPlan peers (places.OpenIn name) = name.peer < peers
PlaceInPlan peers (places.Tick peer) = peer < peers
PlaceInPlan peers (places.HangUp name) = name.peer < peers
PlaceInPlan peers (places.ReserveCall peer) = peer < peers
PlaceInPlan peers (places.OpenCall name) = name.peer < peers
PlaceInPlan peers place = Unit {0}

pub start_in_plan : (peers : ℕ) (place : Place) → StartsInPlan peers place → PlaceInPlan peers place
start_in_plan peers (places.Datagram peer) within = within
start_in_plan peers (places.Tick peer) within = within
start_in_plan peers (places.HangUp name) within = within
start_in_plan peers (places.ReserveCall peer) within = within
start_in_plan peers place within = absurd within

pub starts_first : (peers : ℕ) (place : Place) → StartsInPlan peers place → is_some (beginning_at place) ≡ true
starts_first peers (places.Datagram peer) within = refl
starts_first peers (places.Tick peer) within = refl
starts_first peers (places.HangUp name) within = refl
starts_first peers (places.ReserveCall peer) within = refl
starts_first peers place within = absurd within

pub next_in_plan : (peers : ℕ) (place : Place) → PlaceInPlan peers place → InPlan peers (next_at place)
next_in_plan peers (places.Datagram peer) within = within
next_in_plan peers (places.RejectNew peer) within = within
next_in_plan peers (places.OpenIn name) within = within
next_in_plan peers (places.Tick peer) within = within
next_in_plan peers place within = tt

past_in_plan : (peers : ℕ) (place : Place) → beginning_at place ≡ None → PlaceInPlan peers place
past_in_plan peers (places.Datagram peer) past = absurd (cc)
past_in_plan peers (places.ReserveIn peer) past = absurd (cc)
past_in_plan peers (places.RejectNew peer) past = absurd (cc)
past_in_plan peers (places.OpenIn name) past = absurd (cc)
past_in_plan peers (places.Tick peer) past = absurd (cc)
past_in_plan peers (places.HangUp name) past = absurd (cc)
past_in_plan peers (places.ReserveCall peer) past = absurd (cc)
past_in_plan peers (places.OpenCall name) past = absurd (cc)
past_in_plan peers place past = tt

told_in_plan : MadeIsPast → PastStays → (peers : ℕ) (place : Place) (reply : Reply) (rest : Rest) → PlaceInPlan peers place
    → KeepsPeer (next_at place) reply
    → PlaceInPlan peers (told_at place reply rest).place
told_in_plan made past peers (places.Datagram peer) (replies.Datagram (Ok heard)) rest within keeps =
    past_in_plan peers _ (made (at (places.Datagram peer) rest) (replies.Datagram (Ok heard)) refl refl)
told_in_plan made past peers (places.Datagram peer) (replies.Datagram (Err peer_errors.NeedsNumber)) rest within keeps = within
told_in_plan made past peers (places.Datagram peer) reply rest within keeps = tt
told_in_plan made past peers (places.ReserveIn peer) (replies.Reserve (Ok name)) rest within keeps =
    subst (λ p. p < peers) (sym keeps) within
told_in_plan made past peers (places.ReserveIn peer) (replies.Reserve (Err reserve_errors.NoNumber)) rest within keeps = within
told_in_plan made past peers (places.ReserveIn peer) reply rest within keeps = tt
told_in_plan made past peers (places.RejectNew peer) reply rest within keeps = tt
told_in_plan made past peers (places.OpenIn name) (replies.OpenIn (Ok heard)) rest within keeps =
    past_in_plan peers _ (made (at (places.OpenIn name) rest) (replies.OpenIn (Ok heard)) refl refl)
told_in_plan made past peers (places.OpenIn name) reply rest within keeps = tt
told_in_plan made past peers (places.Tick peer) (replies.Tick (Ok quiet)) rest within keeps =
    past_in_plan peers _ (made (at (places.Tick peer) rest) (replies.Tick (Ok quiet)) refl refl)
told_in_plan made past peers (places.Tick peer) reply rest within keeps = tt
told_in_plan made past peers (places.HangUp name) (replies.Order (Ok done)) rest within keeps =
    past_in_plan peers _ (made (at (places.HangUp name) rest) (replies.Order (Ok done)) refl refl)
told_in_plan made past peers (places.HangUp name) reply rest within keeps = tt
told_in_plan made past peers (places.ReserveCall peer) (replies.Reserve (Ok name)) rest within keeps =
    subst (λ p. p < peers) (sym keeps) within
told_in_plan made past peers (places.ReserveCall peer) reply rest within keeps = tt
told_in_plan made past peers (places.OpenCall name) (replies.OpenOut (Ok done)) rest within keeps = tt
told_in_plan made past peers (places.OpenCall name) reply rest within keeps = tt
told_in_plan made past peers place reply rest within keeps = past_in_plan peers (told_at place reply rest).place
    (past (at place rest) reply refl)

pub stays_in_plan : MadeIsPast → PastStays → (peers : ℕ) (work after : Work) (reply : Reply) → after ≡ after_told work reply
    → KeepsPeer (next_of work) reply
    → PlaceInPlan peers work.place → PlaceInPlan peers after.place
stays_in_plan made past peers work after reply told keeps within =
    rw told (told_in_plan made past peers work.place reply work.rest within keeps)

-- ---- the NEW for which a leg is opened, or which is rejected

abbrev pub OpensLeg : Place → Type 0
OpensLeg (places.ReserveIn peer) = Unit {0}
OpensLeg (places.RejectNew peer) = Unit {0}
OpensLeg (places.OpenIn name) = Unit {0}
OpensLeg place = ⊥

pub start_opens_none : (peers : ℕ) (place : Place) → StartsInPlan peers place → OpensLeg place → ⊥
start_opens_none peers (places.ReserveIn peer) within opens = within
start_opens_none peers (places.RejectNew peer) within opens = within
start_opens_none peers (places.OpenIn name) within opens = within
start_opens_none peers place within opens = opens

pub opened_here : (place : Place) → IsOfNew (next_at place) → OpensLeg place × (beginning_at place ≡ Some OfDatagram)
opened_here (places.RejectNew peer) opened = (tt, refl)
opened_here (places.OpenIn name) opened = (tt, refl)
opened_here place opened = absurd opened

past_opens_none : (place : Place) → beginning_at place ≡ None → OpensLeg place → ⊥
past_opens_none (places.ReserveIn peer) past opens = absurd (cc)
past_opens_none (places.RejectNew peer) past opens = absurd (cc)
past_opens_none (places.OpenIn name) past opens = absurd (cc)
past_opens_none place past opens = opens

told_opens : MadeIsPast → PastStays → (place : Place) (reply : Reply) (rest : Rest) → OpensLeg (told_at place reply rest).place
    → OpensLeg place ⊎ IsOpeningDue reply
told_opens made past (places.Datagram peer) (replies.Datagram (Ok heard)) rest opens =
    absurd (past_opens_none _ (made (at (places.Datagram peer) rest) (replies.Datagram (Ok heard)) refl refl) opens)
told_opens made past (places.Datagram peer) (replies.Datagram (Err peer_errors.NeedsNumber)) rest opens = inr tt
told_opens made past (places.Datagram peer) reply rest opens = absurd opens
told_opens made past (places.ReserveIn peer) reply rest opens = inl tt
told_opens made past (places.RejectNew peer) reply rest opens = inl tt
told_opens made past (places.OpenIn name) reply rest opens = inl tt
told_opens made past (places.Tick peer) (replies.Tick (Ok quiet)) rest opens =
    absurd (past_opens_none _ (made (at (places.Tick peer) rest) (replies.Tick (Ok quiet)) refl refl) opens)
told_opens made past (places.Tick peer) reply rest opens = absurd opens
told_opens made past (places.HangUp name) (replies.Order (Ok done)) rest opens =
    absurd (past_opens_none _ (made (at (places.HangUp name) rest) (replies.Order (Ok done)) refl refl) opens)
told_opens made past (places.HangUp name) reply rest opens = absurd opens
told_opens made past (places.ReserveCall peer) (replies.Reserve (Ok name)) rest opens = absurd opens
told_opens made past (places.ReserveCall peer) reply rest opens = absurd opens
told_opens made past (places.OpenCall name) (replies.OpenOut (Ok done)) rest opens = absurd opens
told_opens made past (places.OpenCall name) reply rest opens = absurd opens
told_opens made past place reply rest opens =
    absurd (past_opens_none (told_at place reply rest).place (past (at place rest) reply refl) opens)

pub opens_after : MadeIsPast → PastStays → (work after : Work) (reply : Reply) (P : Type 0) → after ≡ after_told work reply
    → (OpensLeg work.place → P) → (IsOpeningDue reply → P)
    → OpensLeg after.place → P
opens_after made past work after reply P told were due opens =
    elim (told_opens made past work.place reply work.rest (subst (λ (w : Work). OpensLeg w.place) told opens)) [
      | inl at_before ↦ were at_before
      | inr is_due ↦ due is_due
    ]

-- ---- at its end

pub ends_past : (place : Place) → next_at place ≡ None → beginning_at place ≡ None
ends_past places.End ends = refl
ends_past place ends = absurd (cc)

-- ---- a call from outside

-- it is at one of its four places
abbrev pub CallStands : ℕ → Credit → Credit → Place → Option Denial → Option LegName → Type 0
CallStands peer first now (places.ReserveCall other) denial named = (other ≡ peer) × (now ≡ first)
CallStands peer first now (places.OpenCall name) denial named = (named ≡ Some name) × (name.peer ≡ peer) × (now ≡ first)
CallStands peer first now (places.GiveBack name) denial named = MatchOption denial ⊥ (λ why. Unit {0})
CallStands peer first now places.End denial named = CallIsMade (places.ReserveCall peer) first now denial named
CallStands peer first now place denial named = ⊥

-- for any call
abbrev pub MayStand : Place → Credit → Credit → Place → Option Denial → Option LegName → Type 0
MayStand (places.ReserveCall peer) first now place denial named = CallStands peer first now place denial named
MayStand start first now place denial named = Unit {0}

pub start_stands : (start : Place) (first : Credit) (denial : Option Denial) (named : Option LegName)
    → MayStand start first first start denial named
start_stands (places.ReserveCall peer) first denial named = (refl, refl)
start_stands start first denial named = tt

call_stands : (peer : ℕ) (first old new : Credit) (place : Place) (reply : Reply) (rest : Rest) (denial : Option Denial)
    (named : Option LegName)
    → is_answer (next_at place) reply ≡ true → KeepsPeer (next_at place) reply → (IsOpenedOut reply → new ≡ with_step old 0)
    → (is_made reply ≡ false → new ≡ old)
    → CallStands peer first old place denial named
    → CallStands peer first new (told_at place reply rest).place (noted (beginning_at place) reply denial)
    (named_after reply named)
call_stands peer first old new (places.ReserveCall other) (replies.Reserve (Ok name)) rest denial named answers keeps opened
    unmade h = (refl, keeps ∙ h.0, unmade refl ∙ h.1)
call_stands peer first old new (places.ReserveCall other) (replies.Reserve (Err error)) rest denial named answers keeps opened
    unmade h = tt
call_stands peer first old new (places.ReserveCall other) reply rest denial named answers keeps opened unmade h = absurd (cc)
call_stands peer first old new (places.OpenCall name) (replies.OpenOut (Ok done)) rest denial named answers keeps opened unmade
    h =
    (opened tt ∙ ap (λ (c : Credit). with_step c 0) h.2, rw h.0 refl, rw h.0 h.1)
call_stands peer first old new (places.OpenCall name) (replies.OpenOut (Err error)) rest denial named answers keeps opened unmade
    h = tt
call_stands peer first old new (places.OpenCall name) reply rest denial named answers keeps opened unmade h = absurd (cc)
call_stands peer first old new (places.GiveBack name) (replies.Release result) rest (Some why) named answers keeps opened unmade
    h = tt
call_stands peer first old new (places.GiveBack name) (replies.Release result) rest None named answers keeps opened unmade h =
    absurd h
call_stands peer first old new (places.GiveBack name) reply rest denial named answers keeps opened unmade h = absurd (cc)
call_stands peer first old new places.End reply rest denial named answers keeps opened unmade h = absurd (cc)
call_stands peer first old new place reply rest denial named answers keeps opened unmade h = absurd h

pub stands_on : (start : Place) (first old new : Credit) (work after : Work) (reply : Reply) (denial after_denial : Option Denial)
    (named after_named : Option LegName)
    → is_answer (next_of work) reply ≡ true → KeepsPeer (next_of work) reply → (IsOpenedOut reply → new ≡ with_step old 0)
    → (is_made reply ≡ false → new ≡ old)
    → after ≡ after_told work reply → after_denial ≡ noted (beginning_at work.place) reply denial
    → after_named ≡ named_after reply named
    → MayStand start first old work.place denial named → MayStand start first new after.place after_denial after_named
stands_on (places.ReserveCall peer) first old new work after reply denial after_denial named after_named answers keeps opened
    unmade told is named_is h =
    rw told (rw is (rw named_is (call_stands peer first old new work.place reply work.rest denial named answers keeps opened
    unmade h)))
stands_on start first old new work after reply denial after_denial named after_named answers keeps opened unmade told is named_is
    h = tt

at_end : (peer : ℕ) (first now : Credit) (place : Place) (denial : Option Denial) (named : Option LegName) → next_at place ≡ None
    → CallStands peer first now place denial named
    → CallIsMade (places.ReserveCall peer) first now denial named
at_end peer first now places.End denial named ends h = h
at_end peer first now place denial named ends h = absurd (cc)

pub made_at_end : (start : Place) (first now : Credit) (place : Place) (denial : Option Denial) (named : Option LegName)
    → next_at place ≡ None
    → MayStand start first now place denial named → CallIsMade start first now denial named
made_at_end (places.ReserveCall peer) first now place denial named ends h = at_end peer first now place denial named ends h
made_at_end start first now place denial named ends h = tt
