-- Which legs of the world are opened by calls from outside, through each step.
use Rattle.std.specs.Prelude.{Result, Ok, Err}
use Rattle.std.specs.List.{AllByRecursion}
use Rattle.std.proofs.Common.{◌≡◌, ℕ, ◌+◌, ◌≤◌, ◌==◌, ◌&&◌, Bool, true, false, cond, List, [], ◌∷◌, ◌++◌, Option, Some, None}
use Rattle.std.proofs.Common.{refl, sym, ap, subst, ◌∙◌, arith, inl, inr}
use Rattle.std.proofs.lemmas.Bool.{cases_Bool}
use Rattle.call_book.specs.Book.{is_same, has_name, reserve_answer, bridge_answer}
use Rattle.call_book.specs.declared.errors.BridgeError.{BridgeError}
use Rattle.call_book.specs.declared.errors.ReserveError.{ReserveError}
use Rattle.call_book.specs.declared.leg_name.LegName.{LegName}
use Rattle.call_signals.specs.declared.openings.Opening.{Opening}
use Rattle.call_signals.specs.declared.openings.Opening.TheVariants.{Offers}
use Rattle.call_signals.specs.Order.{kind_of, Kind}
use Rattle.call_signals.specs.declared.stage.Stage.{Stage}
use Rattle.leg_machine.specs.Seen.{Lapse, SeenFrame, stage_after}
use Rattle.call_control.specs.Law.{times}
use Rattle.call_control.specs.Scene.{Leg, Scene, Choice, RefusesDatagram, RefusesRejecting, RefusesOpening, RefusesOrder}
use Rattle.call_control.specs.Scene.{RefusesTick, KeepsLeg, Brings, Lapses, Opens, LeadsTo, Answer, answered, is_call, leg_at}
use Rattle.call_control.specs.Scene.{if_named, leg_named, replaced, without, brought, brings, let_lapse, lapsed_at, all_lapsed}
use Rattle.call_control.specs.Scene.{can_open, opens_in, busy_in, opens_out, busy_out, carried, obeys, at_leg, at_order, refused}
use Rattle.call_control.specs.Scene.{is_done, retires, keeps, reserves, bridges, is_leased, releases, is_stale}
use Rattle.call_control.specs.SeenReply.{seen_reply}
use Rattle.call_control.specs.Work.{next_at}
use Rattle.call_control.specs.declared.need.Need.{Need}
use Rattle.call_control.specs.declared.need.Need.TheVariants as needs
use Rattle.call_control.specs.declared.place.Place.{Place}
use Rattle.call_control.specs.declared.place.Place.TheVariants as places
use Rattle.call_control.specs.declared.reply.Reply.{Reply}
use Rattle.call_control.specs.declared.reply.Reply.TheVariants as replies
use Rattle.peer_lock.specs.declared.errors.OrderError.TheVariants as order_errors
use Rattle.laws_of_calls.specs.Spent.{called_at}
use Rattle.laws_of_calls.specs.Stored.{AreCalled}
use Rattle.call_book.proofs.NameLaws.{is_same_itself}

pub times_append : (name : LegName) (a b : List LegName) → times name (a ++ b) ≡ times name a + times name b
times_append name [] b = omega arith
times_append name (other ∷ a) b = omega (arith, times_append name a b)

-- with more names
pub more : (names others : List LegName) (legs : List Leg) → AreCalled names legs → AreCalled (others ++ names) legs
more names others [] are = tt
more names others (leg ∷ legs) are =
    (λ called. omega (arith, times_append leg.name others names, are.0 called), more names others legs are.1)

-- a leg that is found is one of all
pub one_of : (P : Leg → Type 0) (legs : List Leg) (peer number : ℕ) (leg : Leg) → leg_at legs peer number ≡ Some leg
    → AllByRecursion P legs → P leg
one_of P [] peer number leg is all = absurd (cc)
one_of P (first ∷ legs) peer number leg is all =
    elim (cases_Bool (first.name.peer == peer && first.name.number == number)) [
      | inl here ↦ let same : first ≡ leg = let e = rw here at is in cc in subst P same all.0
      | inr other ↦ one_of P legs peer number leg (rw other at is) all.1
    ]

named_one : (o : Option Leg) (name : LegName) (leg : Leg) → if_named name o ≡ Some leg → o ≡ Some leg
named_one None name leg is = absurd (cc)
named_one (Some found) name leg is = elim (cases_Bool (is_same found.name name)) [
  | inl e ↦ rw e at is
  | inr e ↦ absurd (let f = rw e at is in cc)
]

abbrev IsCalled : List LegName → Leg → Type 0
IsCalled names leg = leg.called ≡ true → 1 ≤ times leg.name names

module _ (names : List LegName) where
  either : (b : Bool) (x y : Answer) → AreCalled names x.scene.legs → AreCalled names y.scene.legs
      → AreCalled names (cond b x y).scene.legs
  either true x y is or = is
  either false x y is or = or

  put : (b : Bool) (new leg : Leg) → IsCalled names new → IsCalled names leg → IsCalled names (cond b new leg)
  put true new leg is or = is
  put false new leg is or = or

  replaced_called : (legs : List Leg) (new : Leg) → IsCalled names new → AreCalled names legs
      → AreCalled names (replaced legs new)
  replaced_called [] new is are = tt
  replaced_called (leg ∷ legs) new is are = (put (is_same leg.name new.name) new leg is are.0, replaced_called legs new is are.1)

  kept : (b : Bool) (leg : Leg) (rest : List Leg) → IsCalled names leg → AreCalled names rest
      → AreCalled names (cond b rest (leg ∷ rest))
  kept true leg rest is are = are
  kept false leg rest is are = (is, are)

  without_called : (legs : List Leg) (name : LegName) → AreCalled names legs → AreCalled names (without legs name)
  without_called [] name are = tt
  without_called (leg ∷ legs) name are =
      kept (is_same leg.name name) leg (without legs name) are.0 (without_called legs name are.1)

  lapsed_called : (legs : List Leg) (peer number : ℕ) (lapse : Lapse) (o : Option Leg) → leg_at legs peer number ≡ o
      → AreCalled names legs → AreCalled names (lapsed_at o lapse legs)
  lapsed_called legs peer number lapse None at are = are
  lapsed_called legs peer number lapse (Some leg) at are =
      replaced_called legs (let_lapse lapse leg) (one_of (IsCalled names) legs peer number leg at are) are

  all_lapsed_called : (peer : ℕ) (lapses : List (ℕ × Lapse)) (legs : List Leg) → AreCalled names legs
      → AreCalled names (all_lapsed peer lapses legs)
  all_lapsed_called peer [] legs are = are
  all_lapsed_called peer (lapse ∷ lapses) legs are =
      all_lapsed_called peer lapses (lapsed_at (leg_at legs peer lapse.0) lapse.1 legs)
      (lapsed_called legs peer lapse.0 lapse.1 (leg_at legs peer lapse.0) refl are)

  module _ (scene : Scene) (are : AreCalled names scene.legs) where
    brought_called : (peer number : ℕ) (frame : SeenFrame) (o : Option Leg) → leg_at scene.legs peer number ≡ o
        → AreCalled names (brings scene o frame).scene.legs
    brought_called peer number frame None at = are
    brought_called peer number frame (Some leg) at =
        replaced_called scene.legs (brought frame leg) (one_of (IsCalled names) scene.legs peer number leg at are) are

    obeys_called : (kind : Kind) (leg : Leg) (o : Option Stage) → IsCalled names leg
        → AreCalled names (obeys scene kind leg o).scene.legs
    obeys_called kind leg None is = are
    obeys_called kind leg (Some stage) is = replaced_called scene.legs (carried kind leg stage) is are

    at_leg_called : (kind : Kind) (o : Option Leg) (choice : Choice) → ((leg : Leg) → o ≡ Some leg → IsCalled names leg)
        → AreCalled names (at_leg scene kind o choice).scene.legs
    at_leg_called kind None choice is = are
    at_leg_called kind (Some leg) (RefusesOrder error) is =
        either _ (refused scene error) (obeys scene kind leg (stage_after kind leg.seen.stage)) are
        (obeys_called kind leg (stage_after kind leg.seen.stage) (is leg refl))
    at_leg_called kind (Some leg) choice is = obeys_called kind leg (stage_after kind leg.seen.stage) (is leg refl)

    the_named : (name : LegName) (leg : Leg) → leg_named scene.legs name ≡ Some leg → IsCalled names leg
    the_named name leg at =
        one_of (IsCalled names) scene.legs name.peer name.number leg
        (named_one (leg_at scene.legs name.peer name.number) name leg at) are

    ordered_called : (name : LegName) (kind : Kind) (choice : Choice)
        → AreCalled names (at_order scene name kind choice).scene.legs
    ordered_called name kind (RefusesOrder order_errors.StepsSpent) = are
    ordered_called name kind choice = at_leg_called kind (leg_named scene.legs name) choice (the_named name)

    opened_called : (name : LegName) (opening : Opening)
        → AreCalled names (cond (can_open scene name) (opens_in scene name opening) (busy_in scene)).scene.legs
    opened_called name opening =
        either (can_open scene name) (opens_in scene name opening) (busy_in scene) ((λ called. absurd (cc)), are) are

    sent_called : (name : LegName) (called : Bool)
        → ((cond (can_open scene name) (opens_out scene name called) (busy_out scene)).reply ≡ replies.OpenOut (Ok tt)
        → called ≡ true → 1 ≤ times name names)
        → AreCalled names (cond (can_open scene name) (opens_out scene name called) (busy_out scene)).scene.legs
    sent_called name called given = go (can_open scene name) refl
      where
        go : (b : Bool) → can_open scene name ≡ b
            → AreCalled names (cond b (opens_out scene name called) (busy_out scene)).scene.legs
        go true e = (given (ap (λ (c : Bool). (cond c (opens_out scene name called) (busy_out scene)).reply) e), are)
        go false e = are

    reserved_called : (peer : ℕ) (r : Result LegName ReserveError) → AreCalled names (reserves scene peer r).scene.legs
    reserved_called peer (Ok name) = are
    reserved_called peer (Err error) = are

    bridged_called : (a b : LegName) (r : Result (Unit {0}) BridgeError) → AreCalled names (bridges scene a b r).scene.legs
    bridged_called a b (Ok done) = are
    bridged_called a b (Err error) = are

    pub answered_called : (need : Need) (called : Bool) (choice : Choice)
        → ((name : LegName) → need ≡ needs.OpenOut name → (answered scene need called choice).reply ≡ replies.OpenOut (Ok tt)
        → called ≡ true → 1 ≤ times name names)
        → AreCalled names (answered scene need called choice).scene.legs
    answered_called (needs.Datagram peer) called (RefusesDatagram error) given = are
    answered_called (needs.Datagram peer) called (Brings number frame) given =
        brought_called peer number frame (leg_at scene.legs peer number) refl
    answered_called (needs.Datagram peer) called choice given = are
    answered_called (needs.RejectNew peer) called (RefusesRejecting error) given = are
    answered_called (needs.RejectNew peer) called choice given = are
    answered_called (needs.OpenIn name) called (RefusesOpening error) given = are
    answered_called (needs.OpenIn name) called (Opens opening) given = opened_called name opening
    answered_called (needs.OpenIn name) called choice given = opened_called name Offers
    answered_called (needs.OpenOut name) called (RefusesOpening error) given = are
    answered_called (needs.OpenOut name) called choice given = sent_called name called (given name refl)
    answered_called (needs.Order name command) called choice given = ordered_called name (kind_of command) choice
    answered_called (needs.Tick peer) called RefusesTick given = are
    answered_called (needs.Tick peer) called (Lapses lapses quiet) given = all_lapsed_called peer lapses scene.legs are
    answered_called (needs.Tick peer) called choice given = are
    answered_called (needs.Look peer number) called choice given = are
    answered_called (needs.Retire name) called KeepsLeg given = are
    answered_called (needs.Retire name) called choice given =
        either (is_done (leg_named scene.legs name)) (retires scene name) (keeps scene) (without_called scene.legs name are) are
    answered_called (needs.Reserve peer) called choice given = reserved_called peer (reserve_answer scene.book peer)
    answered_called (needs.Bridge a b) called choice given = bridged_called a b (bridge_answer scene.book a b)
    answered_called (needs.Partner name) called choice given = are
    answered_called (needs.Release name) called choice given =
        either (is_leased scene.leases name && has_name scene.book name) (releases scene name) (is_stale scene name) are are
    answered_called (needs.Route name) called (LeadsTo route) given = are
    answered_called (needs.Route name) called choice given = are

-- the answer that is seen as an opening is one
opened_reply : (reply : Reply) → seen_reply reply ≡ replies.OpenOut (Ok tt) → reply ≡ replies.OpenOut (Ok tt)
opened_reply (replies.Datagram (Ok step)) is = absurd (cc)
opened_reply (replies.Datagram (Err error)) is = absurd (cc)
opened_reply (replies.OpenIn (Ok step)) is = absurd (cc)
opened_reply (replies.OpenIn (Err error)) is = absurd (cc)
opened_reply (replies.Look None) is = absurd (cc)
opened_reply (replies.Look (Some status)) is = absurd (cc)
opened_reply reply is = is

called_there : (place : Place) (name : LegName) (names : List LegName) → is_call place ≡ true
    → next_at place ≡ Some (needs.OpenOut name)
    → 1 ≤ times name (called_at place (replies.OpenOut (Ok tt)) ++ names)
called_there (places.OpenCall n) name names is at =
    let same : n ≡ name = cc in
    let test : is_same n name ≡ true = subst (λ (k : LegName). is_same n k ≡ true) same (is_same_itself n) in
    rw test (omega arith)
called_there place name names is at = absurd (cc)

-- the leg that a call from outside opens is one of those
pub called_now : (place : Place) (need : Need) (reply seen : Reply) (name : LegName) (names : List LegName)
    → next_at place ≡ Some need → seen ≡ seen_reply reply
    → need ≡ needs.OpenOut name → seen ≡ replies.OpenOut (Ok tt) → is_call place ≡ true
    → 1 ≤ times name (called_at place reply ++ names)
called_now place need reply seen name names at is opens out call =
    let now : reply ≡ replies.OpenOut (Ok tt) = opened_reply reply (sym is ∙ out) in
    subst (λ (r : Reply). 1 ≤ times name (called_at place r ++ names)) (sym now)
    (called_there place name names call (at ∙ ap (λ (n : Need). Some n) opens))
