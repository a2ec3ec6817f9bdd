-- In every world that the steps of calls lead to, no order of a continuing call meets a leg that is only offered.
use Rattle.call_signals.specs.declared.order.Command.TheVariants as commands
use Rattle.call_control.specs.declared.need.Need.TheVariants as needs
use Rattle.call_control.specs.declared.place.Place.TheVariants as places
use Rattle.call_control.proofs.Prelude.{◌≡◌, Some, None, true, false, refl, ℕ, ◌≤◌, List, slice_get, ap, arith, inl, inr, ◌⊎◌}
use Rattle.call_control.proofs.Prelude.{sym, subst, ◌∙◌, true≢false, is_same, partner_of, LegName, times, IsOpened, IsFresh}
use Rattle.call_control.proofs.Prelude.{is_talk, NoneMeetsOffered, Scene, Choice, leg_at, answered, is_call, Work, Rest, next_at}
use Rattle.call_control.proofs.Prelude.{next_of, told_at, Caller, World, Event, Start, ADatagram, work_of, scene_of, begins, run}
use Rattle.call_control.proofs.Prelude.{after_answer, Command, Need, Place, NormalClearing, is_same_itself, no_partner}
use Rattle.call_control.proofs.Prelude.{partner_at, MediaSpan}
use Rattle.call_control.proofs.Held.{scene, found_if}
use Rattle.call_control.proofs.Names.{beside, idle_hand, start_hand}
use Rattle.call_control.proofs.Runs.{total, others, total_split, total_set, hand_weight, at_set_apart, total_le, all_at, moved_to}
use Rattle.call_control.proofs.Runs.{any_run}
use Rattle.call_control.proofs.Safe.{all_found, fresh_few}
use Rattle.call_control.proofs.SafeSteps.{Surroundings, IsSeenTo}
use Rattle.call_control.proofs.Safety.{fresh_weight, IsSafe, around, place_before, step_safe, steps_safe, begins_safe}
use Rattle.call_control.proofs.Safety.{opened_safe}
use Rattle.call_control.proofs.TalkPlaces.{is_pending, NotPending, opening_at, opening_fresh, IsSettled, resettled, Asks}
use Rattle.call_control.proofs.TalkPlaces.{asks_map, SettledAt, PartnersAt, IsTalkStep}
use Rattle.call_control.proofs.TalkSteps.{Talks, TalksIf, place_talks}

abbrev pub opening_weight : LegName → Caller → ℕ
opening_weight x caller = opening_at caller.work.place x

abbrev pub SettledIn : World → LegName → Type 0
SettledIn world p = IsSettled world.book world.legs (λ x. total (opening_weight x) world.callers) p

-- the invariant of orders of continuing calls, even if steps are spent
pub record IsTalkSafe (world : World) : Type 0 where
  pub safe : IsSafe 1 world
  -- the leg that gets such an order is settled, and so is the offered leg whose far leg is opened
  pub asks : (who : ℕ) (caller : Caller) → slice_get world.callers who ≡ Some caller → Asks (SettledIn world) caller.work.place
  -- each partner is settled, unless the other name of the bridge is still that of a lease
  pub partners : (x p : LegName) → partner_of world.book x ≡ Some p → (1 ≤ total (fresh_weight x) world.callers) ⊎
      SettledIn world p

module _ (world : World) (who : ℕ) (caller : Caller) (is : slice_get world.callers who ≡ Some caller) (h : IsTalkSafe world) where
  abbrev here : Surroundings
  here = around 1 world who caller is h.safe

  abbrev others_opening : LegName → ℕ
  others_opening x = total (opening_weight x) (others world.callers who)

  few_opening : (x : LegName) → others_opening x ≤ beside world who x
  few_opening x = total_le (opening_weight x) (hand_weight x) (others world.callers who) (λ c. omega (
    arith,
    opening_fresh c.work.place x,
    fresh_few c.work.place x,
  ))

  settled_here : (p : LegName) → SettledIn world p → SettledAt others_opening world.book world.legs caller.work.place p
  settled_here p s = resettled _ s (omega (arith, s.unopened, total_split (opening_weight p) world.callers who caller is))

  partners_here : PartnersAt others_opening here.others_fresh world.book world.legs caller.work.place
  partners_here x p has = elim (h.partners x p has) [
    | inl some ↦ inl (omega (arith, total_split (fresh_weight x) world.callers who caller is))
    | inr settled ↦ inr (settled_here p settled)
  ]

  talks : Talks here others_opening few_opening caller.work.place caller.work.rest
  talks = record {
    safe = place_before 1 world who caller is h.safe;
    asks = asks_map (SettledIn world) (SettledAt others_opening world.book world.legs caller.work.place) caller.work.place
        settled_here (h.asks who caller is);
    partners = partners_here;
  }

  moved_talk : (new : Scene) (to : Work) → IsTalkStep others_opening here.others_fresh world.book world.legs caller.work.place new
      to.place → IsSafe 1 (moved_to world who new to) → IsTalkSafe (moved_to world who new to)
  moved_talk new to step safe =
      let own : Caller = record { work = to; leases = new.leases } in
      let next : World = moved_to world who new to in
      let after : LegName → Type 0 = SettledAt others_opening new.book new.legs to.place in
      let there : (p : LegName) → after p → SettledIn next p = λ p s. resettled _ s (omega (
        arith,
        s.unopened,
        total_set (opening_weight p) world.callers who caller own is,
      )) in
      record {
        safe = safe;
        asks = λ i c at_i. elim (at_set_apart world.callers who i own c at_i) [
          | inl same ↦ subst (λ (k : Caller). Asks (SettledIn next) k.work.place) same
              (asks_map after (SettledIn next) to.place there step.asks)
          | inr old ↦ asks_map (SettledIn world) (SettledIn next) c.work.place
              (λ p s. there p (step.settled p (settled_here p s))) (h.asks i c old.0)
        ];
        partners = λ x p has.
            elim (step.partners x p has) [
              | inl some ↦ inl (omega (arith, total_set (fresh_weight x) world.callers who caller own is))
              | inr settled ↦ inr (there p settled)
            ];
      }

  steps_talk : (need : Need) (choice : Choice) → next_of caller.work ≡ Some need
      → IsTalkSafe (after_answer world who caller.work (answered (scene_of world caller) need (is_call caller.work.place) choice))
  steps_talk need choice next =
      let place : Place = caller.work.place in
      let rest : Rest = caller.work.rest in
      let paid : IsSeenTo (λ x. 1) choice = inr (λ x. omega arith) in
      let step : TalksIf here others_opening few_opening place rest choice (Some need) =
      subst (TalksIf here others_opening few_opening place rest choice) next
      (place_talks here others_opening few_opening place rest choice talks
      (step_safe 1 world who caller is h.safe choice paid)) in
      moved_talk _ _
      (subst (λ ls. let a = answered (scene world.book world.legs ls) need (is_call place) choice in
      IsTalkStep others_opening here.others_fresh world.book world.legs place a.scene (told_at place a.reply rest).place)
      (sym (h.safe.named.leases who caller is)) step)
      (steps_safe 1 world who caller is h.safe need choice next paid)

  start_asks : (P : LegName → Type 0) (start : Start) → Asks P (work_of start).place
  start_asks P (ADatagram peer) = tt
  start_asks P start = tt

  begins_talk : (start : Start) → next_of caller.work ≡ None → IsTalkSafe (begins world who caller None start)
  begins_talk start idle =
      let to : Work = work_of start in
      let still : (p : LegName) → SettledAt others_opening world.book world.legs caller.work.place p
      → SettledAt others_opening world.book world.legs to.place p = λ p s. resettled _ s (omega (
        arith,
        s.unopened,
        opening_fresh to.place p,
        fresh_few to.place p,
        ap (times p) (start_hand start),
      )) in
      moved_talk (scene_of world caller) to (record {
        settled = still;
        asks = start_asks (SettledAt others_opening world.book world.legs to.place) start;
        partners = λ x p has. elim (partners_here x p has) [
          | inl some ↦ inl (omega (
            arith,
            some,
            fresh_few caller.work.place x,
            ap (times x) (idle_hand caller.work.place idle),
          ))
          | inr settled ↦ inr (still p settled)
        ];
      }) (begins_safe 1 world who caller is h.safe start idle)

opened_talks : (world : World) → IsOpened world → IsTalkSafe world
opened_talks world o = record {
  safe = opened_safe 1 world o;
  asks = λ who caller is. subst (λ (w : Work). Asks (SettledIn world) w.place)
      (sym (all_at IsFresh world.callers who caller o.idle is).0) tt;
  partners = λ x p has. let none : None ≡ Some p = sym (no_partner world.book x.number o.book (o.no_name x.number)) ∙ partner_at
      world.book x p has in absurd (cc);
}

pub talks_in : (world : World) → IsOpened world → (events : List Event) → IsTalkSafe (run events world)
talks_in world o events = any_run IsTalkSafe (record {
  step = λ world who caller need choice is next may h. steps_talk world who caller is h need choice next;
  start = λ world who caller start is idle h. begins_talk world who caller is h start idle;
}) events world (opened_talks world o)

-- ---- consequences
not_talk : {A : Type 0} (own command : Command MediaSpan) → own ≡ command → is_talk own ≡ false → is_talk command ≡ true → A
not_talk own command same apart talk = absurd (true≢false (sym talk ∙ ap is_talk (sym same) ∙ apart))

module _ (world : World) where
  -- only a partner gets such an order
  settled_for : (place : Place) (name : LegName) (command : Command MediaSpan) → next_at place ≡ Some (needs.Order name command)
      → is_talk command ≡ true
      → Asks (SettledIn world) place → SettledIn world name
  settled_for (places.Passing partner own) name command is talk h = let e : partner ≡ name = cc in subst (SettledIn world) e h
  settled_for (places.Rejecting offered cause) name command is talk h = not_talk (commands.Reject cause) command (cc) refl talk
  settled_for (places.Accepting offered target format) name command is talk h =
      not_talk (commands.Accept format) command (cc) refl talk
  settled_for (places.Dooming own cause) name command is talk h = not_talk (commands.Doom cause) command (cc) refl talk
  settled_for (places.HangingUp own partner cause) name command is talk h =
      not_talk (commands.Hangup cause) command (cc) refl talk
  settled_for (places.Paying own cause) name command is talk h = not_talk commands.Paid command (cc) refl talk
  settled_for (places.HangUp own) name command is talk h = not_talk (commands.Hangup NormalClearing) command (cc) refl talk
  settled_for place name command is talk h = absurd (cc)

  pub none_meets_offered : IsTalkSafe world → NoneMeetsOffered world
  none_meets_offered h who caller name command leg is next talk found offered =
      let settled : SettledIn world name = settled_for caller.work.place name command next talk (h.asks who caller is) in
      let parts = found_if name (leg_at world.legs name.peer name.number) leg found in
      let not_pending : is_pending leg.seen.stage ≡ false = all_found (NotPending name) world.legs name.peer name.number leg
      settled.not_pending parts.0
      (ap (λ n. is_same n name) parts.1 ∙ is_same_itself name) in
      true≢false (sym (ap is_pending offered) ∙ not_pending)
