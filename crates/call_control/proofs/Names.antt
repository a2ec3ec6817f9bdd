-- In every world that the steps of calls lead to, each name is held once.
use Rattle.call_control.specs.declared.need.Need.TheVariants as needs
use Rattle.call_control.proofs.Prelude.{◌≡◌, Some, None, true, refl, ℕ, ◌+◌, ◌≤◌, List, [], ◌∷◌, slice_get, slice_set, ap, arith}
use Rattle.call_control.proofs.Prelude.{inl, inr, Option, sym, subst, ◌∙◌, is_same, has_name, IsBook, IsNumberOf, is_name_in}
use Rattle.call_control.proofs.Prelude.{LegName, times, leases_of, names_of, IsIdle, NamesAreTheLegs, IsOpened, IsFresh}
use Rattle.call_control.proofs.Prelude.{NamesAreHeldOnce, NoneIsBusy, NoneIsOutside, NoneIsStale, NumbersServeOne, Leg, Scene}
use Rattle.call_control.proofs.Prelude.{Choice, leg_at, without, Answer, is_leased, answered, is_call, Work, next_at, next_of}
use Rattle.call_control.proofs.Prelude.{after_told, in_hand, Caller, World, Event, Start, work_of, scene_of, begins, run}
use Rattle.call_control.proofs.Prelude.{after_answer, Need, Place, is_same_itself, bit, has_name_is, one_per_number}
use Rattle.call_control.proofs.Held.{scene, IsHeld, some_bit, bit_most, found_at, leased_own, without_times}
use Rattle.call_control.proofs.Runs.{total, others, total_split, total_set, times-append, hand_weight, leases_total, at_set_apart}
use Rattle.call_control.proofs.Runs.{all_at, total_none, any_run}
use Rattle.call_control.proofs.Steps.{hand_for, needed, hand_on, leases_after, own_known, step_held}

-- the invariant of names, leases and legs
pub record IsNamed (world : World) : Type 0 where
  pub sound : IsBook world.book
  pub leases : (who : ℕ) (caller : Caller) → slice_get world.callers who ≡ Some caller → caller.leases ≡ in_hand caller.work.place
  pub once : (x : LegName) → times x (names_of world.legs) + total (hand_weight x) world.callers ≡ bit (has_name world.book x)

-- the other callers, as an acting caller sees them
abbrev pub beside : World → ℕ → LegName → ℕ
beside world who x = total (hand_weight x) (others world.callers who)

pub acting : (world : World) (who : ℕ) (caller : Caller) → slice_get world.callers who ≡ Some caller → IsNamed world
    → IsHeld (beside world who) (scene world.book world.legs (in_hand caller.work.place))
acting world who caller is h =
    record { sound = h.sound; once = λ x. omega (arith, h.once x, total_split (hand_weight x) world.callers who caller is) }

-- an idle caller has no lease, nor has one that begins
pub idle_hand : (place : Place) → next_at place ≡ None → in_hand place ≡ []
idle_hand place idle = grind arith

pub start_hand : (start : Start) → in_hand (work_of start).place ≡ []
start_hand start = grind arith

module _ (world : World) (who : ℕ) (caller : Caller) (is : slice_get world.callers who ≡ Some caller) (h : IsNamed world) where
  -- the leases of all once this caller has others
  leases_set : (new : Caller) → new.leases ≡ in_hand new.work.place → (i : ℕ) (c : Caller)
      → slice_get (slice_set world.callers who new) i ≡ Some c → c.leases ≡ in_hand c.work.place
  leases_set new own i c at = elim (at_set_apart world.callers who i new c at) [
    | inl same ↦ subst (λ (k : Caller). k.leases ≡ in_hand k.work.place) same own
    | inr old ↦ h.leases i c old.0
  ]

  pub step_named : (need : Need) (choice : Choice) → next_of caller.work ≡ Some need
      → IsNamed (after_answer world who caller.work (answered (scene_of world caller) need (is_call caller.work.place) choice))
  step_named need choice next =
      let place : Place = caller.work.place in
      let s : Scene = scene world.book world.legs (in_hand place) in
      let hand : caller.leases ≡ in_hand place = h.leases who caller is in
      subst (λ ls. IsNamed (after_answer world who caller.work (answered (scene world.book world.legs ls) need (is_call place)
      choice))) (sym hand)
      (let a : Answer = answered s need (is_call place) choice in
      let new : Caller = record { work = after_told caller.work a.reply; leases = a.scene.leases } in
      let own : s.leases ≡ hand_for (Some need) s.leases = needed place need next in
      let held : IsHeld (beside world who) a.scene = step_held (beside world who) s (acting world who caller is h) need
      (is_call place) choice own in
      let left : a.scene.leases ≡ in_hand new.work.place = leases_after s need (is_call place) choice own
      ∙ sym (hand_on place need a.reply caller.work.rest next) in
      record {
        sound = held.sound;
        leases = leases_set new left;
        once = λ x. omega (arith, held.once x, ap (times x) left, total_set (hand_weight x) world.callers who caller new is);
      })

  pub start_named : (start : Start) → next_of caller.work ≡ None → IsNamed (begins world who caller None start)
  start_named start idle =
      let new : Caller = record caller { work = work_of start } in
      record {
        sound = h.sound;
        leases = leases_set new (h.leases who caller is ∙ idle_hand caller.work.place idle ∙ sym (start_hand start));
        once = λ x. omega (
          arith,
          h.once x,
          total_split (hand_weight x) world.callers who caller is,
          total_set (hand_weight x) world.callers who caller new is,
          ap (times x) (idle_hand caller.work.place idle),
          ap (times x) (start_hand start),
        );
      }

pub opened_named : (world : World) → IsOpened world → IsNamed world
opened_named world o =
    record {
      sound = o.book;
      leases = λ who caller is.
          let fresh : IsFresh caller = all_at IsFresh world.callers who caller o.idle is in
          fresh.1 ∙ sym (ap (λ (w : Work). in_hand w.place) fresh.0);
      once = λ x.
          let no_legs : times x (names_of world.legs) ≡ 0 = ap (λ legs. times x (names_of legs)) o.no_leg in
          let none : bit (has_name world.book x) ≡ 0 = ap (λ n. bit (is_name_in n x)) (o.no_name x.number) in
          omega (
            arith,
            total_none (hand_weight x) world.callers (λ who caller is. ap (λ (w : Work). times x (in_hand w.place))
                (all_at IsFresh world.callers who caller o.idle is).0),
          );
    }

pub named : (world : World) → IsOpened world → (events : List Event) → IsNamed (run events world)
named world o events = any_run IsNamed (record {
  step = λ world who caller need choice is next may h. step_named world who caller is h need choice next;
  start = λ world who caller start is idle h. start_named world who caller is h start idle;
}) events world (opened_named world o)

-- ---- consequences
pub held_once : (world : World) → IsNamed world → NamesAreHeldOnce world
held_once world h x = omega (
  arith,
  h.once x,
  times-append x (names_of world.legs) (leases_of world.callers),
  leases_total x world.callers h.leases,
)

none_if : (o : Option Leg) → ((leg : Leg) → o ≡ Some leg → ⊥) → o ≡ None
none_if None never = refl
none_if (Some leg) never = absurd (never leg refl)

-- no leg has the number of a lease
not_found : (others : LegName → ℕ) (s : Scene) (name : LegName) → s.leases ≡ name ∷ [] → IsHeld others s
    → leg_at s.legs name.peer name.number ≡ None
not_found others s name own h = none_if (leg_at s.legs name.peer name.number) (λ leg is.
    let there = found_at s.legs name.peer name.number leg is in
    let has_own : has_name s.book name ≡ true = own_known others s name own h in
    let has_leg : has_name s.book leg.name ≡ true = some_bit (has_name s.book leg.name) (omega (
      arith,
      h.once leg.name,
      there.2,
    )) in
    let same : leg.name ≡ name = one_per_number s.book leg.name name has_leg has_own there.1 in
    let here : 1 ≤ times name (names_of s.legs) = subst (λ n. 1 ≤ times n (names_of s.legs)) same there.2 in
    absurd (omega (
      arith,
      h.once name,
      ap (times name) own,
      ap bit (is_same_itself name),
      bit_most (has_name s.book name),
    )))

pub numbers_serve_one : (world : World) → IsNamed world → NumbersServeOne world
numbers_serve_one world h peer number leg at = none_if (leg_at (without world.legs leg.name) peer number) (λ other left.
    let here = found_at world.legs peer number leg at in
    let there = found_at (without world.legs leg.name) peer number other left in
    let kept = without_times world.legs leg.name other.name in
    let has : (name : LegName) → 1 ≤ times name (names_of world.legs) → has_name world.book name ≡ true =
    λ name some. some_bit (has_name world.book name) (omega (arith, h.once name)) in
    let same : leg.name ≡ other.name = one_per_number world.book leg.name other.name (has leg.name here.2)
    (has other.name (omega (arith, there.2, kept))) (here.1 ∙ sym there.1) in
    let test : is_same leg.name other.name ≡ true = rw same (is_same_itself other.name) in
    let all = rw test at kept in
    absurd (omega (arith, there.2, all)))

module _ (world : World) (h : IsNamed world) where
  -- a caller whose next step needs one lease
  module _ (who : ℕ) (caller : Caller) (name : LegName) (is : slice_get world.callers who ≡ Some caller)
      (hand : in_hand caller.work.place ≡ name ∷ []) where
    held : IsHeld (beside world who) (scene world.book world.legs (name ∷ []))
    held = subst (λ ls. IsHeld (beside world who) (scene world.book world.legs ls)) hand (acting world who caller is h)

    leased : is_leased caller.leases name ≡ true
    leased = ap (λ ls. is_leased ls name) (h.leases who caller is ∙ hand) ∙ leased_own name

    free : leg_at world.legs name.peer name.number ≡ None
    free = not_found (beside world who) (scene world.book world.legs (name ∷ [])) name refl held

    known : has_name world.book name ≡ true
    known = own_known (beside world who) (scene world.book world.legs (name ∷ [])) name refl held

    inside : IsNumberOf world.book.counts name.peer name.number
    inside = (h.sound.placed name.number name (has_name_is world.book name known)).1

  pub not_stale : NoneIsStale world
  not_stale = record {
    leased = λ who caller name is next. leased who caller name is (needed caller.work.place (needs.Release name) next);
    known = λ who caller name is next. known who caller name is (needed caller.work.place (needs.Release name) next);
  }

  pub not_busy : NoneIsBusy world
  not_busy = record {
    leased_in = λ who caller name is next. leased who caller name is (needed caller.work.place (needs.OpenIn name) next);
    leased_out = λ who caller name is next. leased who caller name is (needed caller.work.place (needs.OpenOut name) next);
    opens_in = λ who caller name is next. free who caller name is (needed caller.work.place (needs.OpenIn name) next);
    opens_out = λ who caller name is next. free who caller name is (needed caller.work.place (needs.OpenOut name) next);
  }

  pub not_outside : NoneIsOutside world
  not_outside = record {
    opens_in = λ who caller name is next. inside who caller name is (needed caller.work.place (needs.OpenIn name) next);
    opens_out = λ who caller name is next. inside who caller name is (needed caller.work.place (needs.OpenOut name) next);
  }

pub names_are_the_legs : (world : World) → IsNamed world → NamesAreTheLegs world
names_are_the_legs world h idle x = omega (
  arith,
  h.once x,
  total_none (hand_weight x) world.callers (λ who caller is. ap (times x)
      (idle_hand caller.work.place (all_at IsIdle world.callers who caller idle is))),
)
