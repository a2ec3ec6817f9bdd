-- In every world that the steps of calls lead to, each leg that is kept has a partner, or somebody is responsible for it.
use Rattle.call_control.specs.declared.need.Route.TheVariants as routes
use Rattle.call_control.specs.declared.place.Place.TheVariants as places
use Rattle.call_control.specs.declared.reply.Reply.TheVariants as replies
use Rattle.call_signals.specs.declared.order.Command.TheVariants as commands
use Rattle.call_control.proofs.Prelude.{◌≡◌, Some, None, true, false, refl, ℕ, ◌+◌, ◌≤◌, List, [], ◌∷◌, slice_get, slice_set, ap}
use Rattle.call_control.proofs.Prelude.{arith, inl, inr, ◌⊎◌, Option, sym, subst, ◌∙◌, is_some, ◌<◌, cases_Bool, AllByRecursion}
use Rattle.call_control.proofs.Prelude.{Ok, Err, is_same, has_name, partner_of, LegName, kind_of, times, names_of, is_kept}
use Rattle.call_control.proofs.Prelude.{IsIdle, AllHavePartners, IsOpened, IsFresh, is_spent, IsWithinSteps, names_in}
use Rattle.call_control.proofs.Prelude.{names_in_all, IsLookedAfter, AllAreLookedAfter, Scene, Choice, RefusesRejecting, LeadsTo}
use Rattle.call_control.proofs.Prelude.{answer, answered, is_call, Work, Rest, next_at, next_of, advance, at, in_hand, Caller}
use Rattle.call_control.proofs.Prelude.{World, Event, Start, work_of, scene_of, begins, run, after_answer, Need, Place}
use Rattle.call_control.proofs.Prelude.{NormalClearing, same_name, bit, has_name_is}
use Rattle.call_control.proofs.Held.{scene, some_bit, bit_most}
use Rattle.call_control.proofs.Names.{IsNamed, beside, acting, start_hand, step_named, start_named, opened_named}
use Rattle.call_control.proofs.Runs.{total, others, total_split, total_set, times-append, hand_weight, at_set_apart, total_le}
use Rattle.call_control.proofs.Runs.{all_at, total_none, moved_to, run_keeps}
use Rattle.call_control.proofs.Safe.{care_at, care, past, fresh_at, go_on_care, care_named, all_map, some_of, zero_if, Covers}
use Rattle.call_control.proofs.Safe.{fresh_few, no_fresh, IsLone, moves}
use Rattle.call_control.proofs.SafeRequests.{reserves_safe, bridging_safe, give_back_safe, undoing_safe, freeing_safe}
use Rattle.call_control.proofs.SafeRequests.{open_in_safe, opening_out_safe, open_call_safe, retiring_safe, datagram_safe}
use Rattle.call_control.proofs.SafeRequests.{tick_safe}
use Rattle.call_control.proofs.SafeSteps.{Surroundings, IsSeenTo, seen, Before, Safe, SafeAnswer, unchanged, quiet, order_safe}
use Rattle.call_control.proofs.SafeSteps.{rejecting_safe, dooming_safe}

-- ---- the step of each place is safe

module _ (around : Surroundings) where
  open around use {others_care, book, legs}

  abbrev pub SafeIf : Place → Rest → Choice → Option Need → Type 0
  SafeIf place rest choice None = Unit {0}
  SafeIf place rest choice (Some need) = SafeAnswer around place rest (answered (scene book legs (in_hand place)) need
      (is_call place) choice)

  -- a new far leg has a partner, or is doomed
  checked : (target : LegName) (rest : Rest) → Before around (places.Checking target) rest → (o : Option LegName)
      → partner_of book target ≡ o
      → SafeAnswer around (places.Checking target) rest (answer (scene book legs []) (replies.Partner o))
  checked target rest b None is = quiet around b (replies.Partner None) refl refl
  checked target rest b (Some partner) is = unchanged around b legs (advance rest)
      (moves (places.Checking target) (replies.Partner (Some partner)) rest refl)
      (all_map (Covers book (seen around (at (places.Checking target) rest))) (Covers book (seen around (advance rest))) legs
      (λ leg c kept. elim (cases_Bool (is_same target leg.name)) [
        | inl same ↦
            let one : bit (is_some (partner_of book leg.name)) ≡ 1 =
            ap (λ o. bit (is_some o)) (ap (partner_of book) (sym (same_name target leg.name same)) ∙ is) in omega arith
        | inr other ↦ omega (arith, ap bit other, c kept, go_on_care rest leg.name)
      ]) b.covered)

  pub place_safe : (place : Place) (rest : Rest) (choice : Choice) → IsSeenTo others_care choice → Before around place rest
      → SafeIf place rest choice (next_at place)
  place_safe (places.Datagram peer) rest choice _ b = datagram_safe around peer rest choice b
  place_safe (places.ReserveIn peer) rest choice _ b = reserves_safe around peer b refl (λ name. refl) (λ r. refl)
  place_safe (places.RejectNew peer) rest (RefusesRejecting error) _ b = quiet around b (replies.RejectNew (Err error)) refl refl
  place_safe (places.RejectNew peer) rest choice _ b = quiet around b (replies.RejectNew (Ok tt)) refl refl
  place_safe (places.OpenIn name) rest choice _ b = open_in_safe around name rest choice b
  place_safe (places.GiveBack name) rest choice _ b = give_back_safe around name rest b
  place_safe (places.Routing offered) rest (LeadsTo route) _ b = quiet around b (replies.Route route) refl refl
  place_safe (places.Routing offered) rest choice _ b = quiet around b (replies.Route routes.Nowhere) refl refl
  place_safe (places.Rejecting offered cause) rest choice _ b = rejecting_safe around offered cause rest choice b
  place_safe (places.ReserveOut offered peer format) rest choice _ b = reserves_safe around peer b refl (λ name. refl) (λ r. refl)
  place_safe (places.Bridging offered target format) rest choice _ b = bridging_safe around offered target format rest b
  place_safe (places.Accepting offered target format) rest choice _ b = order_safe around b offered (commands.Accept format)
      choice (λ r. refl)
  place_safe (places.OpenOut offered target) rest choice _ b = opening_out_safe around offered target rest choice b
  place_safe (places.Checking target) rest choice _ b = checked target rest b (partner_of book target) refl
  place_safe (places.Undoing offered target) rest choice _ b = undoing_safe around offered target rest b
  place_safe (places.Dooming name cause) rest choice seen_to b = dooming_safe around name cause rest choice b seen_to
  place_safe (places.Finding name command) rest choice _ b = quiet around b (replies.Partner _) refl refl
  place_safe (places.Passing partner command) rest choice _ b = order_safe around b partner (kind_of command) choice (λ r. refl)
  place_safe (places.Looking name) rest choice _ b = quiet around b (replies.Look _) refl refl
  place_safe (places.LookingAt peer number) rest choice _ b = quiet around b (replies.Look _) refl refl
  place_safe (places.FindingPartner name cause) rest choice _ b = quiet around b (replies.Partner _) refl refl
  place_safe (places.HangingUp name partner cause) rest choice _ b = order_safe around b partner (commands.Hangup cause) choice
      (λ r. refl)
  place_safe (places.Paying name cause) rest choice _ b = order_safe around b name commands.Paid choice (λ r. refl)
  place_safe (places.Retiring name cause) rest choice _ b = retiring_safe around name cause rest choice b
  place_safe (places.Freeing name cause) rest choice _ b = freeing_safe around name cause rest b
  place_safe (places.Tick peer) rest choice _ b = tick_safe around peer rest choice b
  place_safe (places.HangUp name) rest choice _ b = order_safe around b name (commands.Hangup NormalClearing) choice (λ r. refl)
  place_safe (places.ReserveCall peer) rest choice _ b = reserves_safe around peer b refl (λ name. refl) (λ r. refl)
  place_safe (places.OpenCall name) rest choice _ b = open_call_safe around name rest choice b
  place_safe places.End rest choice _ b = tt

-- ---- runs

abbrev pub past_weight : LegName → Caller → ℕ
past_weight x caller = past caller.work x

abbrev pub fresh_weight : LegName → Caller → ℕ
fresh_weight x caller = fresh_at caller.work.place x

abbrev pub care_weight : LegName → Caller → ℕ
care_weight x caller = care caller.work x

abbrev all_care : ℕ → World → LegName → ℕ
all_care outside world x = outside + total (care_weight x) world.callers

-- the invariant of bridges, stages and Doom; outside: the number of others, apart from the callers, who are responsible for
-- every leg
pub record IsSafe (outside : ℕ) (world : World) : Type 0 where
  pub named : IsNamed world
  -- a name that may be bridged or whose partner may be looked for was given out, and nobody has a fresh lease for it
  pub known : (x : LegName) → 1 ≤ total (past_weight x) world.callers → x.serial < world.book.next
  pub apart : (x : LegName) → 1 ≤ total (past_weight x) world.callers → total (fresh_weight x) world.callers ≡ 0
  -- each leg that is kept has a partner, or somebody is responsible for it
  pub covered : AllByRecursion (Covers world.book (all_care outside world)) world.legs
  -- the name of such a lease has no partner, or the offered leg of its caller
  pub lone : (who : ℕ) (caller : Caller) → slice_get world.callers who ≡ Some caller → IsLone world.book caller.work.place

-- nobody is responsible for a leg by an idle caller's work
pub idle_care : (place : Place) (rest : Rest) (x : LegName) → next_at place ≡ None → care_at place rest x ≡ 0
idle_care place rest x idle = grind arith

module _ (outside : ℕ) (world : World) (who : ℕ) (caller : Caller) (is : slice_get world.callers who ≡ Some caller)
    (h : IsSafe outside world) where
  abbrev pub others_care : LegName → ℕ
  others_care x = outside + total (care_weight x) (others world.callers who)

  abbrev pub others_fresh : LegName → ℕ
  others_fresh x = total (fresh_weight x) (others world.callers who)

  pub few : (x : LegName) → others_fresh x ≤ beside world who x
  few x = total_le (fresh_weight x) (hand_weight x) (others world.callers who) (λ c. fresh_few c.work.place x)

  abbrev pub around : Surroundings
  around = record {
    others_care = others_care;
    others_fresh = others_fresh;
    beside = beside world who;
    few = few;
    book = world.book;
    legs = world.legs;
  }

  pub place_before : Before around caller.work.place caller.work.rest
  place_before = record {
    held = acting world who caller is h.named;
    known = λ x some. h.known x (omega (arith, total_split (past_weight x) world.callers who caller is));
    apart = λ x some. omega (
      arith,
      h.apart x (omega (arith, total_split (past_weight x) world.callers who caller is)),
      total_split (fresh_weight x) world.callers who caller is,
    );
    covered = all_map (Covers world.book (all_care outside world))
        (Covers world.book (λ x. care caller.work x + others_care x)) world.legs
        (λ leg c kept. omega (arith, c kept, total_split (care_weight leg.name) world.callers who caller is)) h.covered;
    lone = h.lone who caller is;
  }

  moved_safe : (new : Scene) (to : Work) → Safe around caller.work.place caller.work.rest new to
      → IsNamed (moved_to world who new to) → IsSafe outside (moved_to world who new to)
  moved_safe new to safe named =
      let own : Caller = record { work = to; leases = new.leases } in
      let before : (x : LegName) → 1 ≤ total (past_weight x) (slice_set world.callers who own)
      → (1 ≤ total (past_weight x) world.callers) ⊎ (1 ≤ times x (names_of new.legs)) = λ x some.
      elim (some_of (past to x) (total (past_weight x) (others world.callers who)) (omega (
        arith,
        total_set (past_weight x) world.callers who caller own is,
      ))) [
        | inl some ↦ elim (safe.past x some) [
          | inl old ↦ inl (omega (arith, total_split (past_weight x) world.callers who caller is))
          | inr leg ↦ inr leg
        ]
        | inr other ↦ inl (omega (arith, total_split (past_weight x) world.callers who caller is))
      ] in
      record {
        named = named;
        known = λ x some. elim (before x some) [
          | inl old ↦ omega (arith, h.known x old, safe.next)
          | inr leg ↦
              let has : has_name new.book x ≡ true = some_bit (has_name new.book x) (omega (arith, named.once x)) in
              (named.sound.placed x.number x (has_name_is new.book x has)).2
        ];
        apart = λ x some. elim (before x some) [
          | inl old ↦
              let none : fresh_at to.place x ≡ 0 = zero_if (fresh_at to.place x) (λ one. elim (safe.fresh x one) [
                | inl was ↦ omega (arith, h.apart x old, total_split (fresh_weight x) world.callers who caller is)
                | inr late ↦ omega (arith, h.known x old)
              ]) in
              omega (
                arith,
                h.apart x old,
                total_split (fresh_weight x) world.callers who caller is,
                total_set (fresh_weight x) world.callers who caller own is,
              )
          | inr leg ↦ omega (
            arith,
            named.once x,
            bit_most (has_name new.book x),
            total_le (fresh_weight x) (hand_weight x) (slice_set world.callers who own) (λ c. fresh_few c.work.place x),
          )
        ];
        covered = all_map (Covers new.book (λ x. care to x + others_care x))
            (Covers new.book (all_care outside (moved_to world who new to))) new.legs
            (λ leg c kept. omega (arith, c kept, total_set (care_weight leg.name) world.callers who caller own is)) safe.covered;
        lone = λ i c at_i. elim (at_set_apart world.callers who i own c at_i) [
          | inl same ↦ subst (λ (k : Caller). IsLone new.book k.work.place) same safe.lone
          | inr old ↦ λ y p some partner. h.lone i c old.0 y p some (safe.others_lone y p (omega (arith, old.1 (fresh_weight y)))
              partner)
        ];
      }

  -- the step is safe, unless it is a Doom for which nobody else is responsible
  pub step_safe : (choice : Choice) → IsSeenTo (λ x. outside) choice
      → SafeIf around caller.work.place caller.work.rest choice (next_of caller.work)
  step_safe choice paid = place_safe around caller.work.place caller.work.rest choice (seen_to paid) place_before
    where
      seen_to : IsSeenTo (λ x. outside) choice → IsSeenTo others_care choice
      seen_to (inl within) = inl within
      seen_to (inr some) = inr (λ x. omega (arith, some x))

  pub steps_safe : (need : Need) (choice : Choice) → next_of caller.work ≡ Some need → IsSeenTo (λ x. outside) choice
      → IsSafe outside (after_answer world who caller.work (answered (scene_of world caller) need (is_call caller.work.place)
      choice))
  steps_safe need choice next paid = moved_safe _ _
      (subst (λ ls. SafeAnswer around caller.work.place caller.work.rest (answered (scene world.book world.legs ls) need
      (is_call caller.work.place) choice)) (sym (h.named.leases who caller is))
      (subst (SafeIf around caller.work.place caller.work.rest choice) next (step_safe choice paid)))
      (step_named world who caller is h.named need choice next)

  start_past : (start : Start) (x : LegName) → past (work_of start) x ≡ 0
  start_past start x = grind arith

  pub begins_safe : (start : Start) → next_of caller.work ≡ None → IsSafe outside (begins world who caller None start)
  begins_safe start idle =
      let to : Work = work_of start in
      moved_safe (scene_of world caller) to (record {
        past = λ x some. absurd (omega (arith, start_past start x));
        fresh = λ x some. no_fresh to.place x _ (start_hand start) some;
        next = omega arith;
        covered = all_map (Covers world.book (λ x. care caller.work x + others_care x))
            (Covers world.book (λ x. care to x + others_care x)) world.legs
            (λ leg c kept. omega (arith, c kept, idle_care caller.work.place caller.work.rest leg.name idle))
            place_before.covered;
        lone = λ y p some is. no_fresh to.place y _ (start_hand start) some;
        others_lone = λ y p some is. is;
      }) (start_named world who caller is h.named start idle)

-- ---- at the opening
pub opened_safe : (outside : ℕ) (world : World) → IsOpened world → IsSafe outside world
opened_safe outside world o =
    let none : (x : LegName) → total (past_weight x) world.callers ≡ 0 = λ x. total_none (past_weight x) world.callers
    (λ who caller is. ap (λ w. past w x) (all_at IsFresh world.callers who caller o.idle is).0) in
    record {
      named = opened_named world o;
      known = λ x some. absurd (omega (arith, none x));
      apart = λ x some. absurd (omega (arith, none x));
      covered = subst (AllByRecursion (Covers world.book (all_care outside world))) (sym o.no_leg) tt;
      lone = λ who caller is y p some partner. no_fresh caller.work.place y _
          (ap (λ (w : Work). in_hand w.place) (all_at IsFresh world.callers who caller o.idle is).0) some;
    }

pub safe : (world : World) → IsOpened world → (events : List Event) → AllByRecursion IsWithinSteps events
    → IsSafe 0 (run events world)
safe world o events within = run_keeps (IsSafe 0) (λ choice. is_spent choice ≡ false) (record {
  step = λ world who caller need choice is next within h. steps_safe 0 world who caller is h need choice next (inl within);
  start = λ world who caller start is idle h. begins_safe 0 world who caller is h start idle;
}) events world within (opened_safe 0 world o)

-- ---- consequences
named_all : (x : LegName) (callers : List Caller) → total (care_weight x) callers ≤ times x (names_in_all callers)
named_all x [] = omega arith
named_all x (caller ∷ callers) = omega (
  arith,
  care_named caller.work x,
  named_all x callers,
  times-append x (names_in caller.work) (names_in_all callers),
)

pub looked_after : (world : World) → IsSafe 0 world → AllAreLookedAfter world
looked_after world h = all_map (Covers world.book (all_care 0 world)) (IsLookedAfter world) world.legs
    (λ leg c kept. omega (arith, c kept, named_all leg.name world.callers)) h.covered

pub all_have_partners : (world : World) → IsSafe 0 world → AllHavePartners world
all_have_partners world h idle =
    all_map (Covers world.book (λ x. 0 + total (care_weight x) world.callers)) (λ leg. is_kept leg ≡ true
    → is_some (partner_of world.book leg.name) ≡ true) world.legs
    (λ leg covers kept. some_bit (is_some (partner_of world.book leg.name)) (omega (
      arith,
      covers kept,
      total_none (care_weight leg.name) world.callers (λ who caller is. idle_care caller.work.place caller.work.rest leg.name
          (all_at IsIdle world.callers who caller idle is)),
    ))) h.covered
