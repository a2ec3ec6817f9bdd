-- Steps that keep the book are safe, and orders.
use Rattle.call_control.specs.declared.place.Place.TheVariants as places
use Rattle.call_control.specs.declared.reply.Reply.TheVariants as replies
use Rattle.call_signals.specs.declared.order.Command.TheVariants as commands
use Rattle.peer_lock.specs.declared.errors.OrderError.TheVariants as order_errors
use Rattle.call_control.proofs.Prelude.{◌≡◌, Some, None, true, false, refl, ℕ, ◌+◌, ◌≤◌, List, [], ap, arith, inl, inr, ◌⊎◌}
use Rattle.call_control.proofs.Prelude.{Option, sym, ◌∙◌, ◌<◌, nat_tests, AllByRecursion, Ok, Err, Result, is_same, Book, LegName}
use Rattle.call_control.proofs.Prelude.{names_of, is_kept, is_spent, Leg, Scene, Choice, RefusesOrder, leg_at, leg_named}
use Rattle.call_control.proofs.Prelude.{replaced, Answer, answer, carried, at_leg, at_order, Work, Rest, advance, told_at, at}
use Rattle.call_control.proofs.Prelude.{in_hand, Place, Reply, Cause, Kind, Stage, stage_after, OrderError, bit}
use Rattle.call_control.proofs.Held.{scene, IsHeld, found_if}
use Rattle.call_control.proofs.Safe.{care, past, fresh_at, go_on_care, brings_news, lets_go, told_care, all_map, all_replaced}
use Rattle.call_control.proofs.Safe.{all_found, all_map_in, in_book, none_named, other_than, Covers, ordered_kept}
use Rattle.call_control.proofs.Safe.{doomed_not_kept, IsLone, Moves, moves, IsSafeStep}
use Rattle.call_control.proofs.Steps.{order_ways}

apart_turned : (a b : LegName) → is_same a b ≡ false → is_same b a ≡ false
apart_turned a b h = grind (arith, nat_tests)

-- the surroundings of a caller's step
pub record Surroundings : Type 0 where
  -- of each name: how far the other callers are responsible for it, the fresh leases that they hold for it, and all their
  -- leases
  pub others_care : LegName → ℕ
  pub others_fresh : LegName → ℕ
  pub beside : LegName → ℕ
  pub few : (x : LegName) → others_fresh x ≤ beside x
  pub book : Book
  pub legs : List Leg

-- the peer's steps aren't spent, or somebody sees to every leg besides
abbrev pub IsSeenTo : (LegName → ℕ) → Choice → Type 0
IsSeenTo others_care choice = (is_spent choice ≡ false) ⊎ ((x : LegName) → 1 ≤ others_care x)

module _ (around : Surroundings) where
  open around use {others_care, others_fresh, beside, book, legs}

  abbrev pub seen : Work → LegName → ℕ
  seen work x = care work x + others_care x

  abbrev pub Sees : Work → List Leg → Type 0
  Sees work ls = AllByRecursion (Covers book (seen work)) ls

  -- before a step at a place
  pub record Before (place : Place) (rest : Rest) : Type 0 where
    pub held : IsHeld beside (scene book legs (in_hand place))
    pub known : (x : LegName) → 1 ≤ past (at place rest) x → x.serial < book.next
    pub apart : (x : LegName) → 1 ≤ past (at place rest) x → fresh_at place x + others_fresh x ≡ 0
    pub covered : AllByRecursion (Covers book (seen (at place rest))) legs
    pub lone : IsLone book place

  abbrev pub Safe : Place → Rest → Scene → Work → Type 0
  Safe place rest new to = IsSafeStep others_care others_fresh place rest book new to

  abbrev pub SafeAnswer : Place → Rest → Answer → Type 0
  SafeAnswer place rest a = Safe place rest a.scene (told_at place a.reply rest)

  module _ {place : Place} {rest : Rest} (b : Before place rest) where
    abbrev before : Work
    before = at place rest

    abbrev s : Scene
    s = scene book legs (in_hand place)

    abbrev done : Reply → Work
    done reply = told_at place reply rest

    -- the book stays
    pub unchanged : {leases : List LegName} (new : List Leg) (to : Work) → Moves place rest to → Sees to new
        → Safe place rest (scene book new leases) to
    unchanged new to goes covered = record {
      past = λ x some. inl (omega (arith, goes.past x));
      fresh = λ x some. inl (goes.fresh x some).0;
      next = omega arith;
      covered = covered;
      lone = λ y p some is. let f = goes.fresh y some in sym f.1 ∙ b.lone y p f.0 is;
      others_lone = λ y p some is. is;
    }

    pub more_care : (to : Work) → ((x : LegName) → care before x ≤ care to x) → Sees to legs
    more_care to le = all_map (Covers book (seen before)) (Covers book (seen to)) legs
        (λ leg c kept. omega (arith, c kept, le leg.name)) b.covered

    -- nothing but the place changes
    pub quiet : {leases : List LegName} (reply : Reply) → brings_news reply ≡ false → lets_go place reply ≡ false
        → SafeAnswer place rest (answer (scene book legs leases) reply)
    quiet reply calm held = unchanged legs (done reply) (moves place reply rest calm)
        (more_care (done reply) (λ x. told_care place reply rest x held))

    -- ---- orders
    module _ (name : LegName) where
      -- the leg isn't there
      pub none_apart : (to : Work) → ((x : LegName) → is_same name x ≡ false → care before x ≤ care to x)
          → leg_named legs name ≡ None → Sees to legs
      none_apart to le none = all_map_in (Covers book (seen before)) (Covers book (seen to)) legs
          (λ leg there c kept. omega (
            arith,
            c kept,
            le leg.name (other_than name leg.name (names_of legs) (none_named book legs name
                (λ x some. in_book beside s b.held x (omega arith)) none) there),
          )) b.covered

      -- the leg is carried to a stage
      pub obeyed : (to : Work) (kind : Kind) (leg : Leg) (stage : Stage) → leg_named legs name ≡ Some leg
          → ((x : LegName) → is_same name x ≡ false → care before x ≤ care to x)
          → (Covers book (seen before) leg → Covers book (seen to) (carried kind leg stage))
          → Sees to (replaced legs (carried kind leg stage))
      obeyed to kind leg stage found le new =
          let parts = found_if name (leg_at legs name.peer name.number) leg found in
          let own : Covers book (seen before) leg = all_found (Covers book (seen before)) legs name.peer name.number leg b.covered
          parts.0 in
          all_replaced (Covers book (seen before)) (Covers book (seen to)) legs (carried kind leg stage) (new own)
          (λ other differs c kept. omega (
            arith,
            c kept,
            le other.name (apart_turned other.name name
                (ap (is_same other.name) (sym parts.1) ∙ differs)),
          ))
          b.covered

      -- an order that takes responsibility from nobody
      pub order_safe : (kind : Kind) (choice : Choice)
          → ((r : Result (Unit {0}) OrderError) → lets_go place (replies.Order r) ≡ false)
          → SafeAnswer place rest (at_order s name kind choice)
      order_safe kind choice held =
          let le : (x : LegName) → care before x ≤ care (done (replies.Order (Ok tt))) x =
          λ x. told_care place (replies.Order (Ok tt)) rest x (held (Ok tt)) in
          order_ways (SafeAnswer place rest) s name kind choice
          (λ error. quiet (replies.Order (Err error)) refl (held (Err error)))
          (λ leg stage found is. unchanged _ (done (replies.Order (Ok tt))) (moves place (replies.Order (Ok tt)) rest refl)
          (obeyed (done (replies.Order (Ok tt))) kind leg stage found (λ x _. le x)
          (λ c kept. omega (arith, c (ordered_kept kind leg stage is kept), le leg.name))))

  -- a leg that is rejected closes
  pub rejecting_safe : (offered : LegName) (cause : Cause) (rest : Rest) (choice : Choice)
      → Before (places.Rejecting offered cause) rest → SafeAnswer (places.Rejecting offered cause) rest
      (at_order (scene book legs []) offered (commands.Reject cause) choice)
  rejecting_safe offered cause rest choice b = order_ways (SafeAnswer (places.Rejecting offered cause) rest) (scene book legs [])
      offered (commands.Reject cause) choice (λ error. quiet b (replies.Order (Err error)) refl refl)
      (λ leg stage found is. unchanged b _ (advance rest)
      (moves (places.Rejecting offered cause) (replies.Order (Ok tt)) rest refl)
      (obeyed b offered (advance rest) (commands.Reject cause) leg stage found
      (λ x other. let none : bit (is_same offered x) ≡ 0 = ap bit other in omega (arith, go_on_care rest x))
      (λ c kept. absurd (closes leg stage is kept))))
    where
      closes : (leg : Leg) (after : Stage) → stage_after (commands.Reject cause) leg.seen.stage ≡ Some after
          → is_kept (carried (commands.Reject cause) leg after) ≡ true → ⊥
      closes leg after ok kept = grind arith

  -- Doom: the leg is doomed, closed or gone
  pub dooming_safe : (name : LegName) (cause : Cause) (rest : Rest) (choice : Choice)
      → Before (places.Dooming name cause) rest → IsSeenTo others_care choice → SafeAnswer (places.Dooming name cause) rest
      (at_order (scene book legs []) name (commands.Doom cause) choice)
  dooming_safe name cause rest choice b seen_to = go choice seen_to
    where
      goes_on : (new : List Leg) → Sees (advance rest) new → Safe (places.Dooming name cause) rest (scene book new []) (advance
          rest)
      goes_on new = unchanged b new (advance rest) (moves (places.Dooming name cause) (replies.Order (Ok tt)) rest refl)

      apart_care : (x : LegName) → is_same name x ≡ false → care (at (places.Dooming name cause) rest) x ≤ care (advance rest) x
      apart_care x other = let none : bit (is_same name x) ≡ 0 = ap bit other in omega (arith, go_on_care rest x)

      doom : (o : Option Leg) (choice : Choice) → leg_named legs name ≡ o → SafeAnswer (places.Dooming name cause) rest
          (at_leg (scene book legs []) (commands.Doom cause) o choice)
      doom None choice found = goes_on legs (none_apart b name (advance rest) apart_care found)
      doom (Some leg) (RefusesOrder error) found = goes_on _ (obeyed b name (advance rest) (commands.Doom cause) leg
          leg.seen.stage
          found apart_care (λ c kept. absurd (doomed_not_kept cause leg leg.seen.stage kept)))
      doom (Some leg) choice found = goes_on _ (obeyed b name (advance rest) (commands.Doom cause) leg leg.seen.stage found
          apart_care (λ c kept. absurd (doomed_not_kept cause leg leg.seen.stage kept)))

      go : (choice : Choice) → IsSeenTo others_care choice → SafeAnswer (places.Dooming name cause) rest
          (at_order (scene book legs []) name (commands.Doom cause) choice)
      go (RefusesOrder order_errors.StepsSpent) (inl paid) = absurd (cc)
      go (RefusesOrder order_errors.StepsSpent) (inr seen_to) = goes_on legs
          (all_map (Covers book (seen (at (places.Dooming name cause) rest))) (Covers book (seen (advance rest))) legs
          (λ leg c kept. omega (arith, seen_to leg.name)) b.covered)
      go choice seen_to = doom (leg_named legs name) choice refl
