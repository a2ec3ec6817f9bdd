-- The next steps of callers at once, at the stored peers and the stored book.
use Rattle.std.specs.Prelude.{nat_le, nat_lt, not, is_some, IsSome}
use Rattle.std.specs.List.{AllByRecursion}
use Rattle.std.proofs.Common.{◌≡◌, ℕ, ◌+◌, ◌<◌, ◌≤◌, ◌==◌, Bool, true, false, length, List, Option, Some, None, slice_get, refl}
use Rattle.std.proofs.Common.{sym, ap, subst, ◌∙◌, arith, inl, inr}
use Rattle.std.proofs.lemmas.Bool.{cases_Bool}
use Rattle.std.proofs.lemmas.Bool.Decides.{nat_tests}
use Rattle.call_book.specs.Book.{Book, IsNumberOf, is_same, has_name, partner_of}
use Rattle.call_book.specs.declared.leg_name.LegName.{LegName}
use Rattle.call_control.specs.Law.{times, names_in_all, is_heard, is_kept, IsIdle, IsLookedAfter, NoneIsOutside}
use Rattle.call_control.specs.Leases.{lease_needed}
use Rattle.call_control.specs.Scene.{Leg, is_leased, leg_at as world_leg_at, leg_named as world_leg_named}
use Rattle.call_control.specs.Work.{next_of}
use Rattle.call_control.specs.World.{World, Caller}
use Rattle.call_control.specs.declared.need.Need.{Need}
use Rattle.call_control.specs.declared.need.Need.TheVariants as needs
use Rattle.peer_lock.specs.Legs.{PeerLegs, NamedLeg, leg_at, if_named, is_free_name}
use Rattle.peer_lock.specs.Seen.{SeenNamed}
use Rattle.laws_of_calls.specs.LookedAfter.{IsKept, AllAreLookedAfter, AllHavePartners}
use Rattle.laws_of_calls.specs.Stored.{Stored, HaveRanges}
use Rattle.laws_of_calls.specs.StoredNames.{has_leg, opened_next, LeasesAreInHand, OpeningsAreFree, NoneMeetsOffered}
use Rattle.laws_of_calls.specs.StoredNames.{NamesAreTheLegs}
use Rattle.laws_of_calls.proofs.Called.{one_of}
use Rattle.laws_of_calls.proofs.Events.{lease_held}
use Rattle.laws_of_calls.proofs.HeldNames.{same_bits, IsWorlds, the_worlds, leg_times, leases_free}
use Rattle.laws_of_calls.proofs.InWorld.{IsInWorld}
use Rattle.call_book.proofs.NameLaws.{is_same_itself, same_name, bit}

-- the leg of a name, under its number
at_name : (o : Option NamedLeg) (name : LegName) (named : NamedLeg) → if_named name o ≡ Some named → (o ≡ Some named)
    × (named.name ≡ name)
at_name None name named is = absurd (cc)
at_name (Some found) name named is = elim (cases_Bool (is_same found.name name)) [
  | inl e ↦
      let same : found ≡ named = let f = rw e at is in cc in
      (ap (λ (n : NamedLeg). Some n) same, ap (λ (n : NamedLeg). n.name) (sym same) ∙ same_name found.name name e)
  | inr e ↦ absurd (let f = rw e at is in cc)
]

-- a caller that opens a leg next uses its lease
opens_leased : (need : Option Need) (name : LegName) → opened_next need ≡ Some name → lease_needed need ≡ Some name
opens_leased (Some (needs.OpenIn n)) name e = e
opens_leased (Some (needs.OpenOut n)) name e = e
opens_leased need name e = absurd (cc)

opens_inside : (world : World) (who : ℕ) (caller : Caller) (need : Option Need) (name : LegName) → NoneIsOutside world
    → slice_get world.callers who ≡ Some caller
    → next_of caller.work ≡ need → opened_next need ≡ Some name → IsNumberOf world.book.counts name.peer name.number
opens_inside world who caller (Some (needs.OpenIn n)) name outside at needed e =
    outside.opens_in who caller name at (needed ∙ ap (λ (o : LegName). Some (needs.OpenIn o)) (cc))
opens_inside world who caller (Some (needs.OpenOut n)) name outside at needed e =
    outside.opens_out who caller name at (needed ∙ ap (λ (o : LegName). Some (needs.OpenOut o)) (cc))
opens_inside world who caller need name outside at needed e = absurd (cc)

free_there : (legs : PeerLegs) (name : LegName) → name.peer ≡ legs.peer → legs.first ≤ name.number
    → name.number < legs.first + length legs.places
    → leg_at legs name.number ≡ None → is_free_name legs name ≡ true
free_there legs name peer least most none =
    let p : (name.peer == legs.peer) ≡ true = grind (arith, nat_tests) in
    let a : nat_le legs.first name.number ≡ true = grind (arith, nat_tests) in
    let b : nat_lt name.number (legs.first + length legs.places) ≡ true = grind (arith, nat_tests) in
    let c : not (is_some (leg_at legs name.number)) ≡ true = ap (λ (o : Option NamedLeg). not (is_some o)) none in
    rw (c, p, a, b) refl

module _ {within : Type 0} {called : List LegName} {stored : Stored} (in_world : IsInWorld within called stored) where
  open in_world use {are, world, seen}

  -- the world has the same caller
  stands : (who : ℕ) (caller : Caller) → slice_get stored.callers who ≡ Some caller → slice_get world.callers who ≡ Some caller
  stands who caller at = ap (λ (cs : List Caller). slice_get cs who) seen.callers ∙ at

  pub in_hand : LeasesAreInHand stored
  in_hand who caller name at needed = go (next_of caller.work) refl needed
    where
      go : (need : Option Need) → next_of caller.work ≡ need → lease_needed need ≡ Some name → is_leased caller.leases name ≡ true
      go None is e = absurd (cc)
      go (Some need) is e = lease_held world who caller need in_world.busy in_world.stale (stands who caller at) is name e

  pub openings_free : HaveRanges stored → OpeningsAreFree stored
  openings_free ranges who caller name peer at opens there =
      let lease =
      leases_free in_world who caller name at (in_hand who caller name at (opens_leased (next_of caller.work) name opens)) in
      let inside : IsNumberOf stored.book.counts name.peer name.number =
      subst (λ (b : Book). IsNumberOf b.counts name.peer name.number) seen.book
      (opens_inside world who caller (next_of caller.work) name in_world.outside (stands who caller at) refl opens) in
      let range = ranges name.peer peer there in
      free_there peer.legs name (sym (are name.peer peer there).place_is) (omega (arith, range.first, inside.0))
      (omega (arith, range.first, range.count, inside.1))
      (lease.free name.peer peer there)

  pub idle_names : NamesAreTheLegs stored
  idle_names idle name =
      same_bits (has_leg stored name) (has_name stored.book name)
      (sym (leg_times in_world name) ∙ in_world.idle_names (subst (AllByRecursion IsIdle) (sym seen.callers) idle) name
      ∙ ap (λ (b : Book). bit (has_name b name)) seen.book)

  pub none_offered : NoneMeetsOffered stored
  none_offered who caller name command peer named at needed talk there has stage =
      let found = at_name (leg_at peer.legs name.number) name named has in
      let worlds = the_worlds in_world name.peer name.number peer named there found.0 in
      let name_is : worlds.leg.name ≡ name = ap (λ (n : SeenNamed). n.name) worlds.looks ∙ found.1 in
      let test : is_same worlds.leg.name name ≡ true = rw name_is (is_same_itself name) in
      let leg : world_leg_named world.legs name ≡ Some worlds.leg = rw (worlds.at, test) refl in
      in_world.offered who caller name command worlds.leg (stands who caller at) needed talk leg
      (ap (λ (n : SeenNamed). n.seen.stage) worlds.looks ∙ stage)

  -- a stored leg that needs somebody responsible is one of the world's
  kept_leg : (place number : ℕ) (named : NamedLeg) → IsWorlds world place number named → IsKept called named → (leg : Leg)
      × (world_leg_at world.legs place number ≡ Some leg)
      × (leg.name ≡ named.name) × (is_kept leg ≡ true)
  kept_leg place number named worlds kept =
      let name : worlds.leg.name ≡ named.name = ap (λ (n : SeenNamed). n.name) worlds.looks in
      let heard : is_heard worlds.leg.seen.stage ≡ true = ap (λ (n : SeenNamed). is_heard n.seen.stage) worlds.looks
      ∙ kept.heard in
      let doomed : worlds.leg.seen.doomed ≡ false = ap (λ (n : SeenNamed). n.seen.doomed) worlds.looks ∙ kept.undoomed in
      let uncalled : worlds.leg.called ≡ false = not_called worlds.leg.called refl in
      (worlds.leg, worlds.at, name, rw (heard, doomed, uncalled) refl)
    where
      not_called : (b : Bool) → worlds.leg.called ≡ b → worlds.leg.called ≡ false
      not_called false e = e
      not_called true e =
          let few : 1 ≤ times worlds.leg.name called = one_of (λ (leg : Leg). leg.called ≡ true → 1 ≤ times leg.name called)
          world.legs place number worlds.leg worlds.at seen.outside e in
          let none : times worlds.leg.name called ≡ 0 = ap (λ (n : SeenNamed). times n.name called) worlds.looks
          ∙ kept.uncalled in
          absurd (omega (arith, few, none))

  pub looked_after : within → AllAreLookedAfter called stored
  looked_after spares place number peer named at there kept =
      let leg = kept_leg place number named (the_worlds in_world place number peer named at there)
      kept in
      let is = one_of (IsLookedAfter world) world.legs place number leg.0 leg.1 (in_world.looked_after spares) leg.3 in
      subst (λ (n : LegName). 1 ≤ bit (is_some (partner_of stored.book n)) + times n (names_in_all stored.callers)) leg.2
      (subst (λ (cs : List Caller). 1 ≤ bit (is_some (partner_of stored.book leg.0.name)) + times leg.0.name (names_in_all cs))
      seen.callers
      (subst (λ (b : Book). 1 ≤ bit (is_some (partner_of b leg.0.name)) + times leg.0.name (names_in_all world.callers)) seen.book
      is))

  pub all_partners : within → AllHavePartners called stored
  all_partners spares idle place number peer named at there kept =
      let leg = kept_leg place number named (the_worlds in_world place number peer named at there)
      kept in
      let is = one_of (λ (l : Leg). is_kept l ≡ true → IsSome (partner_of world.book l.name)) world.legs place number leg.0 leg.1
      (in_world.idle_partners spares (subst (AllByRecursion IsIdle) (sym seen.callers) idle)) leg.3 in
      subst (λ (n : LegName). IsSome (partner_of stored.book n)) leg.2
      (subst (λ (b : Book). IsSome (partner_of b leg.0.name)) seen.book is)
