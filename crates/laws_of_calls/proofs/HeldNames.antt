-- The law of a world about the names in its book, for the stored legs and leases.
use Rattle.std.specs.Prelude.{option_map, is_some, ◌&&◌}
use Rattle.std.proofs.Common.{◌≡◌, ℕ, zero, suc, ◌+◌, ◌≤◌, ◌==◌, Bool, true, false, List, [], ◌∷◌, Option, Some, None, slice_get}
use Rattle.std.proofs.Common.{refl, sym, ap, subst, ◌∙◌, arith, inl, inr}
use Rattle.std.proofs.lemmas.Bool.{cases_Bool}
use Rattle.call_book.specs.Book.{Book, has_name, is_same}
use Rattle.call_book.specs.declared.leg_name.LegName.{LegName}
use Rattle.call_control.specs.Law.{times, names_of, leases_of}
use Rattle.call_control.specs.Scene.{Leg, is_leased, leg_at as world_leg_at}
use Rattle.call_control.specs.Sees.{look_of}
use Rattle.call_control.specs.World.{World, Caller}
use Rattle.peer_lock.specs.Legs.{NamedLeg, leg_at, if_named}
use Rattle.peer_lock.specs.Peer.{PeerView}
use Rattle.peer_lock.specs.Seen.{SeenNamed, seen_named}
use Rattle.call_book.proofs.NameLaws.{is_same_itself, same_name, bit, one_per_number}
use Rattle.call_control.proofs.Held.{found_at}
use Rattle.laws_of_calls.proofs.WorldLegs.{found_seen, none_seen}
use Rattle.laws_of_calls.specs.Stored.{Stored}
use Rattle.laws_of_calls.specs.StoredNames.{has_leg_in, has_leg, NamesAreHeldOnce, LegsAreBooked, NumbersServeOne, LeasesAreFree}
use Rattle.laws_of_calls.proofs.Called.{times_append}
use Rattle.laws_of_calls.proofs.InWorld.{IsInWorld}

-- ---- lists of names

-- a caller's lease is one of the leases of all
leased_times : (name : LegName) (leases : List LegName) → is_leased leases name ≡ true → 1 ≤ times name leases
leased_times name [] is = absurd (cc)
leased_times name (lease ∷ leases) is = elim (cases_Bool (is_same lease name)) [
  | inl e ↦ rw e (omega arith)
  | inr e ↦ rw e (omega (arith, leased_times name leases (rw e at is)))
]

held_times : (name : LegName) (callers : List Caller) (who : ℕ) (caller : Caller) → slice_get callers who ≡ Some caller
    → is_leased caller.leases name ≡ true
    → 1 ≤ times name (leases_of callers)
held_times name [] who caller at is = absurd (cc)
held_times name (first ∷ callers) zero caller at is =
    let same : first ≡ caller = cc in
    omega (
      arith,
      times_append name first.leases (leases_of callers),
      subst (λ (c : Caller). 1 ≤ times name c.leases) (sym same)
          (leased_times name caller.leases is),
    )
held_times name (first ∷ callers) (suc who) caller at is =
    omega (arith, times_append name first.leases (leases_of callers), held_times name callers who caller at is)

-- ---- legs of a world

none_times : (legs : List Leg) (name : LegName) → world_leg_at legs name.peer name.number ≡ None → times name (names_of legs) ≡ 0
none_times [] name is = refl
none_times (leg ∷ legs) name is =
    elim (cases_Bool (leg.name.peer == name.peer && leg.name.number == name.number)) [
      | inl e ↦ absurd (let f = rw e at is in cc)
      | inr e ↦
          let other : is_same leg.name name ≡ false = rw e refl in
          let no : bit (is_same leg.name name) ≡ 0 = ap bit other in
          omega (arith, none_times legs name (rw e at is), no)
    ]

-- ---- the number of times that a name is in a book

some_bit : (b : Bool) (n : ℕ) → n ≡ bit b → 1 ≤ n → b ≡ true
some_bit true n e le = refl
some_bit false n e le = absurd (omega (arith, e, le))

few : (b : Bool) (n : ℕ) → n ≡ bit b → n ≤ 1
few true n e = omega (arith, e)
few false n e = omega (arith, e)

pub same_bits : (a b : Bool) → bit a ≡ bit b → a ≡ b
same_bits true true e = refl
same_bits true false e = absurd (omega (arith, e))
same_bits false true e = absurd (omega (arith, e))
same_bits false false e = refl

-- ---- the stored exchange, in a world that has it as it is seen

-- a stored leg is the world's, and is at the place of its name
pub record IsWorlds (world : World) (place number : ℕ) (named : NamedLeg) : Type 0 where
  pub leg : Leg
  pub at : world_leg_at world.legs place number ≡ Some leg
  pub looks : look_of leg ≡ seen_named named
  pub peer_is : named.name.peer ≡ place
  pub number_is : named.name.number ≡ number
  pub held : 1 ≤ times named.name (names_of world.legs)

module _ {within : Type 0} {called : List LegName} {stored : Stored} (in_world : IsInWorld within called stored) where
  open in_world use {are, world, seen, names as once}

  pub the_worlds : (place number : ℕ) (peer : PeerView) (named : NamedLeg) → slice_get stored.peers place ≡ Some peer
      → leg_at peer.legs number ≡ Some named
      → IsWorlds world place number named
  the_worlds place number peer named at there =
      let found = found_seen (world_leg_at world.legs peer.legs.peer number) (seen_named named)
      (seen.legs.sees place peer at number ∙ ap (option_map seen_named) there) in
      let here : world_leg_at world.legs place number ≡ Some found.leg =
      ap (λ (n : ℕ). world_leg_at world.legs n number) (sym (are place peer at).place_is) ∙ found.at in
      let where_it_is = found_at world.legs place number found.leg here in
      let name : found.leg.name ≡ named.name = ap (λ (n : SeenNamed). n.name) found.looks in
      record {
        leg = found.leg;
        at = here;
        looks = found.looks;
        peer_is = ap (λ (n : LegName). n.peer) (sym name) ∙ where_it_is.0;
        number_is = ap (λ (n : LegName). n.number) (sym name) ∙ where_it_is.1;
        held = subst (λ (n : LegName). 1 ≤ times n (names_of world.legs)) name where_it_is.2;
      }

  both : (name : LegName)
      → times name (names_of world.legs) + times name (leases_of stored.callers) ≡ bit (has_name stored.book name)
  both name =
      let all : times name (names_of world.legs) + times name (leases_of world.callers) ≡ bit (has_name world.book name) =
      sym (times_append name (names_of world.legs) (leases_of world.callers)) ∙ once name in
      ap (λ (cs : List Caller). times name (names_of world.legs) + times name (leases_of cs)) (sym seen.callers) ∙ all
      ∙ ap (λ (b : Book). bit (has_name b name)) seen.book

  in_book : (name : LegName) → 1 ≤ times name (names_of world.legs) → has_name stored.book name ≡ true
  in_book name some = some_bit (has_name stored.book name) _ (both name) (omega (arith, some))

  pub booked : LegsAreBooked stored
  booked place number peer named at there =
      let worlds = the_worlds place number peer named at there in
      record { place_is = worlds.peer_is; number_is = worlds.number_is; booked = in_book named.name worlds.held }

  pub serve_one : NumbersServeOne stored
  serve_one a b number one other leg another at_one at_other has_leg has_another =
      let here = booked a number one leg at_one has_leg in
      let there = booked b number other another at_other has_another in
      let same : leg.name ≡ another.name = one_per_number stored.book leg.name another.name here.booked there.booked
      (here.number_is ∙ sym there.number_is) in
      sym here.place_is ∙ ap (λ (n : LegName). n.peer) same ∙ there.place_is

  -- of each name the world has as many legs as are stored
  pub leg_times : (name : LegName) → times name (names_of world.legs) ≡ bit (has_leg stored name)
  leg_times name = at_peer (slice_get stored.peers name.peer) refl
    where
      not_there : (named : NamedLeg) (n : ℕ) → times name (names_of world.legs) ≡ n → has_name stored.book named.name ≡ true
          → named.name.number ≡ name.number
          → is_same named.name name ≡ false → times name (names_of world.legs) ≡ 0
      not_there named zero e has number differ = e
      not_there named (suc n) e has number differ =
          let known = in_book name (omega (arith, e)) in
          let same : named.name ≡ name = one_per_number stored.book named.name name has known number in
          let test : is_same name name ≡ false = subst (λ (a : LegName). is_same a name ≡ false) same differ in
          absurd (let yes = is_same_itself name in cc)

      at_number : (peer : PeerView) → slice_get stored.peers name.peer ≡ Some peer → (o : Option NamedLeg)
          → leg_at peer.legs name.number ≡ o
          → times name (names_of world.legs) ≡ bit (is_some (if_named name o))
      at_number peer at None there =
          none_times world.legs name (none_seen (world_leg_at world.legs name.peer name.number)
          (ap (λ (n : ℕ). option_map look_of (world_leg_at world.legs n name.number)) (sym (are name.peer peer at).place_is)
          ∙ seen.legs.sees name.peer peer at name.number
          ∙ ap (option_map seen_named) there))
      at_number peer at (Some named) there = elim (cases_Bool (is_same named.name name)) [
        | inl e ↦
            let worlds = the_worlds name.peer name.number peer named at there in
            let some : 1 ≤ times name (names_of world.legs) = subst (λ (n : LegName). 1 ≤ times n (names_of world.legs))
            (same_name named.name name e) worlds.held in
            rw e (omega (arith, some, both name, few (has_name stored.book name) _ (both name)))
        | inr e ↦
            let here = booked name.peer name.number peer named at there in
            rw e (not_there named (times name (names_of world.legs)) refl here.booked here.number_is e)
      ]

      at_peer : (o : Option PeerView) → slice_get stored.peers name.peer ≡ o
          → times name (names_of world.legs) ≡ bit (has_leg_in o name)
      at_peer None at = none_times world.legs name (seen.legs.none name.peer name.number at)
      at_peer (Some peer) at = at_number peer at (leg_at peer.legs name.number) refl

  pub held_once : NamesAreHeldOnce stored
  held_once name = omega (arith, leg_times name, both name)

  -- the name of a lease is that of no leg
  pub leases_free : LeasesAreFree stored
  leases_free who caller name at leased =
      let some = held_times name stored.callers who caller at leased in
      let has : has_name stored.book name ≡ true = some_bit (has_name stored.book name) _ (both name) (omega (arith, some)) in
      record {
        booked = has;
        free = λ place peer there. none_at place peer there some has (leg_at peer.legs name.number) refl;
      }
    where
      none_at : (place : ℕ) (peer : PeerView) → slice_get stored.peers place ≡ Some peer
          → 1 ≤ times name (leases_of stored.callers) → has_name stored.book name ≡ true
          → (o : Option NamedLeg) → leg_at peer.legs name.number ≡ o → leg_at peer.legs name.number ≡ None
      none_at place peer there some has None is = is
      none_at place peer there some has (Some named) is =
          let here = booked place name.number peer named there is in
          let worlds = the_worlds place name.number peer named there is in
          let same : named.name ≡ name = one_per_number stored.book named.name name here.booked has here.number_is in
          let held : 1 ≤ times name (names_of world.legs) = subst (λ (n : LegName). 1 ≤ times n (names_of world.legs)) same
          worlds.held in
          absurd (omega (arith, some, held, both name, few (has_name stored.book name) _ (both name)))
