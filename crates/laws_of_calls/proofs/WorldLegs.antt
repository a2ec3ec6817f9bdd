-- The legs of the world, and those of one peer among them, after one was added, changed or removed.
use Rattle.std.proofs.Common.{◌≡◌, Some, None, Bool, true, false, refl, ℕ, List, [], ◌∷◌, ap, arith, inl, inr, Option, cond}
use Rattle.std.proofs.Common.{◌&&◌, sym, subst, ◌∙◌, ◌==◌, ◌≢◌}
use Rattle.std.proofs.lemmas.Bool.{cond_both, cases_Bool, eqb-true}
use Rattle.std.proofs.lemmas.Bool.Decides.{nat_tests}
use Rattle.std.specs.Prelude.{option_map}
use Rattle.call_book.specs.Book.{is_same}
use Rattle.call_book.specs.declared.leg_name.LegName.{LegName}
use Rattle.call_control.specs.Scene.{Leg, leg_at, replaced, without, if_named}
use Rattle.call_control.specs.Sees.{look_of, Sees, AreApart}
use Rattle.peer_lock.specs.Legs.{PeerLegs}
use Rattle.peer_lock.specs.Seen.{SeenNamed, seen_at, TurnsAt}
use Rattle.call_book.proofs.NameLaws.{is_same_itself, same_name}
use Rattle.call_control.proofs.Held.{found_at}

-- ---- what is seen of the world's legs

pub record IsFound (o : Option Leg) (named : SeenNamed) : Type 0 where
  pub leg : Leg
  pub at : o ≡ Some leg
  pub looks : look_of leg ≡ named

pub found_seen : (o : Option Leg) (named : SeenNamed) → option_map look_of o ≡ Some named → IsFound o named
found_seen None named is = cc
found_seen (Some leg) named is = record { leg = leg; at = refl; looks = cc }

pub none_seen : (o : Option Leg) → option_map look_of o ≡ None → o ≡ None
none_seen None is = refl
none_seen (Some leg) is = cc

-- the leg that a peer has under a number
pub leg_seen : (all : List Leg) (legs : PeerLegs) (number : ℕ) (named : SeenNamed) → Sees all legs
    → seen_at legs number ≡ Some named → IsFound (leg_at all legs.peer number) named
leg_seen all legs number named sees at = found_seen (leg_at all legs.peer number) named (sees number ∙ at)

pub named_seen : (o : Option Leg) (name : LegName) (leg : Leg) → o ≡ Some leg → leg.name ≡ name → if_named name o ≡ Some leg
named_seen o name leg at is =
    let test : is_same leg.name name ≡ true = rw is (is_same_itself name) in
    rw (at, test) refl

-- ---- one leg is replaced

-- the leg in place of another
abbrev put_for : Leg → Leg → Leg
put_for new leg = cond (is_same leg.name new.name) new leg

put_name : (new leg : Leg) → (put_for new leg).name ≡ leg.name
put_name new leg = grind (arith, same_name leg.name new.name)

replaced_at : (legs : List Leg) (new : Leg) (peer number : ℕ) → leg_at (replaced legs new) peer number ≡ option_map (put_for new)
    (leg_at legs peer number)
replaced_at [] new peer number = refl
replaced_at (leg ∷ legs) new peer number = grind (arith, replaced_at legs new peer number, put_name new leg)

pub replaced_there : (legs : List Leg) (leg new : Leg) (peer number : ℕ) → leg_at legs peer number ≡ Some leg
    → new.name ≡ leg.name → leg_at (replaced legs new) peer number ≡ Some new
replaced_there legs leg new peer number at is =
    let test : is_same leg.name new.name ≡ true = rw is (is_same_itself leg.name) in
    replaced_at legs new peer number ∙ ap (option_map (put_for new)) at ∙ ap (λ (b : Bool). Some (cond b new leg)) test

pub replaced_apart : (legs : List Leg) (new : Leg) (peer number : ℕ) → ((n : LegName) → n.peer ≡ peer → n.number ≡ number
    → n ≢ new.name) → leg_at (replaced legs new) peer number ≡ leg_at legs peer number
replaced_apart legs new peer number apart = replaced_at legs new peer number ∙ go (leg_at legs peer number) refl
  where
    go : (o : Option Leg) → leg_at legs peer number ≡ o → option_map (put_for new) o ≡ o
    go None at = refl
    go (Some leg) at = let there = found_at legs peer number leg at in ap Some (cond_both (is_same leg.name new.name) new leg
        (λ l. l ≡ leg) (λ e. absurd (apart leg.name there.0 there.1 (same_name leg.name new.name e))) (λ e. refl))

-- ---- the peer's legs afterwards

pub record IsSeenSo (all after : List Leg) (old new : PeerLegs) : Type 0 where
  pub sees : Sees after new
  pub apart : AreApart old.peer all after

-- a change under one number, in the world and at the peer
changed : (all after : List Leg) (old new : PeerLegs) (number : ℕ) (there : Option SeenNamed) → Sees all old
    → TurnsAt old new number there → option_map look_of (leg_at after old.peer number) ≡ there
    → ((other : ℕ) → other ≢ number → leg_at after old.peer other ≡ leg_at all old.peer other)
    → AreApart old.peer all after → IsSeenSo all after old new
changed all after old new number there sees turns is rest apart = record {
  sees = λ other. subst (λ (peer : ℕ). option_map look_of (leg_at after peer other) ≡ seen_at new other) (sym turns.peer)
      (at other);
  apart = apart;
}
  where
    at : (other : ℕ) → option_map look_of (leg_at after old.peer other) ≡ seen_at new other
    at other = elim (cases_Bool (other == number)) [
      | inl e ↦
          let same : other ≡ number = eqb-true other number e in
          rw same (is ∙ sym turns.there)
      | inr e ↦
          let ne : other ≢ number = λ same. (let test : (other == number) ≡ true = grind (arith, nat_tests) in cc) in
          ap (option_map look_of) (rest other ne) ∙ sees other ∙ sym (turns.rest other ne)
    ]

pub turned_sees : (all : List Leg) (old new : PeerLegs) (number : ℕ) (leg after : Leg) → Sees all old
    → leg_at all old.peer number ≡ Some leg → after.name ≡ leg.name
    → TurnsAt old new number (Some (look_of after)) → IsSeenSo all (replaced all after) old new
turned_sees all old new number leg after sees at is turns =
    let there = found_at all old.peer number leg at in
    changed all (replaced all after) old new number (Some (look_of after)) sees turns
    (ap (option_map look_of) (replaced_there all leg after old.peer number at is))
    (λ other ne. replaced_apart all after old.peer other
    (λ n p k e. ne (sym k ∙ ap (λ (m : LegName). m.number) (e ∙ is) ∙ there.1)))
    (λ other k ne. replaced_apart all after other k (λ n p m e. ne (sym p ∙ ap (λ (m : LegName). m.peer) (e ∙ is) ∙ there.0)))

-- a leg is added
pub added_sees : (all : List Leg) (old new : PeerLegs) (leg : Leg) → Sees all old → leg.name.peer ≡ old.peer
    → TurnsAt old new leg.name.number (Some (look_of leg)) → IsSeenSo all (leg ∷ all) old new
added_sees all old new leg sees is turns = changed all (leg ∷ all) old new leg.name.number (Some (look_of leg)) sees turns
    (let here : (leg.name.peer == old.peer && leg.name.number == leg.name.number) ≡ true = grind (arith, nat_tests) in
    rw here refl)
    (λ other ne. added_at old.peer other (apart_number other ne))
    (λ other k ne. added_at other k (apart_peer other k ne))
  where
    added_at : (peer number : ℕ) → (leg.name.peer == peer && leg.name.number == number) ≡ false
        → leg_at (leg ∷ all) peer number ≡ leg_at all peer number
    added_at peer number e = rw e refl

    apart_number : (other : ℕ) → other ≢ leg.name.number → (leg.name.peer == old.peer && leg.name.number == other) ≡ false
    apart_number other ne = grind (arith, nat_tests)

    apart_peer : (other k : ℕ) → other ≢ old.peer → (leg.name.peer == other && leg.name.number == k) ≡ false
    apart_peer other k ne = grind (arith, nat_tests)

-- a leg is removed
without_apart : (legs : List Leg) (name : LegName) (peer number : ℕ) → ((n : LegName) → n.peer ≡ peer → n.number ≡ number
    → n ≢ name) → leg_at (without legs name) peer number ≡ leg_at legs peer number
without_apart [] name peer number apart = refl
without_apart (leg ∷ legs) name peer number apart = grind (
  arith,
  nat_tests,
  without_apart legs name peer number apart,
  same_name leg.name name,
  apart leg.name,
)

pub gone_sees : (all : List Leg) (old new : PeerLegs) (name : LegName) → Sees all old → name.peer ≡ old.peer
    → leg_at (without all name) name.peer name.number ≡ None → TurnsAt old new name.number None
    → IsSeenSo all (without all name) old new
gone_sees all old new name sees is none turns = changed all (without all name) old new name.number None sees turns
    (ap (option_map look_of) (ap (λ (peer : ℕ). leg_at (without all name) peer name.number) (sym is) ∙ none))
    (λ other ne. without_apart all name old.peer other (λ n p k e. ne (sym k ∙ ap (λ (m : LegName). m.number) e)))
    (λ other k ne. without_apart all name other k (λ n p m e. ne (sym p ∙ ap (λ (m : LegName). m.peer) e ∙ is)))
