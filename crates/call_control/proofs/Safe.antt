-- The meaning of a caller's work to a name, as numbers, and what each step keeps of it.
use Rattle.call_control.specs.declared.place.Place.TheVariants as places
use Rattle.call_control.specs.declared.reply.Reply.TheVariants as replies
use Rattle.call_signals.specs.declared.order.Command.TheVariants as commands
use Rattle.call_signals.specs.declared.signal.Signal.TheVariants as signals
use Rattle.call_control.proofs.Prelude.{◌≡◌, Some, None, Bool, true, false, refl, ℕ, zero, suc, ◌+◌, ◌≤◌, List, [], ◌∷◌, ap}
use Rattle.call_control.proofs.Prelude.{arith, inl, inr, ◌⊎◌, Option, ◌&&◌, subst, is_some, ◌==◌, cond_both, cases_Bool}
use Rattle.call_control.proofs.Prelude.{nat_tests, AllByRecursion, Ok, is_same, Book, has_name, partner_of, LegName, times}
use Rattle.call_control.proofs.Prelude.{names_of, is_kept, is_heard, words, names_in, names_at, handed_up, Leg, Scene, leg_at}
use Rattle.call_control.proofs.Prelude.{leg_named, replaced, without, brought, all_lapsed, carried, if_named, let_lapse}
use Rattle.call_control.proofs.Prelude.{lapsed_at, Work, Rest, advance, told_at, at, advance_from, in_hand, Place, Reply, Cause}
use Rattle.call_control.proofs.Prelude.{Kind, Signal, Stage, SeenFrame, frame_effect, stage_after, Lapse, is_same_itself}
use Rattle.call_control.proofs.Prelude.{same_name, bit, one_per_number}
use Rattle.call_control.proofs.Held.{IsHeld, some_bit, found_at}
use Rattle.call_control.proofs.Onward.{onward_at}
use Rattle.call_control.proofs.Runs.{times-append}

-- somebody has to be responsible for an offered leg
abbrev pub offer : Signal → LegName → LegName → ℕ
offer signals.Offered name x = bit (is_same name x)
offer signal name x = 0

abbrev pub offers : LegName → List (LegName × Signal) → ℕ
offers x [] = 0
offers x (up ∷ onward) = offer up.1 up.0 x + offers x onward

-- somebody is responsible for the leg
abbrev pub care_at : Place → Rest → LegName → ℕ
care_at (places.Routing offered) rest x = bit (is_same offered x) + offers x rest.onward
care_at (places.Rejecting offered cause) rest x = bit (is_same offered x) + offers x rest.onward
care_at (places.ReserveOut offered peer format) rest x = bit (is_same offered x) + offers x rest.onward
care_at (places.Bridging offered target format) rest x = bit (is_same offered x) + offers x rest.onward
care_at (places.Undoing offered target) rest x = bit (is_same offered x) + offers x rest.onward
care_at (places.Dooming name cause) rest x = bit (is_same name x) + offers x rest.onward
care_at (places.Checking target) rest x = bit (is_same target x) + offers x rest.onward
care_at (places.Datagram peer) rest x = 0
care_at (places.ReserveIn peer) rest x = 0
care_at (places.RejectNew peer) rest x = 0
care_at (places.OpenIn name) rest x = 0
care_at (places.GiveBack name) rest x = 0
care_at (places.Tick peer) rest x = 0
care_at (places.HangUp name) rest x = 0
care_at (places.ReserveCall peer) rest x = 0
care_at (places.OpenCall name) rest x = 0
care_at places.End rest x = 0
care_at place rest x = offers x rest.onward

abbrev pub care : Work → LegName → ℕ
care work x = care_at work.place work.rest x

-- names of legs, which may be bridged or whose partner may be looked for
abbrev pub place_past : Place → LegName → ℕ
place_past (places.Routing offered) x = bit (is_same offered x)
place_past (places.Rejecting offered cause) x = bit (is_same offered x)
place_past (places.ReserveOut offered peer format) x = bit (is_same offered x)
place_past (places.Bridging offered target format) x = bit (is_same offered x)
place_past (places.Finding name command) x = bit (is_same name x)
place_past place x = 0

abbrev pub past : Work → LegName → ℕ
past work x = place_past work.place x + times x (words work.rest.onward)

-- the leases for a name that no leg ever had
abbrev pub fresh_at : Place → LegName → ℕ
fresh_at (places.Freeing name cause) x = 0
fresh_at place x = times x (in_hand place)

-- the partner that the name of such a lease may have
abbrev pub offered_of : Place → Option LegName
offered_of (places.Bridging offered target format) = Some offered
offered_of (places.Accepting offered target format) = Some offered
offered_of (places.OpenOut offered target) = Some offered
offered_of (places.Undoing offered target) = Some offered
offered_of place = None

-- ---- after the next signal

onward_care : (onward : List (LegName × Signal)) (touched : Option LegName) (looks : List (ℕ × ℕ)) (x : LegName)
    → offers x onward ≤ care (advance_from onward touched looks) x
onward_care [] touched looks x = omega arith
onward_care (up ∷ onward) touched looks x = grind (arith, onward_care onward touched looks x)

pub go_on_care : (rest : Rest) (x : LegName) → offers x rest.onward ≤ care (advance rest) x
go_on_care rest x = onward_care rest.onward rest.touched rest.looks x

onward_past : (onward : List (LegName × Signal)) (touched : Option LegName) (looks : List (ℕ × ℕ)) (x : LegName)
    → past (advance_from onward touched looks) x ≤ times x (words onward)
onward_past [] touched looks x = grind arith
onward_past (up ∷ onward) touched looks x = grind (arith, onward_past onward touched looks x)

pub go_on_past : (rest : Rest) (x : LegName) → past (advance rest) x ≤ times x (words rest.onward)
go_on_past rest x = onward_past rest.onward rest.touched rest.looks x

onward_fresh : (onward : List (LegName × Signal)) (touched : Option LegName) (looks : List (ℕ × ℕ)) (x : LegName)
    → fresh_at (advance_from onward touched looks).place x ≡ 0
onward_fresh onward touched looks x = onward_at (λ place. fresh_at place x) (λ n. refl) (λ n a. refl) (λ n. refl) (λ p n. refl)
    onward touched looks

-- a leg with somebody responsible is named
offers_named : (x : LegName) (onward : List (LegName × Signal)) → offers x onward ≤ times x (words onward)
offers_named x [] = omega arith
offers_named x (up ∷ onward) = grind (arith, offers_named x onward)

care_named_at : (place : Place) (rest : Rest) (x : LegName) → care_at place rest x ≤ times x (names_at place)
    + times x (words rest.onward)
care_named_at place rest x = grind (arith, offers_named)

pub care_named : (work : Work) (x : LegName) → care work x ≤ times x (names_in work)
care_named work x = omega (
  arith,
  care_named_at work.place work.rest x,
  times-append x (names_at work.place) (words work.rest.onward),
)

-- ---- after each answer

-- a peer's step handed up signals
abbrev pub hears : Reply → Bool
hears (replies.Datagram (Ok heard)) = true
hears (replies.OpenIn (Ok heard)) = true
hears reply = false

-- .. or the book gave a name
abbrev pub brings_news : Reply → Bool
brings_news (replies.Reserve (Ok name)) = true
brings_news reply = hears reply

-- after this answer somebody may no longer be responsible for a leg
abbrev pub lets_go : Place → Reply → Bool
lets_go (places.Rejecting offered cause) (replies.Order (Ok done)) = true
lets_go (places.Checking target) (replies.Partner (Some partner)) = true
lets_go (places.Bridging offered target format) (replies.Bridge (Ok done)) = true
lets_go (places.Dooming name cause) reply = true
lets_go place reply = false

module _ (place : Place) (reply : Reply) (rest : Rest) (x : LegName) where
  abbrev told : Work
  told = told_at place reply rest

  pub told_past : hears reply ≡ false → past told x ≤ past (at place rest) x
  told_past calm = grind (arith, onward_past)

  pub told_care : lets_go place reply ≡ false → care (at place rest) x ≤ care told x
  told_care held = grind (arith, onward_care)

  pub told_fresh : brings_news reply ≡ false → 1 ≤ fresh_at told.place x → 1 ≤ fresh_at place x
  told_fresh calm some = grind (arith, onward_fresh)

  pub told_offered : brings_news reply ≡ false → 1 ≤ fresh_at told.place x → offered_of place ≡ offered_of told.place
  told_offered calm some = grind (arith, onward_fresh)

-- ---- legs of a list

pub all_map : (P Q : Leg → Type 0) (legs : List Leg) → ((leg : Leg) → P leg → Q leg) → AllByRecursion P legs
    → AllByRecursion Q legs
all_map P Q [] f h = tt
all_map P Q (leg ∷ legs) f h = (f leg h.0, all_map P Q legs f h.1)

pub all_replaced : (P Q : Leg → Type 0) (legs : List Leg) (new : Leg) → Q new → ((leg : Leg) → is_same leg.name new.name ≡ false
    → P leg → Q leg) → AllByRecursion P legs → AllByRecursion Q (replaced legs new)
all_replaced P Q [] new q f h = tt
all_replaced P Q (leg ∷ legs) new q f h =
    (cond_both (is_same leg.name new.name) new leg Q (λ _. q) (λ other. f leg other h.0), all_replaced P Q legs new q f h.1)

pub all_without : (P : Leg → Type 0) (legs : List Leg) (name : LegName) → AllByRecursion P legs
    → AllByRecursion P (without legs name)
all_without P [] name h = tt
all_without P (leg ∷ legs) name h =
    cond_both (is_same leg.name name) (without legs name) (leg ∷ without legs name) (AllByRecursion P)
    (λ _. all_without P legs name h.1) (λ _. (h.0, all_without P legs name h.1))

pub all_found : (P : Leg → Type 0) (legs : List Leg) (peer number : ℕ) (leg : Leg) → AllByRecursion P legs
    → leg_at legs peer number ≡ Some leg → P leg
all_found P [] peer number leg h is = absurd (cc)
all_found P (first ∷ legs) peer number leg h is =
    elim (cases_Bool (first.name.peer == peer && first.name.number == number)) [
      | inl here ↦ let same : first ≡ leg = let e = rw here at is in cc in subst P same h.0
      | inr other ↦ all_found P legs peer number leg h.1 (rw other at is)
    ]

-- one leg in another state
pub all_turned : (P : Leg → Type 0) (legs : List Leg) (peer number : ℕ) (leg new : Leg) → leg_at legs peer number ≡ Some leg
    → (P leg → P new) → AllByRecursion P legs → AllByRecursion P (replaced legs new)
all_turned P legs peer number leg new is f h = all_replaced P P legs new (f (all_found P legs peer number leg h is))
    (λ other differs p. p) h

pub all_at_lapses : (P : Leg → Type 0) → ((lapse : Lapse) (leg : Leg) → P leg → P (let_lapse lapse leg)) → (peer : ℕ)
    (lapses : List (ℕ × Lapse)) (legs : List Leg) → AllByRecursion P legs → AllByRecursion P (all_lapsed peer lapses legs)
all_at_lapses P f peer [] legs h = h
all_at_lapses P f peer (lapse ∷ lapses) legs h = all_at_lapses P f peer lapses (lapsed_at (leg_at legs peer lapse.0) lapse.1 legs)
    (one (leg_at legs peer lapse.0) refl)
  where
    one : (o : Option Leg) → leg_at legs peer lapse.0 ≡ o → AllByRecursion P (lapsed_at o lapse.1 legs)
    one None is = h
    one (Some leg) is = all_turned P legs peer lapse.0 leg (let_lapse lapse.1 leg) is (f lapse.1 leg) h

-- of legs that are known to be in the list
pub all_map_in : (P Q : Leg → Type 0) (legs : List Leg) → ((leg : Leg) → 1 ≤ times leg.name (names_of legs) → P leg → Q leg)
    → AllByRecursion P legs → AllByRecursion Q legs
all_map_in P Q [] f h = tt
all_map_in P Q (leg ∷ legs) f h = (
  f leg (omega (arith, ap bit (is_same_itself leg.name))) h.0,
  all_map_in P Q legs (λ other some. f other (omega arith)) h.1,
)

pub in_book : (weights : LegName → ℕ) (s : Scene) → IsHeld weights s → (x : LegName)
    → 1 ≤ (times x (names_of s.legs) + times x s.leases) + weights x → has_name s.book x ≡ true
in_book weights s h x some = some_bit (has_name s.book x) (omega (arith, h.once x))

-- numbers that are some, or none
pub some_of : (m n : ℕ) → 1 ≤ m + n → (1 ≤ m) ⊎ (1 ≤ n)
some_of m n h = grind arith

pub zero_if : (n : ℕ) → (1 ≤ n → ⊥) → n ≡ 0
zero_if zero f = refl
zero_if (suc n) f = absurd (f (omega arith))

-- a name that isn't found is no leg's
none_at : (legs : List Leg) (name : LegName) → leg_at legs name.peer name.number ≡ None → times name (names_of legs) ≡ 0
none_at [] name is = refl
none_at (leg ∷ legs) name is = grind (arith, nat_tests, none_at legs name, same_name leg.name name)

pub none_named : (book : Book) (legs : List Leg) (name : LegName)
    → ((x : LegName) → 1 ≤ times x (names_of legs) → has_name book x ≡ true) → leg_named legs name ≡ None
    → times name (names_of legs) ≡ 0
none_named book legs name known is = go (leg_at legs name.peer name.number) refl is
  where
    go : (o : Option Leg) → leg_at legs name.peer name.number ≡ o → if_named name o ≡ None → times name (names_of legs) ≡ 0
    go None at none = none_at legs name at
    go (Some leg) at none =
        let there = found_at legs name.peer name.number leg at in
        zero_if (times name (names_of legs)) (λ some.
        let same : leg.name ≡ name = one_per_number book leg.name name (known leg.name there.2) (known name some) there.1 in
        let test : is_same leg.name name ≡ true = rw same (is_same_itself name) in
        let never : Some leg ≡ None = rw test at none in cc)

-- the name of a leg differs from a name that no leg has
pub other_than : (name x : LegName) (names : List LegName) → times name names ≡ 0 → 1 ≤ times x names → is_same name x ≡ false
other_than name x names none some = elim (cases_Bool (is_same name x)) [
  | inl same ↦ absurd (omega (arith, ap (λ n. times n names) (same_name name x same)))
  | inr other ↦ other
]

-- ---- what is kept

abbrev pub Covers : Book → (LegName → ℕ) → Leg → Type 0
Covers book seen leg = is_kept leg ≡ true → 1 ≤ bit (is_some (partner_of book leg.name)) + seen leg.name

pub and_second : (a b : Bool) → (a && b) ≡ true → b ≡ true
and_second a b both = grind arith

-- an order turns no leg into a kept one
pub ordered_kept : (kind : Kind) (leg : Leg) (after : Stage) → stage_after kind leg.seen.stage ≡ Some after
    → is_kept (carried kind leg after) ≡ true → is_kept leg ≡ true
ordered_kept kind leg after ok kept = grind arith

-- nor does a lapse
pub lapsed_kept : (lapse : Lapse) (leg : Leg) → is_kept (let_lapse lapse leg) ≡ true → is_kept leg ≡ true
lapsed_kept lapse leg kept = grind arith

pub lapsed_name : (lapse : Lapse) (leg : Leg) → (let_lapse lapse leg).name ≡ leg.name
lapsed_name lapse leg = grind arith

-- a frame does so only if the leg is then offered
heard_effect : (frame : SeenFrame) (stage : Stage) → is_heard (frame_effect frame stage).stage ≡ true
    → (is_heard stage ≡ true) ⊎ ((frame_effect frame stage).signal ≡ Some signals.Offered)
heard_effect frame stage heard = grind arith

pub brought_kept : (frame : SeenFrame) (leg : Leg) → is_kept (brought frame leg) ≡ true
    → (is_kept leg ≡ true) ⊎ (1 ≤ offers leg.name (handed_up leg.name (frame_effect frame leg.seen.stage).signal))
brought_kept frame leg kept =
    elim (heard_effect frame leg.seen.stage (grind arith)) [
      | inl heard ↦ inl (grind arith)
      | inr offered ↦ inr (rw offered (let own : bit (is_same leg.name leg.name) ≡ 1 = ap bit (is_same_itself leg.name) in
          omega arith))
    ]

-- a doomed leg isn't kept, nor is a closing one
pub doomed_not_kept : (cause : Cause) (leg : Leg) (stage : Stage) → is_kept (carried (commands.Doom cause) leg stage) ≡ true → ⊥
doomed_not_kept cause leg stage kept = grind arith

-- ---- fresh leases

pub fresh_few : (place : Place) (x : LegName) → fresh_at place x ≤ times x (in_hand place)
fresh_few place x = grind arith

-- a place without a lease for a name that no leg ever had
pub no_fresh : (place : Place) (x : LegName) (A : Type 0) → in_hand place ≡ [] → 1 ≤ fresh_at place x → A
no_fresh place x A none some = absurd (omega (arith, fresh_few place x, ap (times x) none))

abbrev pub IsLone : Book → Place → Type 0
IsLone book place = (y p : LegName) → 1 ≤ fresh_at place y → partner_of book y ≡ Some p → offered_of place ≡ Some p

-- the effect of a step, from a place to a work, on everything but the book
pub record Moves (place : Place) (rest : Rest) (to : Work) : Type 0 where
  pub past : (x : LegName) → past to x ≤ past (at place rest) x
  pub fresh : (x : LegName) → 1 ≤ fresh_at to.place x → (1 ≤ fresh_at place x) × (offered_of place ≡ offered_of to.place)

pub moves : (place : Place) (reply : Reply) (rest : Rest) → brings_news reply ≡ false
    → Moves place rest (told_at place reply rest)
moves place reply rest calm =
    let unheard : hears reply ≡ false = grind arith in
    record {
      past = λ x. told_past place reply rest x unheard;
      fresh = λ x some. (told_fresh place reply rest x calm some, told_offered place reply rest x calm some);
    }

-- the state after a step
pub record IsSafeStep (others_care others_fresh : LegName → ℕ) (place : Place) (rest : Rest) (old : Book) (new : Scene)
    (to : Work) : Type 0 where
  pub past : (x : LegName) → 1 ≤ past to x → (1 ≤ past (at place rest) x) ⊎ (1 ≤ times x (names_of new.legs))
  pub fresh : (x : LegName) → 1 ≤ fresh_at to.place x → (1 ≤ fresh_at place x) ⊎ (old.next ≤ x.serial)
  pub next : old.next ≤ new.book.next
  pub covered : AllByRecursion (Covers new.book (λ x. care to x + others_care x)) new.legs
  pub lone : IsLone new.book to.place
  pub others_lone : (y p : LegName) → 1 ≤ others_fresh y → partner_of new.book y ≡ Some p → partner_of old y ≡ Some p
