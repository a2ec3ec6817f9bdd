-- The leg that is noted, while other legs are numbered.
use Rattle.std.proofs.Common.{◌≡◌, ◌≢◌, ℕ, ◌<◌, true, List, [], ◌∷◌, length, Option, Some, None, slice_get, refl, ap, ◌∙◌, rules}
use Rattle.std.proofs.Common.{arith, zero, suc, length-set}
use Rattle.std.proofs.Math.ListN.{set}
use Rattle.std.specs.Prelude.{IfSome, nat_eq, unwrap_or}
use Rattle.call_book.specs.Book.{is_same}
use Rattle.call_book.specs.declared.leg_name.LegName.{LegName}
use Rattle.call_records.specs.declared.call_numbering.NotedLeg.{NotedLeg}
use Rattle.call_records.specs.JoinedCalls.{TakenOut, after_legs, HasOtherNumbers, AllHaveOtherNumbers}
use Rattle.call_records.specs.Numbering.{Numbering, call_for, noted_call, known_by, call_of, with_leg, with_partner, after_leg}

slice_get-set_same : {A : Type 0} (xs : List A) (i : ℕ) (x : A) → i < length xs → slice_get (set xs i x) i ≡ Some x
slice_get-set_same [] i x lt = absurd (omega arith)
slice_get-set_same (y ∷ ys) zero x lt = refl
slice_get-set_same (y ∷ ys) (suc i) x lt = slice_get-set_same ys i x (omega arith)

slice_get-set_other : {A : Type 0} (xs : List A) (i j : ℕ) (x : A) → j ≢ i → slice_get (set xs i x) j ≡ slice_get xs j
slice_get-set_other [] i j x apart = refl
slice_get-set_other (y ∷ ys) zero zero x apart = absurd (apart refl)
slice_get-set_other (y ∷ ys) zero (suc j) x apart = refl
slice_get-set_other (y ∷ ys) (suc i) zero x apart = refl
slice_get-set_other (y ∷ ys) (suc i) (suc j) x apart = slice_get-set_other ys i j x (λ e. apart (ap suc e))

nat_eq-refl : (n : ℕ) → nat_eq n n ≡ true
nat_eq-refl n = search rules

is_same-refl : (name : LegName) → is_same name name ≡ true
is_same-refl name = rw (nat_eq-refl name.peer, nat_eq-refl name.number, nat_eq-refl name.serial) refl

-- another number's place stays
partner_keeps : (noted : List (Option NotedLeg)) (number : ℕ) (partner : Option LegName) (call : ℕ)
    → IfSome partner (λ p. number ≢ p.number) → slice_get (with_partner noted partner call) number ≡ slice_get noted number
partner_keeps noted number None call apart = refl
partner_keeps noted number (Some p) call apart = slice_get-set_other noted p.number number _ apart

leg_keeps : (n : Numbering) (number : ℕ) (leg : TakenOut) → HasOtherNumbers number leg
    → slice_get (after_leg n leg.name leg.partner).noted number ≡ slice_get n.noted number
leg_keeps n number leg apart =
    let call = call_of n leg.name leg.partner in
    partner_keeps (with_leg n.noted leg.name call) number leg.partner call apart.1
    ∙ slice_get-set_other n.noted leg.name.number number _ apart.0

legs_keep : (n : Numbering) (number : ℕ) (legs : List TakenOut) → AllHaveOtherNumbers number legs
    → slice_get (after_legs n legs).noted number ≡ slice_get n.noted number
legs_keep n number [] apart = refl
legs_keep n number (leg ∷ legs) apart =
    legs_keep (after_leg n leg.name leg.partner) number legs apart.1 ∙ leg_keeps n number leg apart.0

-- a leg that is noted has its call
call_for-noted : (name : LegName) (call : ℕ) → call_for name (Some (Some (record { name = name; call = call }))) ≡ Some call
call_for-noted name call = rw (is_same-refl name) refl

noted-after : (n : Numbering) (legs : List TakenOut) (name : LegName) (call : ℕ) → AllHaveOtherNumbers name.number legs
    → slice_get n.noted name.number ≡ Some (Some (record { name = name; call = call }))
    → noted_call (after_legs n legs).noted name ≡ Some call
noted-after n legs name call apart is =
    ap (call_for name) (legs_keep n name.number legs apart ∙ is) ∙ call_for-noted name call

known_itself : (own other : Option ℕ) (call next : ℕ) → own ≡ Some call → unwrap_or (known_by own other) next ≡ call
known_itself own other call next is = rw is refl

known_partner : (own other : Option ℕ) (call next : ℕ) → own ≡ None → other ≡ Some call
    → unwrap_or (known_by own other) next ≡ call
known_partner own other call next unknown is = rw (unknown, is) refl

pub first_told_first : (n : Numbering) (first later : LegName) (between : List TakenOut)
    → later.number < length n.noted → AllHaveOtherNumbers later.number between
    → call_of (after_legs (after_leg n first (Some later)) between) later None ≡ call_of n first (Some later)
first_told_first n first later between within apart =
    let call = call_of n first (Some later) in
    let same_len = length-set n.noted first.number (Some (record { name = first; call = call })) in
    let room : later.number < length (with_leg n.noted first call) = omega (arith, same_len) in
    known_itself _ None call _
    (noted-after (after_leg n first (Some later)) between later call apart
    (slice_get-set_same (with_leg n.noted first call) later.number _ room))

pub later_told_first : (n : Numbering) (first later : LegName) (between : List TakenOut)
    → later.number < length n.noted → AllHaveOtherNumbers later.number between
    → noted_call (after_legs (after_leg n later None) between).noted first ≡ None
    → call_of (after_legs (after_leg n later None) between) first (Some later) ≡ call_of n later None
later_told_first n first later between within apart unknown =
    let call = call_of n later None in
    known_partner _ _ call _ unknown
    (noted-after (after_leg n later None) between later call apart (slice_get-set_same n.noted later.number _ within))
