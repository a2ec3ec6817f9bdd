-- Through the steps of a call its media stays covered, and it keeps the lease of its place.
use Rattle.std.proofs.Common.{◌≡◌, ℕ, ◌+◌, ◌≤◌, [], Option, Some, subst, sym, ap, ◌∙◌, arith}
use Rattle.std.specs.List.{AllByRecursion}
use Rattle.peer_lock.specs.CarriedMedia.{LiesWithin, handed_octets}
use Rattle.call_book.specs.declared.leg_name.LegName.{LegName}
use Rattle.call_control.specs.Leases.{lease_in, lease_after}
use Rattle.call_control.specs.MediaLeft.{media_left, media_needed, handed_by}
use Rattle.call_control.specs.Work.{Work, next_of, after_told}
use Rattle.call_control.specs.declared.need.Need.{Need}
use Rattle.call_control.specs.declared.reply.Reply.{Reply}
use Rattle.exchange_core.specs.Covered.{IsCovered}

-- the laws of a call's media
abbrev pub KeepsWithin : Type 0
KeepsWithin =
    (len : ℕ) (work : Work) (reply : Reply) → AllByRecursion (LiesWithin len) (media_left work)
    → AllByRecursion (LiesWithin len) (handed_by reply)
    → AllByRecursion (LiesWithin len) (media_left (after_told work reply))

abbrev pub KeepsOctets : Type 0
KeepsOctets =
    (work : Work) (reply : Reply)
    → handed_octets (media_left (after_told work reply)) + handed_octets (media_needed (next_of work)) ≤ handed_octets
    (media_left work) + handed_octets (handed_by reply)

abbrev pub NeedsWithin : Type 0
NeedsWithin = (len : ℕ) (work : Work) → AllByRecursion (LiesWithin len) (media_left work)
    → AllByRecursion (LiesWithin len) (media_needed (next_of work))

abbrev pub NeedsCovered : Type 0
NeedsCovered = (work : Work) → handed_octets (media_needed (next_of work)) ≤ handed_octets (media_left work)

-- the next order is covered
pub covers_need : NeedsWithin → NeedsCovered → (len credit : ℕ) (work : Work) (need : Need) → next_of work ≡ Some need
    → IsCovered len credit (media_left work)
    → IsCovered len credit (media_needed (Some need))
covers_need within covered len credit work need next left =
    let all = covered work in
    subst (λ o. IsCovered len credit (media_needed o)) next (record {
      within = within len work left.within;
      octets = omega (arith, left.octets);
    })

-- the media left after an answer: the order used no more credit than it took, and media handed up brought its own
pub covers_rest : KeepsWithin → KeepsOctets → (len old new : ℕ) (work after : Work) (need : Need) (reply : Reply)
    → next_of work ≡ Some need
    → AllByRecursion (LiesWithin len) (handed_by reply) → after ≡ after_told work reply
    → old + handed_octets (handed_by reply) ≤ new + handed_octets (media_needed (Some need)) → IsCovered len old (media_left work)
    → IsCovered len new (media_left after)
covers_rest within octets len old new work after need reply next up told enough left =
    let less = octets work reply in
    let needed : handed_octets (media_needed (next_of work)) ≡ handed_octets (media_needed (Some need)) =
    ap (λ o. handed_octets (media_needed o)) next in
    rw told (record { within = within len work reply left.within up; octets = omega (arith, left.octets) })

-- a call begins with none
pub covers_none : (len credit : ℕ) (work : Work) → media_left work ≡ [] → IsCovered len credit (media_left work)
covers_none len credit work begun = rw begun (record { within = tt; octets = omega arith })

-- ---- the lease

abbrev pub LeavesLease : Type 0
LeavesLease = (work : Work) (reply : Reply) → lease_in (after_told work reply) ≡ lease_after (next_of work) reply (lease_in work)

-- a call has the lease of its next place
pub leaves_lease : LeavesLease → (work after : Work) (need : Need) (reply : Reply) (old new : Option LegName)
    → next_of work ≡ Some need → after ≡ after_told work reply
    → old ≡ lease_in work → new ≡ lease_after (Some need) reply old → new ≡ lease_in after
leaves_lease law work after need reply old new next told own made =
    made ∙ ap (lease_after (Some need) reply) own ∙ ap (λ o. lease_after o reply (lease_in work)) (sym next)
    ∙ sym (law work reply) ∙ ap lease_in (sym told)
