-- Laws of the datagrams that a turn takes out of outboxes.
use Rattle.std.proofs.Common.{◌≡◌, ℕ, ◌++◌, Bool, List, [], ◌∷◌, Option, None, Some, length, refl, sym}
use Rattle.std.proofs.Common.{subst, ◌∙◌, inl, inr}
use Rattle.std.proofs.lemmas.List.Elements.{All-cons, All-nil}
use Rattle.exchange_core.specs.Leaving.{Departure}
use Rattle.step_log.specs.Notes.{Noted, note}
use Rattle.step_log.specs.declared.made.Made.TheVariants as mades
use Rattle.peer_plan.specs.Plan.{PlanView}
use Rattle.peer_plan.specs.declared.endpoint.Endpoint.{Endpoint}
use Rattle.udp_wires.specs.Parcels.{Parcel}
use Rattle.udp_workers.specs.Handed.{GivesAll, GivesStep}
use Rattle.udp_workers.specs.Emptied.{EmptiesDue, EmptiesIfDue, HandsOut, HasEmptied}
use Rattle.udp_workers.specs.Served.{endpoint_at}
use Rattle.udp_workers.specs.Ticked.{IsLater}
use Rattle.udp_workers.proofs.HandingLaws.{gives_none, gives_on}
use Rattle.udp_workers.proofs.TickLaws.{later_on, later_same}

-- ---- one outbox

pub hands_one : (peer : ℕ) (to : Endpoint) (earlier : List (List ℕ)) (out : List ℕ) (old mid new : Noted)
    (before sent after : List Parcel)
    → HandsOut peer to earlier old mid before sent → new ≡ note (mades.TakeOut peer (Some out)) mid
    → after ≡ sent ++ record { endpoint = to; octets = out } ∷ [] → HandsOut peer to (out ∷ earlier) old new before after
hands_one peer to earlier out old mid new before sent after hands noted went = (mid, sent, hands, noted, went)

-- ---- one outbox more

pub empties_more : (plan : PlanView) (all : Bool) (peers : List ℕ) (peer : ℕ) (to : Endpoint) (old mid new : Noted)
    (before sent after : List Parcel)
    → EmptiesDue plan all peers old mid before sent → endpoint_at plan peer ≡ Some to
    → EmptiesIfDue all peer to mid new sent after
    → EmptiesDue plan all (peers ++ peer ∷ []) old new before after
empties_more plan all [] peer to old mid new before sent after is at more = (
  new,
  after,
  to,
  at,
  subst (λ from. EmptiesIfDue all peer to from new before after) is.0
      (subst (λ first. EmptiesIfDue all peer to mid new first after) is.1 more),
  (refl, refl),
)
empties_more plan all (first ∷ rest) peer to old mid new before sent after is at more =
    (is.0, is.1, is.2, is.3, is.4, empties_more plan all rest peer to is.0 mid new is.1 sent after is.5 at more)

-- ---- what stays, and what is noted

-- a fact that each note of a datagram taken out keeps
module _ (P : Noted → Noted → Type 0) (same : (pass : Noted) → P pass pass) (on : (old mid new : Noted) → P old mid → P mid new
    → P old new)
    (taken : (peer : ℕ) (out : Option (List ℕ)) (pass : Noted) → P pass (note (mades.TakeOut peer out) pass)) where
  through_outs : (peer : ℕ) (to : Endpoint) (outs : List (List ℕ)) (old new : Noted) (before after : List Parcel)
      → HandsOut peer to outs old new before after → P old new
  through_outs peer to [] old new before after is = subst (P old) (sym is.0) (same old)
  through_outs peer to (out ∷ earlier) old new before after is =
      subst (P old) (sym is.3) (on old is.0 (note (mades.TakeOut peer (Some out)) is.0)
      (through_outs peer to earlier old is.0 before is.1 is.2) (taken peer (Some out) is.0))

  through_end : (peer count : ℕ) (mid new : Noted) → HasEmptied peer count mid new → P mid new
  through_end peer count mid new (inl full) = subst (P mid) (sym full.1) (same mid)
  through_end peer count mid new (inr none) = subst (P mid) (sym none.1) (taken peer None mid)

  through_one : (all : Bool) (peer : ℕ) (to : Endpoint) (old new : Noted) (before after : List Parcel)
      → EmptiesIfDue all peer to old new before after → P old new
  through_one all peer to old new before after (inl empties) =
      on old empties.mid new (through_outs peer to empties.outs old empties.mid before after empties.hands)
      (through_end peer (length empties.outs) empties.mid new empties.ended)
  through_one all peer to old new before after (inr left) = subst (P old) (sym left.1) (same old)

  pub through : (plan : PlanView) (all : Bool) (peers : List ℕ) (old new : Noted) (before after : List Parcel)
      → EmptiesDue plan all peers old new before after → P old new
  through plan all [] old new before after is = subst (P old) (sym is.0) (same old)
  through plan all (peer ∷ rest) old new before after is =
      on old is.0 new (through_one all peer is.2 old is.0 before is.1 is.4) (through plan all rest is.0 new is.1 after is.5)

abbrev SameCredit : Noted → Noted → Type 0
SameCredit old new = new.credit ≡ old.credit

pub empties_same : (plan : PlanView) (all : Bool) (peers : List ℕ) (old new : Noted) (before after : List Parcel)
    → EmptiesDue plan all peers old new before after → new.credit ≡ old.credit
empties_same = through SameCredit (λ pass. refl) (λ old mid new one other. other ∙ one) (λ peer out pass. refl)

pub empties_later : (plan : PlanView) (all : Bool) (peers : List ℕ) (old new : Noted) (before after : List Parcel)
    → EmptiesDue plan all peers old new before after → IsLater old new
empties_later = through IsLater later_same later_on (λ peer out pass. (mades.TakeOut peer out ∷ [], refl))

-- it takes no leg out
pub empties_gives : (given : Departure → Type 0) (plan : PlanView) (all : Bool) (peers : List ℕ) (old new : Noted)
    (before after : List Parcel)
    → EmptiesDue plan all peers old new before after → GivesAll given old new
empties_gives given =
    through (GivesAll given) (gives_none given) (gives_on given)
    (λ peer out pass. record {
      steps = mades.TakeOut peer out ∷ [];
      noted = refl;
      each = All-cons (GivesStep given)
          (mades.TakeOut peer out) [] tt (All-nil (GivesStep given));
    })
