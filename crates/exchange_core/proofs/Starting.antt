-- An exchange at its opening is a start of the law's world.
use Rattle.std.specs.Prelude.{nat_le, ◌-◌, ◌+◌, ◌++◌, ◌∷◌, [], length, option_map, slice_get, List, Result, Ok, Err, IfOk, OnOk}
use Rattle.std.proofs.Common.{◌≡◌, ◌<◌, ℕ, zero, suc, inl, inr, None, get_or, nat_cmp, replicate, refl, sym, ap, subst, arith}
use Rattle.std.proofs.Common.{◌∙◌}
use Rattle.std.proofs.lemmas.Bool.{cases_Bool}
use Rattle.std.specs.FinMap.{get-empty}
use Rattle.std.specs.List.{AllByRecursion}
use Rattle.call_book.specs.Book.{Book, IsBook, fresh_book}
use Rattle.peer_lock.specs.Legs.{filled, leg_at}
use Rattle.peer_lock.specs.Seen.{seen_named}
use Rattle.peer_plan.specs.Plan.{PlanView, counts_of}
use Rattle.call_control.specs.Law.{IsFresh}
use Rattle.step_log.specs.Notes.{Peer}
use Rattle.exchange_core.specs.Start.{AreFirstPeers, IsFirstPeer, first_book, first_legs, idle, IsStart}

all_idle : (count : ℕ) → AllByRecursion IsFresh (replicate count idle)
all_idle zero = tt
all_idle (suc count) = ((refl, refl), all_idle count)

none_there : (count place : ℕ) → filled (slice_get (replicate count None) place) ≡ None
none_there zero place = refl
none_there (suc count) zero = refl
none_there (suc count) (suc place) = none_there count place

no_leg : (plan : PlanView) (peer number : ℕ) → leg_at (first_legs plan peer) number ≡ None
no_leg plan peer number = elim (cases_Bool (nat_le (first_legs plan peer).first number)) [
  | inl e ↦ rw e (none_there _ (number - (first_legs plan peer).first))
  | inr e ↦ rw e refl
]

starts : (plan : PlanView) (serial : ℕ) → IsBook (first_book plan serial) → IsStart plan serial
starts plan serial sound = record {
  opened = record { book = sound; no_name = λ number. get-empty nat_cmp number; no_leg = refl; idle = all_idle plan.passes };
  sees = λ peer number. sym (ap (option_map seen_named) (no_leg plan peer number));
}

-- with the book that is made of its counts
pub starts_with : {E : Type 0} (plan : PlanView) (serial : ℕ) (counts : List ℕ) (made : Result Book E)
    → counts ≡ counts_of plan.peers
    → IfOk made (λ book. book ≡ fresh_book counts serial) → IfOk made IsBook → OnOk made (IsStart plan serial)
starts_with plan serial counts (Ok book) are fresh sound =
    starts plan serial (subst IsBook (fresh ∙ ap (λ c. fresh_book c serial) are) sound)
starts_with plan serial counts (Err error) are fresh sound = fresh

-- ---- the peers that are put behind locks

-- one more
pub first_pushed : (plan : PlanView) (place at : ℕ) (peers : List Peer) (peer : Peer) → AreFirstPeers plan place peers
    → place + length peers ≡ at → IsFirstPeer plan at peer
    → AreFirstPeers plan place (peers ++ peer ∷ [])
first_pushed plan place at [] peer are is first = (subst (λ n. IsFirstPeer plan n peer) (sym (omega (arith, is))) first, tt)
first_pushed plan place at (one ∷ peers) peer are is first =
    (are.0, first_pushed plan (suc place) at peers peer are.1 (omega (arith, is)) first)

-- each of them is that of its place
pub first_at : (plan : PlanView) (place at : ℕ) (peers : List Peer) (peer : Peer) → AreFirstPeers plan place peers
    → at < length peers → IsFirstPeer plan (place + at) (get_or peers at peer)
first_at plan place at [] peer are within = absurd (omega (arith, within))
first_at plan place zero (one ∷ peers) peer are within = subst (λ n. IsFirstPeer plan n one) (omega arith) are.0
first_at plan place (suc at) (one ∷ peers) peer are within =
    subst (λ n. IsFirstPeer plan n (get_or peers at peer)) (omega arith)
    (first_at plan (suc place) at peers peer are.1 (omega (arith, within)))
