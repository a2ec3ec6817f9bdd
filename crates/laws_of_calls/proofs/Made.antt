-- An exchange as it is made is one at its opening.
use Rattle.std.specs.Prelude.{nat_le, ◌-◌}
use Rattle.std.specs.FinMap.{get, get-empty}
use Rattle.std.proofs.Common.{◌≡◌, ℕ, zero, suc, length, List, None, nat_cmp, replicate, slice_get, slice_index, refl, sym, ap}
use Rattle.std.proofs.Common.{◌∙◌, inl, inr}
use Rattle.std.proofs.lemmas.Bool.{cases_Bool}
use Rattle.call_book.specs.Book.{Book, first_number}
use Rattle.peer_lock.specs.Legs.{PeerLegs, filled, leg_at}
use Rattle.laws_of_calls.specs.Stored.{Stored, HaveRanges, IsMade, IsOpened}

none_there : (count place : ℕ) → filled (slice_get (replicate count None) place) ≡ None
none_there zero place = refl
none_there (suc count) zero = refl
none_there (suc count) (suc place) = none_there count place

so_many : {X : Type 0} (count : ℕ) (x : X) → length (replicate count x) ≡ count
so_many zero x = refl
so_many (suc count) x = ap (λ (n : ℕ). suc n) (so_many count x)

no_leg : (peer first count number : ℕ)
    → leg_at (record { peer = peer; first = first; places = replicate count None }) number ≡ None
no_leg peer first count number = elim (cases_Bool (nat_le first number)) [
  | inl e ↦ rw e (none_there count (number - first))
  | inr e ↦ rw e refl
]

pub made_opened : (counts : List ℕ) (serial : ℕ) (first : Stored) → IsMade counts serial first → IsOpened first × HaveRanges first
made_opened counts serial first made = (
  record {
    book = made.sound;
    no_name = λ number. ap (λ (b : Book). get b.names number) made.fresh ∙ get-empty nat_cmp number;
    peers =
        λ place peer at. record {
          place_is = ap (λ (l : PeerLegs). l.peer) (made.peers place peer at).legs;
          sound = (made.peers place peer at).sound;
        };
    no_leg =
        λ place number peer at. ap (λ (l : PeerLegs). leg_at l number) (made.peers place peer at).legs
        ∙ no_leg place (first_number counts place) (slice_index counts place) number;
    idle = made.idle;
  },
  λ place peer at. record {
    first =
        ap (λ (l : PeerLegs). l.first) (made.peers place peer at).legs
        ∙ ap (λ (b : Book). first_number b.counts place) (sym made.fresh);
    count =
        ap (λ (l : PeerLegs). length l.places) (made.peers place peer at).legs ∙ so_many _ _
        ∙ ap (λ (b : Book). slice_index b.counts place) (sym made.fresh);
  },
)
