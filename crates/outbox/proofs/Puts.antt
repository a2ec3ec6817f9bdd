-- Datagrams that are put into an outbox one after another.
use native.Mathlib.Omega.{arith}
use Rattle.std.proofs.Common.{◌≡◌, ◌<◌, ◌≤◌, ℕ, zero, suc, ◌+◌, List, [], ◌∷◌, ◌++◌, length, take, drop, slice_get, slice_index}
use Rattle.std.proofs.Common.{Some}
use Rattle.std.proofs.Common.{ap, ◌∙◌, sym, subst, refl}
use Rattle.std.proofs.Math.Seq.{take-suc}
use Rattle.std.proofs.lemmas.Option.{slice_get_within, get_or_from_slice_get}
use Rattle.std.proofs.lemmas.List.{take-append-le, take_all, drop_all, drop-append-le, length-append, append_assoc, append-nil}
use Rattle.outbox.specs.Outbox.{OutboxView, put, extended, lose, with_lost}
use Rattle.outbox.specs.declared.losses.Losses.{Losses}

-- two cuts to one length are one cut
take_cut : {A : Type 0} (n : ℕ) (xs ys : List A) → take n (take n xs ++ ys) ≡ take n (xs ++ ys)
take_cut zero xs ys = refl
take_cut (suc n) [] ys = refl
take_cut (suc n) (x ∷ xs) ys = ap (λ rest. x ∷ rest) (take_cut n xs ys)

-- the elements cut off in two steps are those cut off at once
drop_cut : {A : Type 0} (n : ℕ) (xs ys : List A) → drop n xs ++ drop n (take n xs ++ ys) ≡ drop n (xs ++ ys)
drop_cut zero xs ys = refl
drop_cut (suc n) [] ys = refl
drop_cut (suc n) (x ∷ xs) ys = drop_cut n xs ys

lose_both : (lost : Losses) (a b : List (List ℕ)) → lose (lose lost a) b ≡ lose lost (a ++ b)
lose_both lost [] b = refl
lose_both lost (d ∷ a) b = lose_both (with_lost lost (slice_index d 0) (slice_index d 1)) a b

-- datagrams may be put in two at a time or one after another
pub put_both : (outbox : OutboxView) (a b : List (List ℕ)) → put (put outbox a) b ≡ put outbox (a ++ b)
put_both outbox a b = λ i. record { waiting = waiting_is i; lost = lost_is i }
  where
    waiting_is : take 256 (take 256 (outbox.waiting ++ a) ++ b) ≡ take 256 (outbox.waiting ++ (a ++ b))
    waiting_is = take_cut 256 (outbox.waiting ++ a) b ∙ ap (take 256) (append_assoc outbox.waiting a b)

    lost_is : lose (lose outbox.lost (drop 256 (outbox.waiting ++ a))) (drop 256 (take 256 (outbox.waiting ++ a) ++ b))
        ≡ lose outbox.lost (drop 256 (outbox.waiting ++ (a ++ b)))
    lost_is =
        lose_both outbox.lost (drop 256 (outbox.waiting ++ a)) (drop 256 (take 256 (outbox.waiting ++ a) ++ b))
        ∙ ap (lose outbox.lost) (drop_cut 256 (outbox.waiting ++ a) b ∙ ap (drop 256) (append_assoc outbox.waiting a b))

fits : (n : ℕ) → n < 256 → n + 1 ≤ 256
fits n room = omega arith

-- all that fit in 256 wait, and none is lost
put_short : (outbox : OutboxView) (datagrams : List (List ℕ)) → length (outbox.waiting ++ datagrams) ≤ 256
    → extended outbox datagrams ≡ put outbox datagrams
put_short outbox datagrams short = λ i. record {
  waiting = sym (take_all 256 (outbox.waiting ++ datagrams) short) i;
  lost = sym (ap (lose outbox.lost) (drop_all 256 (outbox.waiting ++ datagrams) short)) i;
}

-- a datagram that fits
pub put_fits : (outbox : OutboxView) (out : List ℕ) → length outbox.waiting < 256
    → extended outbox (out ∷ []) ≡ put outbox (out ∷ [])
put_fits outbox out room =
    put_short outbox (out ∷ []) (subst (λ n. n ≤ 256) (sym (length-append outbox.waiting (out ∷ [])))
    (fits (length outbox.waiting) room))

-- a datagram that doesn't
pub put_full : (outbox : OutboxView) (out : List ℕ) → length outbox.waiting ≤ 256 → 256 ≤ length outbox.waiting
    → record outbox { lost = with_lost outbox.lost (slice_index out 0) (slice_index out 1) } ≡ put outbox (out ∷ [])
put_full outbox out short long = λ i. record {
  waiting = sym (take-append-le 256 outbox.waiting (out ∷ []) long ∙ take_all 256 outbox.waiting short) i;
  lost = sym (ap (lose outbox.lost) (drop-append-le 256 outbox.waiting (out ∷ []) long
      ∙ ap (λ (l : List (List ℕ)). l ++ out ∷ []) (drop_all 256 outbox.waiting short))) i;
}

pub put_none : (outbox : OutboxView) → length outbox.waiting ≤ 256 → outbox ≡ put outbox []
put_none outbox short =
    (λ i. record outbox { waiting = sym (append-nil outbox.waiting) i })
    ∙ put_short outbox [] (subst (λ (l : List (List ℕ)). length l ≤ 256) (sym (append-nil outbox.waiting)) short)

take_more : (xs : List (List ℕ)) (i : ℕ) (x : List ℕ) → slice_get xs i ≡ Some x → take (i + 1) xs ≡ take i xs ++ x ∷ []
take_more xs i x there =
    (let plus : i + 1 ≡ suc i = omega arith in ap (λ n. take n xs) plus)
    ∙ take-suc xs i x (slice_get_within xs i x there) ∙ ap (λ y. take i xs ++ y ∷ []) (get_or_from_slice_get xs i x x there)

-- one more datagram of a list
pub put_more : (outbox : OutboxView) (replies : List (List ℕ)) (i : ℕ) (out : List ℕ) → slice_get replies i ≡ Some out
    → put (put outbox (take i replies)) (out ∷ []) ≡ put outbox (take (i + 1) replies)
put_more outbox replies i out there =
    put_both outbox (take i replies) (out ∷ []) ∙ ap (put outbox) (sym (take_more replies i out there))
