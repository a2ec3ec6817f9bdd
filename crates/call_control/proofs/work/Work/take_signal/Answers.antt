use Rattle.std.proofs.Common.{◌≡◌, ℕ, zero, suc, ◌-◌, ◌<◌, ◌≤◌, List, [], ◌∷◌, length, drop, Option, None, Some, slice_get}
use Rattle.std.proofs.Common.{refl, sym, ap, ◌∙◌, arith}
use Rattle.call_control.specs.WorkInside.{work_inside}
use Rattle.call_control.specs.WorkState.{WorkState, first_of, tail_of, without_first, last_signals}
use Rattle.call_control.proofs.work.Work.take_signal.Goals as goal

-- ---- the signals of a list that aren't passed on yet

first_of-drop : {A : Type 0} (xs : List A) (i : ℕ) → slice_get xs i ≡ first_of (drop i xs)
first_of-drop [] zero = refl
first_of-drop [] (suc i) = refl
first_of-drop (x ∷ xs) zero = refl
first_of-drop (x ∷ xs) (suc i) = first_of-drop xs i

tail_of-drop : {A : Type 0} (xs : List A) (i : ℕ) → tail_of (drop i xs) ≡ drop (suc i) xs
tail_of-drop [] zero = refl
tail_of-drop [] (suc i) = refl
tail_of-drop (x ∷ xs) zero = refl
tail_of-drop (x ∷ xs) (suc i) = tail_of-drop xs i

some_left : {A : Type 0} (xs : List A) (i : ℕ) (x : A) → first_of (drop i xs) ≡ Some x → i < length xs
some_left [] zero x is = absurd (cc)
some_left [] (suc i) x is = absurd (cc)
some_left (y ∷ xs) zero x is = omega arith
some_left (y ∷ xs) (suc i) x is = let more : i < length xs = some_left xs i x is in omega arith

-- if one of the last count elements exists, count isn't 0
is_one : {A : Type 0} (xs : List A) (count : ℕ) (x : A) → first_of (drop (length xs - count) xs) ≡ Some x → 1 ≤ count
is_one xs count x is = let within : length xs - count < length xs = some_left xs (length xs - count) x is in omega arith

-- the last count elements, without the first of them
tail_of-last : {A : Type 0} (xs : List A) (count : ℕ) → 1 ≤ count → count ≤ length xs → tail_of (drop (length xs - count) xs)
    ≡ drop (length xs - (count - 1)) xs
tail_of-last xs count some few =
    let next : suc (length xs - count) ≡ length xs - (count - 1) = omega arith in
    tail_of-drop xs (length xs - count) ∙ ap (λ i. drop i xs) next

-- if there is no first element, none is left
no_tail : {A : Type 0} (xs : List A) → None ≡ first_of xs → xs ≡ tail_of xs
no_tail [] none = refl
no_tail (x ∷ xs) none = absurd (cc)

-- the signal at the place of the last count ones
first_left : {A : Type 0} (xs : List A) (count n : ℕ) (o : Option A) → o ≡ slice_get xs (n - count) → n ≡ length xs
    → o ≡ first_of (drop (length xs - count) xs)
first_left xs count n o is len = is ∙ ap (λ n. slice_get xs (n - count)) len ∙ first_of-drop xs (length xs - count)

pub overflow_sub-self : goal.overflow_sub-self
overflow_sub-self c = is_one c.in-Some.onwards.signals c.self.inside.signals_left c.in_ok-signal.signal
    (sym (first_left c.in-Some.onwards.signals c.self.inside.signals_left _ _ c.in_ok-signal.ensures c.len.ensures))

pub returns-clause-signal : goal.returns-clause-signal
returns-clause-signal c = first_left c.in-Some.onwards.signals c.self.inside.signals_left _ _ c.in_ok-signal.ensures c.len.ensures
    ∙ ap (λ o. first_of (last_signals o c.self.inside.signals_left)) (sym c.in-Some.is)
    ∙ ap (λ (s : WorkState). first_of s.work.rest.onward) c.self.view_is

pub returns-clause-work : goal.returns-clause-work
returns-clause-work c =
    let a = c.self.inside in
    let signals = c.in-Some.onwards.signals in
    let less : last_signals a.onwards (a.signals_left - 1) ≡ tail_of (last_signals a.onwards a.signals_left) =
    rw c.in-Some.is (sym (tail_of-last signals a.signals_left (is_one signals a.signals_left c.in_ok-signal.signal
    (sym (first_left signals a.signals_left _ _ c.in_ok-signal.ensures c.len.ensures)))
    (rw c.in-Some.is at c.self.invariant.signals))) in
    let after : WorkState = work_inside a in
    ap (λ onward. record after { work = record after.work { rest = record after.work.rest { onward = onward } } }) less
    ∙ ap (λ (s : WorkState). record s { work = without_first s.work }) c.self.view_is

pub returns-in_err-signal-clause-signal : goal.returns-in_err-signal-clause-signal
returns-in_err-signal-clause-signal c = c.from_residual.ensures
    ∙ first_left c.in-Some.onwards.signals c.self.inside.signals_left _ _ c.in_err-signal.ensures c.len.ensures
    ∙ ap (λ o. first_of (last_signals o c.self.inside.signals_left)) (sym c.in-Some.is)
    ∙ ap (λ (s : WorkState). first_of s.work.rest.onward) c.self.view_is

pub returns-in_err-signal-clause-work : goal.returns-in_err-signal-clause-work
returns-in_err-signal-clause-work c =
    let state = c.args.self.now in
    ap (λ onward. record state { work = record state.work { rest = record state.work.rest { onward = onward } } })
    (no_tail state.work.rest.onward (sym c.from_residual.ensures ∙ returns-in_err-signal-clause-signal c))
