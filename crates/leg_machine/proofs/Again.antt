-- The held frames, one by one.
use Rattle.std.proofs.Common.{◌≡◌, ◌≤◌, ℕ, ◌+◌, zero, suc, List, [], ◌∷◌, ◌++◌, length, take, refl, ap, arith}
use Rattle.std.specs.Prelude.{map, option_map, slice_get, Option, None, Some}
use Rattle.std.specs.Option.{option_to_list}
use Rattle.iax_frames.specs.declared.stored_frame.Frame.{Frame}
use Rattle.resend_queue.specs.declared.held_frame.Held.{Held}
use Rattle.seq_window.specs.History.{acked_count, held}
use Rattle.seq_window.specs.Window.{WindowState, Sending, numbered_from, held_count, held_frames, change_at, hastened}
use Rattle.seq_window.specs.Window.{after_hastening}
use Rattle.leg_machine.specs.Leg.{LegState}
use Rattle.leg_machine.specs.Replies.{sent_again}
use Rattle.leg_machine.specs.Tries.{frames_again}

-- no more frames are held than have a sending
pub length-numbered_from : (first : ℕ) (frames : List Frame) (sendings : List Sending)
    → length (numbered_from first frames sendings) ≤ length sendings
length-numbered_from first [] sendings = omega arith
length-numbered_from first (f ∷ frames) [] = omega arith
length-numbered_from first (f ∷ frames) (s ∷ sendings) = omega (arith, length-numbered_from (first + 1) frames sendings)

-- behind the last member there is none
slice_get-past : {A : Type 0} (xs : List A) (i : ℕ) → length xs ≤ i → slice_get xs i ≡ None
slice_get-past [] i le = refl
slice_get-past (x ∷ xs) zero le = absurd (omega arith)
slice_get-past (x ∷ xs) (suc i) le = slice_get-past xs i (omega arith)

-- no frame is held at a place from the number of held frames on
pub none-again : (leg : LegState) (place : ℕ) → held_count leg.window ≤ place → frames_again leg place ≡ []
none-again leg place le =
    let w = leg.window in
    let few = length-numbered_from (acked_count w.history) (held w.history) w.sendings in
    ap (λ (h : Option (Held Frame)). option_to_list (option_map (sent_again leg) h))
    (slice_get-past (held_frames w) place (omega (arith, few, le)))

change_at-past : (change : Sending → Sending) (place : ℕ) (sendings : List Sending) → length sendings ≤ place
    → change_at change place sendings ≡ sendings
change_at-past change place [] le = refl
change_at-past change zero (s ∷ sendings) le = absurd (omega arith)
change_at-past change (suc place) (s ∷ sendings) le =
    ap (λ (rest : List Sending). s ∷ rest) (change_at-past change place sendings (omega arith))

-- nor is there one to be marked
pub none-hastened : (w : WindowState) (place moment : ℕ) → held_count w ≤ place → after_hastening w place moment ≡ w
none-hastened w place moment le =
    ap (λ (sendings : List Sending). record w { sendings = sendings }) (change_at-past (hastened moment) place w.sendings le)

-- one more member of a mapped front
pub map-take_more : {A B : Type 0} (f : A → B) (xs : List A) (i : ℕ) (x : A) → slice_get xs i ≡ Some x
    → map f (take (i + 1) xs) ≡ map f (take i xs) ++ f x ∷ []
map-take_more f [] i x is = cc
map-take_more f (y ∷ ys) zero x is = let e : y ≡ x = cc in rw e refl
map-take_more f (y ∷ ys) (suc i) x is =
    let e : suc i + 1 ≡ suc (i + 1) = omega arith in
    rw e (ap (λ r. f y ∷ r) (map-take_more f ys i x is))

pub map-take_all : {A B : Type 0} (f : A → B) (xs : List A) (i : ℕ) → length xs ≤ i → map f (take i xs) ≡ map f xs
map-take_all f [] zero le = refl
map-take_all f [] (suc i) le = refl
map-take_all f (y ∷ ys) zero le = absurd (omega arith)
map-take_all f (y ∷ ys) (suc i) le = ap (λ r. f y ∷ r) (map-take_all f ys i (omega arith))

-- a map after a map
pub map-after-map : {A B C : Type 0} (f : A → B) (g : B → C) (xs : List A) → map (λ x. g (f x)) xs ≡ map g (map f xs)
map-after-map f g [] = refl
map-after-map f g (x ∷ xs) = ap (λ r. g (f x) ∷ r) (map-after-map f g xs)
