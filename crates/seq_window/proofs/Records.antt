-- The effect of one more entry on a record.
use Rattle.std.proofs.Common.{◌≡◌, ℕ, ◌+◌, ◌-◌, ◌<◌, ◌≤◌, List, [], ◌∷◌, ◌++◌, length, take, Some, slice_get, refl, ap, sym, ◌∙◌}
use Rattle.std.proofs.Common.{subst, ◌⊎◌, inl, inr, arith, zero-add, length-append, length-drop}
use Rattle.std.proofs.lemmas.Bool.{cases_lt}
use Rattle.std.proofs.lemmas.List.{take-append-le, take_all, length_push}
use Rattle.std.proofs.lemmas.List.Elements.{All-nil, All-push}
use Rattle.iax_frames.specs.declared.stored_frame.Frame.{Frame}
use Rattle.seq_window.specs.Entry.{Entry, Sent, Acked, Taken}
use Rattle.seq_window.specs.History.{sent, taken, sent_count, taken_count, acked_count, held, AcksSome, IsWithinWindow, IsLegal}
use Rattle.seq_window.proofs.Places.{slice_get-drop}

pub sent-append : (xs ys : List Entry) → sent (xs ++ ys) ≡ sent xs ++ sent ys
sent-append [] ys = refl
sent-append (Sent frame ∷ xs) ys = ap (λ frames. frame ∷ frames) (sent-append xs ys)
sent-append (Acked count ∷ xs) ys = sent-append xs ys
sent-append (Taken frame ∷ xs) ys = sent-append xs ys

pub taken-append : (xs ys : List Entry) → taken (xs ++ ys) ≡ taken xs ++ taken ys
taken-append [] ys = refl
taken-append (Sent frame ∷ xs) ys = taken-append xs ys
taken-append (Acked count ∷ xs) ys = taken-append xs ys
taken-append (Taken frame ∷ xs) ys = ap (λ frames. frame ∷ frames) (taken-append xs ys)

pub acked_count-append : (xs ys : List Entry) → acked_count (xs ++ ys) ≡ acked_count xs + acked_count ys
acked_count-append [] ys = sym (zero-add (acked_count ys))
acked_count-append (Sent frame ∷ xs) ys = acked_count-append xs ys
acked_count-append (Acked count ∷ xs) ys = let rest : acked_count (xs ++ ys) ≡ acked_count xs + acked_count ys =
    acked_count-append xs ys in omega arith
acked_count-append (Taken frame ∷ xs) ys = acked_count-append xs ys

pub sent_count-append : (xs ys : List Entry) → sent_count (xs ++ ys) ≡ sent_count xs + sent_count ys
sent_count-append xs ys = ap length (sent-append xs ys) ∙ length-append (sent xs) (sent ys)

pub taken_count-append : (xs ys : List Entry) → taken_count (xs ++ ys) ≡ taken_count xs + taken_count ys
taken_count-append xs ys = ap length (taken-append xs ys) ∙ length-append (taken xs) (taken ys)

-- a legal record is within its window now
pub legal_now : (width limit : ℕ) (entries : List Entry) → IsLegal width limit entries → IsWithinWindow width entries
legal_now width limit entries legal =
    let now : IsWithinWindow width (take (length entries) entries) = legal.at_each_moment (length entries) in
    subst (IsWithinWindow width) (take_all (length entries) entries (omega arith)) now

pub legal_empty : (width limit : ℕ) → IsLegal width limit []
legal_empty width limit = record {
  some_acked = All-nil AcksSome;
  at_each_moment = λ moment. subst (IsWithinWindow width) (sym (take_all moment [] (omega arith)))
      (record { acked = omega arith; held = omega arith });
  within_limit = omega arith;
}

pub legal_push : (width limit : ℕ) (entries : List Entry) (entry : Entry)
    → IsLegal width limit entries → AcksSome entry → IsWithinWindow width (entries ++ entry ∷ []) → length entries + 1 ≤ limit
    → IsLegal width limit (entries ++ entry ∷ [])
legal_push width limit entries entry legal some within room = record {
  some_acked = All-push AcksSome entries entry legal.some_acked some;
  at_each_moment = λ moment. at moment (cases_lt (length entries) moment);
  within_limit = omega (arith, length_push entries entry);
}
  where
    at : (moment : ℕ) → (length entries < moment) ⊎ (moment ≤ length entries)
        → IsWithinWindow width (take moment (entries ++ entry ∷ []))
    at moment (inl past) = rw (take_all moment (entries ++ entry ∷ []) (omega (arith, length_push entries entry))) within
    at moment (inr before) = rw (take-append-le moment entries (entry ∷ []) before) (legal.at_each_moment moment)

-- the number of held frames
pub length-held : (entries : List Entry) → length (held entries) ≡ sent_count entries - acked_count entries
length-held entries = simp length-drop

-- a held frame is the sent frame of its number
pub held_sent : (entries : List Entry) (place : ℕ) (frame : Frame) → slice_get (held entries) place ≡ Some frame
    → slice_get (sent entries) (acked_count entries + place) ≡ Some frame
held_sent entries place frame at = sym (slice_get-drop (acked_count entries) (sent entries) place) ∙ at

-- a window that isn't full sends a frame
pub legal_sent : (width limit : ℕ) (entries : List Entry) (frame : Frame) → IsLegal width limit entries
    → sent_count entries < acked_count entries + width → length entries < limit → IsLegal width limit (entries ++ Sent frame ∷ [])
legal_sent width limit entries frame legal narrow room =
    let within : IsWithinWindow width entries = legal_now width limit entries legal in
    legal_push width limit entries (Sent frame) legal tt
    (record {
      acked = omega (
        arith,
        within.acked,
        sent_count-append entries (Sent frame ∷ []),
        acked_count-append entries (Sent frame ∷ []),
      );
      held = omega (arith, sent_count-append entries (Sent frame ∷ []), acked_count-append entries (Sent frame ∷ []));
    })
    (omega arith)

-- some frames that were sent are acknowledged
pub legal_acked : (width limit : ℕ) (entries : List Entry) (count : ℕ) → IsLegal width limit entries → 1 ≤ count
    → acked_count entries + count ≤ sent_count entries → length entries < limit
    → IsLegal width limit (entries ++ Acked count ∷ [])
legal_acked width limit entries count legal some sent room =
    let within : IsWithinWindow width entries = legal_now width limit entries legal in
    legal_push width limit entries (Acked count) legal some
    (record {
      acked = omega (arith, sent_count-append entries (Acked count ∷ []), acked_count-append entries (Acked count ∷ []));
      held = omega (
        arith,
        within.held,
        sent_count-append entries (Acked count ∷ []),
        acked_count-append entries (Acked count ∷ []),
      );
    })
    (omega arith)

-- a frame is taken
pub legal_taken : (width limit : ℕ) (entries : List Entry) (frame : Frame) → IsLegal width limit entries
    → length entries < limit → IsLegal width limit (entries ++ Taken frame ∷ [])
legal_taken width limit entries frame legal room =
    let within : IsWithinWindow width entries = legal_now width limit entries legal in
    legal_push width limit entries (Taken frame) legal tt
    (record {
      acked = omega (
        arith,
        within.acked,
        sent_count-append entries (Taken frame ∷ []),
        acked_count-append entries (Taken frame ∷ []),
      );
      held = omega (
        arith,
        within.held,
        sent_count-append entries (Taken frame ∷ []),
        acked_count-append entries (Taken frame ∷ []),
      );
    })
    (omega arith)

-- a record has no more sent frames than entries
pub sent_count_le : (entries : List Entry) → sent_count entries ≤ length entries
sent_count_le [] = omega arith
sent_count_le (Sent frame ∷ entries) = let rest : sent_count entries ≤ length entries = sent_count_le entries in omega arith
sent_count_le (Acked count ∷ entries) = let rest : sent_count entries ≤ length entries = sent_count_le entries in omega arith
sent_count_le (Taken frame ∷ entries) = let rest : sent_count entries ≤ length entries = sent_count_le entries in omega arith

pub taken_count_le : (entries : List Entry) → taken_count entries ≤ length entries
taken_count_le [] = omega arith
taken_count_le (Sent frame ∷ entries) = let rest : taken_count entries ≤ length entries = taken_count_le entries in omega arith
taken_count_le (Acked count ∷ entries) = let rest : taken_count entries ≤ length entries = taken_count_le entries in omega arith
taken_count_le (Taken frame ∷ entries) = let rest : taken_count entries ≤ length entries = taken_count_le entries in omega arith
