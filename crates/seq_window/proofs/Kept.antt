-- The frames that a window keeps are those that its record has as sent and not acknowledged.
use Rattle.std.proofs.Common.{◌≡◌, ℕ, ◌+◌, ◌≤◌, zero, suc, List, [], ◌∷◌, ◌++◌, length, map, drop, Some, slice_get, refl, sym}
use Rattle.std.proofs.Common.{subst, ◌∙◌, ap, arith, add-zero}
use Rattle.std.proofs.lemmas.List.{drop-drop, drop-append-le, append-nil, length-map}
use Rattle.std.specs.Prelude.{Bool, cond, not, position}
use Rattle.std.specs.List.{prefix_len}
use Rattle.iax_frames.specs.declared.stored_frame.Frame.{Frame}
use Rattle.resend_queue.specs.declared.held_frame.Held.{Held}
use Rattle.resend_queue.specs.Timing.{changed_at}
use Rattle.resend_queue.specs.Timing as queue
use Rattle.seq_window.specs.Entry.{Entry, Sent, Acked, Taken}
use Rattle.seq_window.specs.History.{sent, acked_count, sent_count, held}
use Rattle.seq_window.specs.Sequence.{byte_of}
use Rattle.seq_window.specs.Window.{Sending, numbered_from, change_at, tries_at, is_due, first_due}
use Rattle.seq_window.specs.WindowFields.{AreHeld, sending_of}
use Rattle.seq_window.proofs.Places.{slice_get-append, slice_get-push}
use Rattle.seq_window.proofs.Records.{sent-append, acked_count-append}

module _ (entries : List Entry) where
  pub length-kept : (first : ℕ) (hs : List (Held ℕ)) (fs : List Frame) → AreHeld entries first hs fs → length hs ≡ length fs
  length-kept first [] [] are = refl
  length-kept first [] (f ∷ fs) are = absurd are
  length-kept first (h ∷ hs) [] are = absurd are
  length-kept first (h ∷ hs) (f ∷ fs) are = ap suc (length-kept (first + 1) hs fs are.2)

  kept-push : (first : ℕ) (hs : List (Held ℕ)) (fs : List Frame) (h : Held ℕ) (f : Frame) → AreHeld entries first hs fs
      → h.number ≡ byte_of (first + length hs)
      → slice_get entries h.frame ≡ Some (Sent f) → AreHeld entries first (hs ++ h ∷ []) (fs ++ f ∷ [])
  kept-push first [] [] h f are number at = (number ∙ ap byte_of (add-zero first), at, tt)
  kept-push first [] (g ∷ fs) h f are number at = absurd are
  kept-push first (k ∷ hs) [] h f are number at = absurd are
  kept-push first (k ∷ hs) (g ∷ fs) h f are number at =
      let next : first + suc (length hs) ≡ first + 1 + length hs = omega arith in
      (are.0, are.1, kept-push (first + 1) hs fs h f are.2 (number ∙ ap byte_of next) at)

  kept-drop : (first count : ℕ) (hs : List (Held ℕ)) (fs : List Frame) → AreHeld entries first hs fs → count ≤ length hs
      → AreHeld entries (first + count) (drop count hs) (drop count fs)
  kept-drop first zero hs fs are le = rw add-zero are
  kept-drop first (suc count) [] fs are le = absurd (omega arith)
  kept-drop first (suc count) (h ∷ hs) [] are le = absurd are
  kept-drop first (suc count) (h ∷ hs) (f ∷ fs) are le =
      let e : first + suc count ≡ first + 1 + count = omega arith in
      rw e (kept-drop (first + 1) count hs fs are.2 (omega arith))

  -- the kept frames stay at their places when further entries follow
  kept-more : (more : List Entry) (first : ℕ) (hs : List (Held ℕ)) (fs : List Frame) → AreHeld entries first hs fs
      → AreHeld (entries ++ more) first hs fs
  kept-more more first [] [] are = tt
  kept-more more first [] (f ∷ fs) are = absurd are
  kept-more more first (h ∷ hs) [] are = absurd are
  kept-more more first (h ∷ hs) (f ∷ fs) are =
      (are.0, slice_get-append entries more h.frame (Sent f) are.1, kept-more more (first + 1) hs fs are.2)

-- a change that leaves number and frame
pub record Keeps (change : Held ℕ → Held ℕ) : Type 0 where
  pub number : (h : Held ℕ) → (change h).number ≡ h.number
  pub frame : (h : Held ℕ) → (change h).frame ≡ h.frame

pub kept-changed : (entries : List Entry) (change : Held ℕ → Held ℕ) (first place : ℕ) (hs : List (Held ℕ)) (fs : List Frame)
    → Keeps change → AreHeld entries first hs fs
    → AreHeld entries first (changed_at change place hs) fs
kept-changed entries change first place [] fs keeps are = are
kept-changed entries change first place (h ∷ hs) [] keeps are = absurd are
kept-changed entries change first zero (h ∷ hs) (f ∷ fs) keeps are =
    (keeps.number h ∙ are.0, ap (slice_get entries) (keeps.frame h) ∙ are.1, are.2)
kept-changed entries change first (suc place) (h ∷ hs) (f ∷ fs) keeps are =
    (are.0, are.1, kept-changed entries change (first + 1) place hs fs keeps are.2)

pub kept-map : (entries : List Entry) (change : Held ℕ → Held ℕ) (first : ℕ) (hs : List (Held ℕ)) (fs : List Frame) → Keeps change
    → AreHeld entries first hs fs
    → AreHeld entries first (map change hs) fs
kept-map entries change first [] fs keeps are = are
kept-map entries change first (h ∷ hs) [] keeps are = absurd are
kept-map entries change first (h ∷ hs) (f ∷ fs) keeps are = (
  keeps.number h ∙ are.0,
  ap (slice_get entries) (keeps.frame h) ∙ are.1,
  kept-map entries change (first + 1) hs fs keeps
      are.2,
)

pub hastened_keeps : (moment : ℕ) → Keeps (queue.hastened moment)
hastened_keeps moment = record { number = λ h. refl; frame = λ h. refl }

pub touched_keeps : (now : ℕ) → Keeps (queue.touched now)
touched_keeps now = record { number = λ h. refl; frame = λ h. refl }

pub marked_keeps : (now : ℕ) → Keeps (queue.marked now)
marked_keeps now = record { number = λ h. refl; frame = λ h. refl }

-- ---- a held frame at its place

-- a held frame as a contract sees it
abbrev pub lies_as : Held ℕ → Frame → Held Frame
lies_as h f = record { number = h.number; frame = f; last = h.last; tries = h.tries }

pub record LiesAt (entries : List Entry) (all : List (Held Frame)) (place : ℕ) (h : Held ℕ) : Type 0 where
  pub frame : Frame
  pub entry : slice_get entries h.frame ≡ Some (Sent frame)
  pub held : slice_get all place ≡ Some (lies_as h frame)

-- the frame kept at a place is the held frame there
pub kept-lies : (entries : List Entry) (first : ℕ) (hs : List (Held ℕ)) (fs : List Frame) (place : ℕ) (h : Held ℕ)
    → AreHeld entries first hs fs
    → slice_get hs place ≡ Some h → LiesAt entries (numbered_from first fs (map sending_of hs)) place h
kept-lies entries first [] fs place h are at = cc
kept-lies entries first (k ∷ hs) [] place h are at = absurd are
kept-lies entries first (k ∷ hs) (f ∷ fs) zero h are at =
    let same : k ≡ h = cc in
    subst (LiesAt entries (numbered_from first (f ∷ fs) (map sending_of (k ∷ hs))) zero) same
    (record { frame = f; entry = are.1; held = rw (← are.0) refl })
kept-lies entries first (k ∷ hs) (f ∷ fs) (suc place) h are at =
    let lies : LiesAt entries (numbered_from (first + 1) fs (map sending_of hs)) place h = kept-lies entries (first + 1) hs fs
    place h are.2 at in
    record { frame = lies.frame; entry = lies.entry; held = lies.held }

-- as many frames are held as are kept
pub length-numbered : (entries : List Entry) (first : ℕ) (hs : List (Held ℕ)) (fs : List Frame) → AreHeld entries first hs fs
    → length (numbered_from first fs (map sending_of hs)) ≡ length hs
length-numbered entries first [] [] are = refl
length-numbered entries first [] (f ∷ fs) are = absurd are
length-numbered entries first (h ∷ hs) [] are = absurd are
length-numbered entries first (h ∷ hs) (f ∷ fs) are = ap suc (length-numbered entries (first + 1) hs fs are.2)

-- ---- after each entry

pub kept-sent : (history : List Entry) (hs : List (Held ℕ)) (frame : Frame) (one : Held ℕ)
    → AreHeld history (acked_count history) hs (held history)
    → acked_count history ≤ sent_count history → acked_count history + length hs ≡ sent_count history
    → one.number ≡ byte_of (sent_count history) → one.frame ≡ length history
    → AreHeld (history ++ Sent frame ∷ []) (acked_count (history ++ Sent frame ∷ [])) (hs ++ one ∷ [])
    (held (history ++ Sent frame ∷ []))
kept-sent history hs frame one are within count number place =
    rw (
      sent-append history (Sent frame ∷ []),
      acked_count-append history (Sent frame ∷ []),
      add-zero,
      drop-append-le (acked_count history) (sent history) (frame ∷ []) within,
    )
    (kept-push (history ++ Sent frame ∷ []) (acked_count history) hs (held history) one frame
    (kept-more history (Sent frame ∷ []) (acked_count history) hs (held history) are) (number ∙ ap byte_of (sym count))
    (ap (slice_get (history ++ Sent frame ∷ [])) place ∙ slice_get-push history (Sent frame)))

pub kept-acked : (history : List Entry) (hs : List (Held ℕ)) (count : ℕ) → AreHeld history (acked_count history) hs (held history)
    → count ≤ length hs
    → AreHeld (history ++ Acked count ∷ []) (acked_count (history ++ Acked count ∷ [])) (drop count hs)
    (held (history ++ Acked count ∷ []))
kept-acked history hs count are le =
    rw (
      sent-append history (Acked count ∷ []),
      acked_count-append history (Acked count ∷ []),
      append-nil,
      add-zero,
      ← drop-drop count (acked_count history) (sent history),
    )
    (kept-drop (history ++ Acked count ∷ []) (acked_count history) count hs (held history)
    (kept-more history (Acked count ∷ []) (acked_count history) hs (held history) are) le)

pub kept-taken : (history : List Entry) (hs : List (Held ℕ)) (frame : Frame)
    → AreHeld history (acked_count history) hs (held history)
    → AreHeld (history ++ Taken frame ∷ []) (acked_count (history ++ Taken frame ∷ [])) hs (held (history ++ Taken frame ∷ []))
kept-taken history hs frame are =
    rw (sent-append history (Taken frame ∷ []), acked_count-append history (Taken frame ∷ []), append-nil, add-zero)
    (kept-more history (Taken frame ∷ []) (acked_count history) hs (held history) are)

-- ---- the sendings of the kept frames

-- a change of the kept frames that is this change of its sending
module _ (change : Held ℕ → Held ℕ) (noted : Sending → Sending) (same : (h : Held ℕ)
    → sending_of (change h) ≡ noted (sending_of h)) where
  pub sendings-changed : (place : ℕ) (hs : List (Held ℕ)) → map sending_of (changed_at change place hs) ≡ change_at noted place
      (map sending_of hs)
  sendings-changed place [] = refl
  sendings-changed zero (h ∷ hs) = ap (λ x. x ∷ map sending_of hs) (same h)
  sendings-changed (suc place) (h ∷ hs) = ap (λ xs. sending_of h ∷ xs) (sendings-changed place hs)

  pub sendings-all_changed : (hs : List (Held ℕ)) → map sending_of (map change hs) ≡ map noted (map sending_of hs)
  sendings-all_changed [] = refl
  sendings-all_changed (h ∷ hs) = rw (same h, sendings-all_changed hs) refl

pub length-change_at : (change : Sending → Sending) (place : ℕ) (s : List Sending) → length (change_at change place s) ≡ length s
length-change_at change place [] = refl
length-change_at change zero (x ∷ xs) = refl
length-change_at change (suc place) (x ∷ xs) = ap suc (length-change_at change place xs)

pub tries_at-held : (first : ℕ) (fs : List Frame) (ss : List Sending) (place : ℕ) (h : Held Frame)
    → slice_get (numbered_from first fs ss) place ≡ Some h → tries_at place ss ≡ h.tries
tries_at-held first [] ss place h at = cc
tries_at-held first (f ∷ fs) [] place h at = cc
tries_at-held first (f ∷ fs) (s ∷ ss) zero h at =
    let one : Held Frame = record { number = byte_of first; frame = f; last = s.last; tries = s.tries } in
    let same : one ≡ h = cc in ap (λ (x : Held Frame). x.tries) same
tries_at-held first (f ∷ fs) (s ∷ ss) (suc place) h at = tries_at-held (first + 1) fs ss place h at

prefix_len-map : (p : Sending → Bool) (hs : List (Held ℕ)) → prefix_len p (map sending_of hs) ≡ prefix_len (λ h. p (sending_of h))
    hs
prefix_len-map p [] = refl
prefix_len-map p (h ∷ hs) = ap (λ n. cond (p (sending_of h)) (1 + n) 0) (prefix_len-map p hs)

pub first_due-kept : (now retry_ms : ℕ) (hs : List (Held ℕ)) → first_due now retry_ms (map sending_of hs) ≡ position
    (queue.is_due now retry_ms) hs
first_due-kept now retry_ms hs = rw (prefix_len-map (λ s. not (is_due now retry_ms s)) hs, length-map hs sending_of) refl
