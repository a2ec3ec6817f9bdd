-- The fields of a window after each call.
use Rattle.std.proofs.Common.{◌≡◌, ℕ, ◌+◌, ◌-◌, ◌%◌, ◌<◌, ◌≤◌, [], ◌∷◌, ◌++◌, length, drop, map, Some, slice_get, sym, refl, ap}
use Rattle.std.proofs.Common.{◌∙◌, arith, add-zero}
use Rattle.std.proofs.lemmas.List.{length-map}
use Rattle.std.proofs.lemmas.Bool.{leb-true, leb-false}
use Rattle.std.proofs.lemmas.Grind.{common_steps}
use Rattle.std.specs.Prelude.{nat_le, nat_eq, true, false}
use Rattle.resend_queue.specs.Queue.{Queue}
use Rattle.resend_queue.specs.Timing.{changed_at}
use Rattle.resend_queue.specs.declared.held_frame.Held.{Held}
use Rattle.iax_frames.specs.declared.stored_frame.Frame.{Frame}
use Rattle.seq_window.specs.declared.judgements.Acknowledged.TheVariants.{Acked as Counted, Ignored}
use Rattle.seq_window.specs.declared.sliding_window.Window.TheInside.{Inside}
use Rattle.seq_window.specs.Entry.{Sent, Acked, Taken}
use Rattle.seq_window.specs.History.{sent_count, acked_count, held, IsWithinWindow}
use Rattle.seq_window.specs.Record.{RecordState}
use Rattle.seq_window.specs.Sequence.{byte_of, distance, reading_from}
use Rattle.seq_window.specs.Window.{WindowState, judged_acknowledgement, count_of, entries_for_count, after_count}
use Rattle.seq_window.specs.Window.{after_acknowledgement, held_frames}
use Rattle.seq_window.specs.WindowFields.{AreHeld, IsSound, sending_of, window_of}
use Rattle.seq_window.proofs.Numbers.{from_reads, acknowledged_near, acknowledged_far, acknowledged_within}
use Rattle.seq_window.proofs.Records.{legal_now, legal_sent, legal_acked, legal_taken, sent_count-append, acked_count-append}
use Rattle.seq_window.proofs.Records.{taken_count-append, length-held}
use Rattle.seq_window.proofs.Kept.{LiesAt, Keeps, length-kept, kept-lies, kept-changed, kept-map, length-numbered, kept-sent}
use Rattle.seq_window.proofs.Kept.{kept-acked, kept-taken}

module _ (w : Inside) (sound : IsSound w) where
  acked_below : acked_count w.history.entries ≤ sent_count w.history.entries
  acked_below =
      let within : IsWithinWindow w.width w.history.entries = legal_now w.width w.limit w.history.entries sound.legal in
      within.acked

  pub held_is : length w.held.held + acked_count w.history.entries ≡ sent_count w.history.entries
  held_is = omega (
    arith,
    acked_below,
    length-kept w.history.entries (acked_count w.history.entries) w.held.held
        (held w.history.entries) sound.kept,
    length-held w.history.entries,
  )

  pub held_within : length w.held.held ≤ w.width
  held_within =
      let within : IsWithinWindow w.width w.history.entries = legal_now w.width w.limit w.history.entries sound.legal in
      omega (arith, within.held, held_is)

  -- the frame kept at a place is the held frame there
  pub lies_at : (place : ℕ) (h : Held ℕ) → slice_get w.held.held place ≡ Some h
      → LiesAt w.history.entries (held_frames (window_of w).state) place h
  lies_at place h at = kept-lies w.history.entries (acked_count w.history.entries) w.held.held (held w.history.entries) place h
      sound.kept at

  -- as many frames are held as are kept
  pub held_frames_count : length (held_frames (window_of w).state) ≡ length w.held.held
  held_frames_count = length-numbered w.history.entries (acked_count w.history.entries) w.held.held (held w.history.entries)
      sound.kept

  -- the distance from the oldest held number
  pub distance_is : (byte : ℕ) → distance (acked_count w.history.entries) byte ≡ (byte + (256 - w.oldest)) % 256
  distance_is byte = ap (λ n. (byte + (256 - n)) % 256) (sym sound.oldest)

  -- up to the number of held frames it counts
  pub judged_near : (byte : ℕ) → (byte + (256 - w.oldest)) % 256 ≤ length w.held.held
      → Counted ((byte + (256 - w.oldest)) % 256) ≡ judged_acknowledgement w.history.entries byte
  judged_near byte near =
      let is : distance (acked_count w.history.entries) byte ≡ (byte + (256 - w.oldest)) % 256 = distance_is byte in
      ap (λ n. Counted n) (sym is)
      ∙ sym (acknowledged_near (acked_count w.history.entries) (sent_count w.history.entries) byte (omega (arith, held_is)))

  pub judged_far : (byte : ℕ) → length w.held.held < (byte + (256 - w.oldest)) % 256
      → Ignored ≡ judged_acknowledgement w.history.entries byte
  judged_far byte far =
      let is : distance (acked_count w.history.entries) byte ≡ (byte + (256 - w.oldest)) % 256 = distance_is byte in
      sym (acknowledged_far (acked_count w.history.entries) (sent_count w.history.entries) byte (omega (arith, held_is)))

  -- an acknowledgement that counts removes held frames
  pub count_held : (byte count : ℕ) → Counted count ≡ judged_acknowledgement w.history.entries byte → count ≤ length w.held.held
  count_held byte count is =
      let (number, known) = acknowledged_within (acked_count w.history.entries) (sent_count w.history.entries)
      (reading_from (acked_count w.history.entries) byte) count (sym is) in
      omega (arith, held_is)

  pub acked_sound : (grown : RecordState) (kept : Queue ℕ) (byte count : ℕ) → grown.entries ≡ w.history.entries ++ Acked count
      ∷ []
      → kept.held ≡ drop count w.held.held → kept.width ≡ w.held.width
      → byte < 256 → 1 ≤ count → Counted count ≡ judged_acknowledgement w.history.entries byte
      → length w.history.entries < w.limit
      → IsSound (record w { history = grown; held = kept; oldest = byte })
  acked_sound grown kept byte count is dropped capacity small some judged room =
      let (number, known) = acknowledged_within (acked_count w.history.entries) (sent_count w.history.entries)
      (reading_from (acked_count w.history.entries) byte) count (sym judged) in
      let written : byte_of (acked_count w.history.entries + count) ≡ byte =
      ap byte_of number ∙ (from_reads (acked_count w.history.entries) byte small).written in
      record {
        legal = rw is (legal_acked w.width w.limit w.history.entries count sound.legal some (omega arith) room);
        kept = rw (is, dropped) (kept-acked w.history.entries w.held.held count sound.kept (count_held byte count judged));
        next = rw (is, sent_count-append, add-zero) sound.next;
        oldest = rw (is, acked_count-append, add-zero) (sym written);
        expected = rw (is, taken_count-append, add-zero) sound.expected;
        bounds = sound.bounds;
        room = capacity ∙ sound.room;
      }

  pub taken_sound : (grown : RecordState) (frame : Frame) → grown.entries ≡ w.history.entries ++ Taken frame ∷ []
      → length w.history.entries < w.limit → IsSound (record w { history = grown; expected = (w.expected + 1) % 256 })
  taken_sound grown frame is room = record {
    legal = rw is (legal_taken w.width w.limit w.history.entries frame sound.legal room);
    kept = rw is (kept-taken w.history.entries w.held.held frame sound.kept);
    next = rw (is, sent_count-append, add-zero) sound.next;
    oldest = rw (is, acked_count-append, add-zero) sound.oldest;
    expected = rw is (omega (arith, sound.expected, taken_count-append w.history.entries (Taken frame ∷ [])));
    bounds = sound.bounds;
    room = sound.room;
  }

  pub sent_sound : (grown : RecordState) (kept : Queue ℕ) (frame : Frame) (one : Held ℕ) → grown.entries ≡ w.history.entries
      ++ Sent frame ∷ []
      → kept.held ≡ w.held.held ++ one ∷ [] → kept.width ≡ w.held.width
      → one.number ≡ w.next → one.frame ≡ length w.history.entries → length w.held.held < w.width
      → length w.history.entries < w.limit
      → IsSound (record w { history = grown; held = kept; next = (w.next + 1) % 256 })
  sent_sound grown kept frame one is pushed capacity number place narrow room = record {
    legal = rw is (legal_sent w.width w.limit w.history.entries frame sound.legal (omega (arith, held_is)) room);
    kept = rw (is, pushed) (kept-sent w.history.entries w.held.held frame one sound.kept acked_below (omega (arith, held_is))
        (number ∙ sound.next) place);
    next = rw is (omega (arith, sound.next, sent_count-append w.history.entries (Sent frame ∷ [])));
    oldest = rw (is, acked_count-append, add-zero) sound.oldest;
    expected = rw (is, taken_count-append, add-zero) sound.expected;
    bounds = sound.bounds;
    room = capacity ∙ sound.room;
  }

  -- the held frames stay when their sendings change
  noted_sound : (kept : Queue ℕ) → AreHeld w.history.entries (acked_count w.history.entries) kept.held (held w.history.entries)
      → kept.width ≡ w.held.width
      → IsSound (record w { held = kept })
  noted_sound kept are capacity = record {
    legal = sound.legal;
    kept = are;
    next = sound.next;
    oldest = sound.oldest;
    expected = sound.expected;
    bounds = sound.bounds;
    room = capacity ∙ sound.room;
  }

  -- one of the held frames is changed, or all are, and each keeps its number and its place
  module _ (change : Held ℕ → Held ℕ) (keeps : Keeps change) (kept : Queue ℕ) where
    pub changed_sound : (place : ℕ) → kept ≡ record { held = changed_at change place w.held.held; width = w.held.width }
        → IsSound (record w { held = kept })
    changed_sound place is =
        noted_sound kept (rw is (kept-changed w.history.entries change (acked_count w.history.entries) place w.held.held
        (held w.history.entries) keeps sound.kept))
        (ap (λ (q : Queue ℕ). q.width) is)

    pub all_changed_sound : kept ≡ record { held = map change w.held.held; width = w.held.width }
        → IsSound (record w { held = kept })
    all_changed_sound is =
        noted_sound kept (rw is (kept-map w.history.entries change (acked_count w.history.entries) w.held.held
        (held w.history.entries) keeps sound.kept))
        (ap (λ (q : Queue ℕ). q.width) is)

  -- as many sendings as held frames
  sendings_count : length (map sending_of w.held.held) ≡ length w.held.held
  sendings_count = length-map w.held.held sending_of

  pub full_is : nat_le w.width (length (map sending_of w.held.held)) ≡ true → length (map sending_of w.held.held) ≡ w.width
  full_is full = omega (arith, leb-true w.width (length (map sending_of w.held.held)) full, held_within, sendings_count)

  pub not_full_is : nat_le w.width (length (map sending_of w.held.held)) ≡ false → length w.held.held < w.width
  not_full_is room = omega (arith, leb-false w.width (length (map sending_of w.held.held)) room, sendings_count)

-- an acknowledgement that removes frames
pub counted : (w : WindowState) (byte count : ℕ) → Counted count ≡ judged_acknowledgement w.history byte → 1 ≤ count
    → let new : WindowState = record {
      history = w.history ++ Acked count ∷ [];
      width = w.width;
      limit = w.limit;
      sendings = drop count w.sendings;
    } in
    new ≡ after_acknowledgement w byte
counted w byte count judged some =
    let no : nat_eq count 0 ≡ false = grind (arith, common_steps) in
    let entries : entries_for_count count ≡ Acked count ∷ [] = rw no refl in
    sym (ap (λ j. after_count w (count_of j)) (sym judged) ∙ rw entries refl)
