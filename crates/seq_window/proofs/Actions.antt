-- Each fresh action leaves two sides in step, and so does each fresh list of events.
use Rattle.std.proofs.Common.{◌≡◌, ℕ, ◌+◌, ◌<◌, ◌≤◌, Bool, true, false, cond, ◌&&◌, List, [], ◌∷◌, ◌++◌, length, Option, Some}
use Rattle.std.proofs.Common.{None, IfSome, OnSome, pos, slice_get, refl, ap, sym, ◌∙◌, subst, arith, append-nil}
use Rattle.std.proofs.lemmas.Bool.{cond_both, ltb-true, leb-true}
use Rattle.std.proofs.lemmas.Bool.Decides.{nat_tests}
use Rattle.std.proofs.lemmas.Option.{slice_get_within}
use Rattle.std.specs.Prelude.{nat_le, nat_lt, nat_eq}
use Rattle.iax_frames.specs.declared.stored_frame.Frame.{Frame}
use Rattle.seq_window.specs.Entry.{Entry, Sent, Acked as EntryAcked, Taken as EntryTaken}
use Rattle.seq_window.specs.declared.judgements.Acknowledged.{Acknowledged}
use Rattle.seq_window.specs.declared.judgements.Acknowledged.TheVariants.{Acked, Ignored}
use Rattle.seq_window.specs.declared.judgements.Received.{Received}
use Rattle.seq_window.specs.declared.judgements.Received.TheVariants.{Taken, Repeat, Gap}
use Rattle.seq_window.specs.History.{sent, sent_count, taken_count, acked_count, held, IsWithinWindow}
use Rattle.seq_window.specs.Sequence.{byte_of, number_judged, acknowledgement_judged}
use Rattle.seq_window.specs.Window.{judged_acknowledgement, judged_number, count_of, entries_for_count, entries_for_number}
use Rattle.seq_window.specs.Turn.{extended}
use Rattle.seq_window.specs.Network.{Datagram, Side, Network, Event, AtFirst, AtSecond, Size, Action, SendNumbered}
use Rattle.seq_window.specs.Network.{SendUnnumbered, Retransmit, JudgeAcknowledgement, JudgeNumber, datagram_of, empty_side}
use Rattle.seq_window.specs.Network.{start, happens, run, after, after_send, after_retransmission, after_acknowledgement}
use Rattle.seq_window.specs.Network.{after_number, after_reception, IsFresh, IsFreshEvent, IsFreshAction, IsFreshAcknowledgement}
use Rattle.seq_window.specs.Network.{IsFreshNumber, BytesSayNumbers}
use Rattle.seq_window.proofs.Numbers.{acknowledged_within, number_byte_is, acknowledgement_byte_is}
use Rattle.seq_window.proofs.Places.{slice_get-push}
use Rattle.seq_window.proofs.Records.{legal_now, legal_empty, held_sent, taken_count-append, sent-append}
use Rattle.seq_window.proofs.InStep.{IsOwn, IsSound, IsInStep, in_step_turned, with_entry, with_datagram, prefix_length}
use Rattle.seq_window.proofs.InStep.{sent_in_step, acked_in_step, taken_in_step, datagram_in_step}

-- a property of a record stays after further entries, if they fit
extended_keeps : (P : List Entry → Type 0) (limit : ℕ) (entries more : List Entry) → P entries
    → (length entries + length more ≤ limit → P (entries ++ more)) → P (extended limit entries more)
extended_keeps P limit entries more unchanged grown =
    cond_both (nat_le (length entries + length more) limit) (entries ++ more) entries P
    (λ fits. grown (leb-true (length entries + length more) limit fits)) (λ _. unchanged)

-- only the expected number is taken
taken_expected : (expected number : ℕ) → number_judged expected (pos number) ≡ Taken → number ≡ expected
taken_expected expected number is = grind (arith, nat_tests)

module _ (own other : Side) where
  -- the bytes of a fresh datagram are judged as its numbers
  acknowledgement_is : (which : ℕ) (datagram : Datagram) → IsInStep own other → slice_get other.datagrams which ≡ Some datagram
      → IsFreshAcknowledgement own datagram
      → judged_acknowledgement own.history (byte_of datagram.acknowledgement) ≡ acknowledgement_judged (acked_count own.history)
      (sent_count own.history) datagram.acknowledgement
  acknowledgement_is which datagram s at fresh =
      let within : IsWithinWindow own.width own.history = legal_now own.width own.limit own.history s.forth.sound.legal in
      let is_own : IsOwn other.history datagram = s.back.sound.datagrams which datagram at in
      let known : taken_count other.history ≤ sent_count own.history = prefix_length _ _ s.forth.takes in
      acknowledgement_byte_is (acked_count own.history) (sent_count own.history) datagram.acknowledgement
      (omega (arith, within.held, s.forth.sound.width)) (omega (arith, is_own.acknowledgement)) fresh

  number_is : (which : ℕ) (datagram : Datagram) (frame : Frame) → IsInStep own other → slice_get other.datagrams which
      ≡ Some datagram → datagram.frame ≡ Some frame
      → taken_count own.history ≤ datagram.number + 128
      → judged_number own.history (byte_of datagram.number) ≡ number_judged (taken_count own.history) (pos datagram.number)
  number_is which datagram frame s at is fresh =
      let within : IsWithinWindow other.width other.history = legal_now other.width other.limit other.history
      s.back.sound.legal in
      let is_own : IsOwn other.history datagram = s.back.sound.datagrams which datagram at in
      let sent : datagram.number < sent_count other.history = slice_get_within _ _ frame (is_own.frame frame is) in
      number_byte_is (taken_count own.history) datagram.number fresh (omega (arith, within.held, s.back.sound.width, s.back.acks))

  send_keeps : (frame : Frame) → IsInStep own other → IsInStep (after_send own frame) other
  send_keeps frame s =
      go (nat_lt (length (held own.history)) own.width) (nat_lt (length own.history) own.limit) refl refl
    where
      go : (narrow short : Bool) → nat_lt (length (held own.history)) own.width ≡ narrow → nat_lt (length own.history) own.limit
          ≡ short
          → IsInStep (cond (narrow && short) (with_datagram (with_entry own (Sent frame))
          (datagram_of own.history (sent_count own.history) (Some frame))) own) other
      go true true narrow short =
          datagram_in_step (with_entry own (Sent frame)) other (datagram_of own.history (sent_count own.history) (Some frame))
          (sent_in_step own other frame s (ltb-true _ _ narrow) (ltb-true _ _ short))
          (record {
            acknowledgement = omega (arith, taken_count-append own.history (Sent frame ∷ []));
            frame = λ f is. rw sent-append (slice_get-push (sent own.history) frame ∙ is);
          })
      go true false narrow short = s
      go false short narrow limit = s

  retransmission_keeps : (place : ℕ) (kept : Option Frame) → slice_get (held own.history) place ≡ kept → IsInStep own other
      → IsInStep (after_retransmission own place kept) other
  retransmission_keeps place None at s = s
  retransmission_keeps place (Some kept) at s =
      datagram_in_step own other (datagram_of own.history (acked_count own.history + place) (Some kept)) s
      (record {
        acknowledgement = omega arith;
        frame = λ frame is. let same : kept ≡ frame = cc in held_sent own.history place kept at ∙ ap (λ f. Some f) same;
      })

  unchanged_keeps : IsInStep own other → IsInStep (record own { history = extended own.limit own.history [] }) other
  unchanged_keeps s =
      extended_keeps (λ entries. IsInStep (record own { history = entries }) other) own.limit own.history [] s
      (λ _. rw append-nil s)

  acknowledgement_keeps : (which : ℕ) (came : Option Datagram) → slice_get other.datagrams which ≡ came
      → ((datagram : Datagram) → came ≡ Some datagram → IsFreshAcknowledgement own datagram)
      → IsInStep own other → IsInStep (after_acknowledgement own came) other
  acknowledgement_keeps which None at fresh s = s
  acknowledgement_keeps which (Some datagram) at fresh s =
      go (judged_acknowledgement own.history (byte_of datagram.acknowledgement)) (acknowledgement_is which datagram s at
      (fresh datagram refl))
    where
      go : (judged : Acknowledged) → judged ≡ acknowledgement_judged (acked_count own.history) (sent_count own.history)
          datagram.acknowledgement
          → IsInStep (record own { history = extended own.limit own.history (entries_for_count (count_of judged)) }) other
      go Ignored is = unchanged_keeps s
      go (Acked count) is =
          let (number, in_sent) = acknowledged_within (acked_count own.history) (sent_count own.history) datagram.acknowledgement
          count (sym is) in
          let is_own : IsOwn other.history datagram = s.back.sound.datagrams which datagram at in
          cond_both (nat_eq count 0) [] (EntryAcked count ∷ [])
          (λ more. IsInStep (record own { history = extended own.limit own.history more }) other)
          (λ _. unchanged_keeps s)
          (λ some. extended_keeps (λ entries. IsInStep (record own { history = entries }) other) own.limit own.history
          (EntryAcked count ∷ []) s
          (λ fits. acked_in_step own other count s (grind (arith, nat_tests)) (omega arith)
          (omega (arith, is_own.acknowledgement)) (omega arith)))

  reception_keeps : (which : ℕ) (came : Option Datagram) → slice_get other.datagrams which ≡ came
      → ((datagram : Datagram) → came ≡ Some datagram → IsFreshNumber own datagram)
      → IsInStep own other → IsInStep (after_reception own came) other
  reception_keeps which None at fresh s = s
  reception_keeps which (Some datagram) at fresh s = framed datagram.frame refl
    where
      judged_so : (frame : Frame) → datagram.frame ≡ Some frame → (judged : Received)
          → judged ≡ number_judged (taken_count own.history) (pos datagram.number)
          → IsInStep (record own { history = extended own.limit own.history (entries_for_number judged frame) }) other
      judged_so frame is_frame Taken is =
          let expected : datagram.number ≡ taken_count own.history = taken_expected (taken_count own.history) datagram.number
          (sym is) in
          let is_own : IsOwn other.history datagram = s.back.sound.datagrams which datagram at in
          let next : slice_get (sent other.history) (taken_count own.history) ≡ Some frame =
          sym (ap (slice_get (sent other.history)) expected) ∙ is_own.frame frame is_frame in
          extended_keeps (λ entries. IsInStep (record own { history = entries }) other) own.limit own.history
          (EntryTaken frame ∷ []) s
          (λ fits. taken_in_step own other frame s next (omega arith))
      judged_so frame is_frame Repeat is = unchanged_keeps s
      judged_so frame is_frame Gap is = unchanged_keeps s

      framed : (frame : Option Frame) → datagram.frame ≡ frame → IsInStep (after_number own datagram.number frame) other
      framed None is = s
      framed (Some frame) is =
          let is_fresh : taken_count own.history ≤ datagram.number + 128 =
          subst (λ o. OnSome o (taken_count own.history ≤ datagram.number + 128)) is (fresh datagram refl) in
          judged_so frame is (judged_number own.history (byte_of datagram.number)) (number_is which datagram frame s at is
          is_fresh)

  -- for each fresh action
  pub action_keeps : (action : Action) → IsFreshAction action own other → IsInStep own other
      → IsInStep (after action own other) other
  action_keeps (SendNumbered frame) fresh s = send_keeps frame s
  action_keeps SendUnnumbered fresh s =
      datagram_in_step own other (datagram_of own.history (sent_count own.history) None) s
      (record { acknowledgement = omega arith; frame = λ frame is. cc })
  action_keeps (Retransmit place) fresh s = retransmission_keeps place (slice_get (held own.history) place) refl s
  action_keeps (JudgeAcknowledgement which) fresh s =
      acknowledgement_keeps which (slice_get other.datagrams which) refl
      (λ datagram is. subst (λ o. IfSome o (IsFreshAcknowledgement own)) is fresh) s
  action_keeps (JudgeNumber which) fresh s =
      reception_keeps which (slice_get other.datagrams which) refl
      (λ datagram is. subst (λ o. IfSome o (IsFreshNumber own)) is fresh) s

pub event_keeps : (event : Event) (network : Network) → IsFreshEvent event network → IsInStep network.first network.second
    → IsInStep (happens event network).first (happens event network).second
event_keeps (AtFirst action) network fresh s = action_keeps network.first network.second action fresh s
event_keeps (AtSecond action) network fresh s =
    in_step_turned (action_keeps network.second network.first action fresh (in_step_turned s))

pub run_keeps : (events : List Event) (network : Network) → IsFresh events network → IsInStep network.first network.second
    → IsInStep (run events network).first (run events network).second
run_keeps [] network fresh s = s
run_keeps (event ∷ events) network fresh s = run_keeps events (happens event network) fresh.1
    (event_keeps event network fresh.0 s)

empty_sound : (size : Size) → size.width ≤ 127 → IsSound (empty_side size)
empty_sound size width = record {
  width = width;
  legal = legal_empty size.width size.limit;
  datagrams = λ which datagram at. cc;
}

-- for all fresh events
pub in_step : (first second : Size) → first.width ≤ 127 → second.width ≤ 127 → (events : List Event)
    → IsFresh events (start first second)
    → IsInStep (run events (start first second)).first (run events (start first second)).second
in_step first second first_width second_width events fresh =
    run_keeps events (start first second) fresh
    (record {
      forth = record {
        sound = empty_sound first first_width;
        takes = ([], refl);
        acks = omega arith;
      };
      back = record { sound = empty_sound second second_width; takes = ([], refl); acks = omega arith };
    })

pub bytes_say_numbers : (own other : Side) → IsInStep own other → BytesSayNumbers own other
bytes_say_numbers own other s = record {
  acknowledgement = λ which datagram at fresh. acknowledgement_is own other which datagram s at fresh;
  number = λ which datagram frame at is fresh.
      number_is own other which datagram frame s at is
      (subst (λ o. OnSome o (taken_count own.history ≤ datagram.number + 128)) is fresh);
}
