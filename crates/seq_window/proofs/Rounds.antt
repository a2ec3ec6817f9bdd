-- Frames that are sent, taken and acknowledged one after the other.
use Rattle.std.proofs.Common.{◌≡◌, ℕ, ◌+◌, ◌-◌, ◌*◌, ◌<◌, ◌≤◌, true, ◌&&◌, List, [], ◌∷◌, ◌++◌, length, Some, None, pos, add-one}
use Rattle.std.proofs.Common.{refl, ap, sym, ◌∙◌, subst, arith, append-nil, append_assoc}
use Rattle.std.specs.Prelude.{nat_lt, nat_le}
use Rattle.std.specs.List.{flat_map}
use Rattle.std.proofs.lemmas.Bool.{cond-true, and_from, lt-ltb, le-leb}
use Rattle.std.proofs.lemmas.Bool.Decides.{nat_tests}
use Rattle.std.proofs.lemmas.List.{length_push}
use Rattle.iax_frames.specs.declared.stored_frame.Frame.{Frame}
use Rattle.seq_window.specs.Entry.{Entry, Sent, Acked as EntryAcked, Taken as EntryTaken}
use Rattle.seq_window.specs.declared.judgements.Acknowledged.TheVariants.{Acked, Ignored}
use Rattle.seq_window.specs.declared.judgements.Received.TheVariants.{Taken}
use Rattle.seq_window.specs.History.{taken, sent_count, taken_count, acked_count, held}
use Rattle.seq_window.specs.Sequence.{byte_of, number_judged, acknowledgement_judged}
use Rattle.seq_window.specs.Window.{judged_acknowledgement, judged_number, count_of, entries_for_count, entries_for_number}
use Rattle.seq_window.specs.Turn.{extended}
use Rattle.seq_window.specs.Network.{Datagram, Side, Network, Event, AtFirst, AtSecond, Size, SendNumbered, SendUnnumbered}
use Rattle.seq_window.specs.Network.{JudgeAcknowledgement, JudgeNumber, datagram_of, start, happens, run, after_send}
use Rattle.seq_window.specs.Network.{after_acknowledgement, after_number, IsFresh, IsFreshEvent, round_of, GetThrough}
use Rattle.seq_window.proofs.Numbers.{number_byte_is, acknowledgement_byte_is}
use Rattle.seq_window.proofs.Records.{taken-append, sent_count-append, taken_count-append, acked_count-append, length-held}
use Rattle.seq_window.proofs.InStep.{with_entry, with_datagram}

-- the events are fresh, and this holds after them
record Leads (events : List Event) (network : Network) (Holds : Network → Type 0) : Type 0 where
  fresh : IsFresh events network
  holds : Holds (run events network)

-- one more event, before
first_event : (event : Event) (events : List Event) (network next : Network) (Holds : Network → Type 0)
    → IsFreshEvent event network → happens event network ≡ next → Leads events next Holds → Leads (event ∷ events) network Holds
first_event event events network next Holds fresh is leads =
    let there : Leads events (happens event network) Holds = subst (λ n. Leads events n Holds) (sym is) leads in
    record { fresh = (fresh, there.fresh); holds = there.holds }

-- the second side has taken the first's sent frames, the first knows it, and left frames are still to come
record IsRested (network : Network) (done : List Frame) (left : ℕ) : Type 0 where
  taken_is : taken network.second.history ≡ done
  sent_is : sent_count network.first.history ≡ length done
  acked_is : acked_count network.first.history ≡ length done
  width : 1 ≤ network.first.width
  first_room : length network.first.history + 2 * left ≤ network.first.limit
  second_room : length network.second.history + left ≤ network.second.limit

-- if the entries fit
pub extended_fits : (limit : ℕ) (entries more : List Entry) → length entries + length more ≤ limit
    → extended limit entries more ≡ entries ++ more
extended_fits limit entries more fits = cond-true (nat_le (length entries + length more) limit) (entries ++ more) entries
    (le-leb (length entries + length more) limit fits)

expected_taken : (expected number : ℕ) → number ≡ expected → number_judged expected (pos number) ≡ Taken
expected_taken expected number is = grind (arith, nat_tests)

one_acked : (acked sent number : ℕ) → number ≡ acked + 1 → sent ≡ acked + 1 → acknowledgement_judged acked sent number ≡ Acked 1
one_acked acked sent number is all =
    let low : nat_le acked number ≡ true = le-leb acked number (omega arith) in
    let high : nat_le number sent ≡ true = le-leb number sent (omega arith) in
    cond-true (nat_le acked number && nat_le number sent) (Acked (number - acked)) Ignored (and_from _ _ low high)
    ∙ ap (λ n. Acked n) (let e : number - acked ≡ 1 = omega arith in e)

-- the sides after the events of one round
abbrev sender_sent : Network → Frame → Side
sender_sent network frame = with_datagram (with_entry network.first (Sent frame))
    (datagram_of network.first.history (sent_count network.first.history) (Some frame))

abbrev receiver_told : Network → Frame → Side
receiver_told network frame =
    let grown = with_entry network.second (EntryTaken frame) in
    with_datagram grown (datagram_of grown.history (sent_count grown.history) None)

abbrev after_round : Network → Frame → Network
after_round network frame = record {
  first = with_entry (sender_sent network frame) (EntryAcked 1);
  second = receiver_told network frame;
}

module _ (network : Network) (done : List Frame) (left : ℕ) (frame : Frame) (rested : IsRested network done (left + 1)) where
  sends : after_send network.first frame ≡ sender_sent network frame
  sends =
      let narrow : length (held network.first.history) < network.first.width = omega (
        arith,
        length-held network.first.history,
        rested.sent_is,
        rested.acked_is,
        rested.width,
      ) in
      let short : length network.first.history < network.first.limit = omega (arith, rested.first_room) in
      cond-true (nat_lt (length (held network.first.history)) network.first.width && nat_lt (length network.first.history)
      network.first.limit)
      (sender_sent network frame) network.first (and_from _ _ (lt-ltb _ _ narrow) (lt-ltb _ _ short))

  takes : after_number network.second (sent_count network.first.history) (Some frame) ≡ with_entry network.second
      (EntryTaken frame)
  takes =
      let expected : sent_count network.first.history ≡ taken_count network.second.history =
      rested.sent_is ∙ sym (ap length rested.taken_is) in
      let judged : judged_number network.second.history (byte_of (sent_count network.first.history)) ≡ Taken =
      number_byte_is (taken_count network.second.history) (sent_count network.first.history) (omega arith) (omega arith)
      ∙ expected_taken (taken_count network.second.history) (sent_count network.first.history) expected in
      ap (λ entries. record network.second { history = entries })
      (ap (λ j. extended network.second.limit network.second.history (entries_for_number j frame)) judged
      ∙ extended_fits network.second.limit network.second.history (EntryTaken frame ∷ []) (omega (arith, rested.second_room)))

  learns : (datagram : Datagram) → datagram.acknowledgement ≡ length done + 1
      → after_acknowledgement (sender_sent network frame) (Some datagram) ≡ with_entry (sender_sent network frame) (EntryAcked 1)
  learns datagram number =
      let sent : sent_count (network.first.history ++ Sent frame ∷ []) ≡ length done + 1 =
      omega (arith, rested.sent_is, sent_count-append network.first.history (Sent frame ∷ [])) in
      let acked : acked_count (network.first.history ++ Sent frame ∷ []) ≡ length done =
      omega (arith, rested.acked_is, acked_count-append network.first.history (Sent frame ∷ [])) in
      let judged : judged_acknowledgement (network.first.history ++ Sent frame ∷ []) (byte_of datagram.acknowledgement)
      ≡ Acked 1 =
      acknowledgement_byte_is (acked_count (network.first.history ++ Sent frame ∷ []))
      (sent_count (network.first.history ++ Sent frame ∷ [])) datagram.acknowledgement
      (omega arith) (omega arith) (omega arith)
      ∙ one_acked (acked_count (network.first.history ++ Sent frame ∷ [])) (sent_count (network.first.history ++ Sent frame ∷ []))
      datagram.acknowledgement (omega arith) (omega arith) in
      ap (λ entries. record (sender_sent network frame) { history = entries })
      (ap (λ j. extended network.first.limit (network.first.history ++ Sent frame ∷ []) (entries_for_count (count_of j))) judged
      ∙ extended_fits network.first.limit (network.first.history ++ Sent frame ∷ []) (EntryAcked 1 ∷ [])
      (omega (arith, rested.first_room, length_push network.first.history (Sent frame))))

  taken_more : taken_count (network.second.history ++ EntryTaken frame ∷ []) ≡ length done + 1
  taken_more = omega (arith, ap length rested.taken_is, taken_count-append network.second.history (EntryTaken frame ∷ []))

  acked_before : acked_count (network.first.history ++ Sent frame ∷ []) ≡ length done
  acked_before = omega (arith, rested.acked_is, acked_count-append network.first.history (Sent frame ∷ []))

  one_round : (events : List Event) (Holds : Network → Type 0) → Leads events (after_round network frame) Holds
      → Leads (round_of frame ++ events) network Holds
  one_round events Holds leads =
      first_event (AtFirst (SendNumbered frame)) _ network (record { first = sender_sent network frame; second = network.second })
      Holds tt (ap (λ side. record { first = side; second = network.second }) sends)
      (first_event (AtSecond (JudgeNumber 0)) _ (record { first = sender_sent network frame; second = network.second })
      (record { first = sender_sent network frame; second = with_entry network.second (EntryTaken frame) }) Holds
      (omega (arith, rested.sent_is, ap length rested.taken_is))
      (ap (λ side. record { first = sender_sent network frame; second = side }) takes)
      (first_event (AtSecond SendUnnumbered) _ (record {
        first = sender_sent network frame;
        second = with_entry network.second
            (EntryTaken frame);
      })
      (record { first = sender_sent network frame; second = receiver_told network frame }) Holds tt refl
      (first_event (AtFirst (JudgeAcknowledgement 0)) events
      (record { first = sender_sent network frame; second = receiver_told network frame })
      (after_round network frame) Holds (omega (arith, taken_more, acked_before))
      (ap (λ side. record { first = side; second = receiver_told network frame })
      (learns (datagram_of (network.second.history ++ EntryTaken frame ∷ [])
      (sent_count (network.second.history ++ EntryTaken frame ∷ [])) None) taken_more))
      leads)))

  rested_after : IsRested (after_round network frame) (done ++ frame ∷ []) left
  rested_after = record {
    taken_is = taken-append network.second.history (EntryTaken frame ∷ []) ∙ ap (λ frames. frames ++ frame ∷ []) rested.taken_is;
    sent_is = omega (
      arith,
      rested.sent_is,
      length_push done frame,
      sent_count-append (network.first.history ++ Sent frame ∷ [])
          (EntryAcked 1 ∷ []),
      sent_count-append network.first.history (Sent frame ∷ []),
    );
    acked_is = omega (
      arith,
      length_push done frame,
      acked_before,
      acked_count-append (network.first.history ++ Sent frame ∷ [])
          (EntryAcked 1 ∷ []),
    );
    width = rested.width;
    first_room = omega (
      arith,
      rested.first_room,
      length_push network.first.history (Sent frame),
      length_push (network.first.history ++ Sent frame ∷ []) (EntryAcked 1),
    );
    second_room = omega (arith, rested.second_room, length_push network.second.history (EntryTaken frame));
  }

-- all frames have arrived
record HaveCome (frames : List Frame) (network : Network) : Type 0 where
  all_taken : taken network.second.history ≡ frames
  all_acked : acked_count network.first.history ≡ length frames

all_rounds : (frames : List Frame) (network : Network) (done : List Frame) → IsRested network done (length frames)
    → Leads (flat_map round_of frames) network (HaveCome (done ++ frames))
all_rounds [] network done rested =
    record {
      fresh = tt;
      holds = record {
        all_taken = rested.taken_is ∙ sym (append-nil done);
        all_acked = rested.acked_is
            ∙ ap length (sym (append-nil done));
      };
    }
all_rounds (frame ∷ frames) network done rested =
    let now : IsRested network done (length frames + 1) = rw add-one rested in
    one_round network done (length frames) frame now (flat_map round_of frames) (HaveCome (done ++ frame ∷ frames))
    (subst (λ all. Leads (flat_map round_of frames) (after_round network frame) (HaveCome all))
    (append_assoc done (frame ∷ []) frames)
    (all_rounds frames (after_round network frame) (done ++ frame ∷ []) (rested_after network done (length frames) frame now)))

pub all_get_through : (frames : List Frame) (first second : Size) → 1 ≤ first.width → 2 * length frames ≤ first.limit
    → length frames ≤ second.limit
    → GetThrough frames (start first second)
all_get_through frames first second width first_room second_room =
    let rested : IsRested (start first second) [] (length frames) =
    record {
      taken_is = refl;
      sent_is = refl;
      acked_is = refl;
      width = width;
      first_room = omega arith;
      second_room = omega arith;
    } in
    let all : Leads (flat_map round_of frames) (start first second) (HaveCome frames) = all_rounds frames (start first second) []
    rested in
    record { fresh = all.fresh; all_taken = all.holds.all_taken; all_acked = all.holds.all_acked }
