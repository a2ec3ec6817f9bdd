-- The entries that a datagram adds to a record in one turn, as actions of the network.
use Rattle.std.proofs.Common.{◌≡◌, ℕ, ◌+◌, ◌<◌, ◌≤◌, Bool, true, false, cond, ◌&&◌, List, [], ◌∷◌, ◌++◌, length, take, add-zero}
use Rattle.std.proofs.Common.{Option, Some, None, slice_get, refl, ap, sym, ◌∙◌, subst, arith, append-nil, append_assoc}
use Rattle.std.proofs.Common.{length-append}
use Rattle.std.specs.Prelude.{nat_lt, nat_eq}
use Rattle.std.proofs.lemmas.Bool.{cond_both, cond-true, and_from, lt-ltb}
use Rattle.std.proofs.lemmas.List.{length_push, take_at}
use Rattle.iax_frames.specs.declared.stored_frame.Frame.{Frame}
use Rattle.seq_window.specs.Entry.{Entry, Sent, Acked as EntryAcked}
use Rattle.seq_window.specs.declared.judgements.Acknowledged.{Acknowledged}
use Rattle.seq_window.specs.declared.judgements.Acknowledged.TheVariants.{Acked, Ignored}
use Rattle.seq_window.specs.declared.judgements.Received.{Received}
use Rattle.seq_window.specs.declared.judgements.Received.TheVariants.{Taken, Repeat, Gap}
use Rattle.seq_window.specs.History.{sent_count, taken_count, held, IsLegal, IsWithinWindow}
use Rattle.seq_window.specs.Sequence.{byte_of, number_byte_judged}
use Rattle.seq_window.specs.Window.{judged_acknowledgement, judged_number, count_of, entries_for_count, entries_for_number}
use Rattle.seq_window.specs.Turn.{Turn, entries_for_acknowledgement, entries_for_frame, entries_for_reply}
use Rattle.seq_window.specs.Network.{Datagram, Side, datagram_of, datagrams_of_reply, Action, JudgeAcknowledgement, JudgeNumber}
use Rattle.seq_window.specs.Network.{after, after_acknowledgement, after_reception, after_number, after_all, reply_actions}
use Rattle.seq_window.specs.Network.{actions_in_turn, added_in_turn}
use Rattle.seq_window.proofs.Records.{taken_count-append, sent_count-append, acked_count-append, legal_now, length-held}
use Rattle.seq_window.proofs.Rounds.{extended_fits}

after_all-append : (first second : List Action) (own other : Side) → after_all (first ++ second) own other ≡ after_all second
    (after_all first own other) other
after_all-append [] second own other = refl
after_all-append (action ∷ first) second own other = after_all-append first second (after action own other) other

-- an acknowledgement leaves the taken frames
taken_count-acknowledged : (entries : List Entry) (judged : Acknowledged)
    → taken_count (entries ++ entries_for_count (count_of judged)) ≡ taken_count entries
taken_count-acknowledged entries Ignored = ap taken_count (append-nil entries)
taken_count-acknowledged entries (Acked count) =
    cond_both (nat_eq count 0) [] (EntryAcked count ∷ []) (λ more. taken_count (entries ++ more) ≡ taken_count entries)
    (λ _. ap taken_count (append-nil entries))
    (λ _. taken_count-append entries (EntryAcked count ∷ []) ∙ add-zero (taken_count entries))

taken_count-part : (entries : List Entry) (byte : ℕ) (acts : Bool)
    → taken_count (entries ++ cond acts (entries_for_acknowledgement entries byte) []) ≡ taken_count entries
taken_count-part entries byte true = taken_count-acknowledged entries (judged_acknowledgement entries byte)
taken_count-part entries byte false = ap taken_count (append-nil entries)

-- a legal record was within the window at each earlier moment
legal_before : (width limit : ℕ) (entries more : List Entry) → IsLegal width limit (entries ++ more)
    → IsWithinWindow width entries
legal_before width limit entries more legal =
    let moment : IsWithinWindow width (take (length entries) (entries ++ more)) = legal.at_each_moment (length entries) in
    subst (IsWithinWindow width) (take_at entries more (length entries) refl) moment

-- a side with more entries
abbrev grown : Side → List Entry → Side
grown own more = record own { history = own.history ++ more }

abbrev acknowledged_part : Bool → List Entry → ℕ → List Entry
acknowledged_part acknowledges entries byte = cond acknowledges (entries_for_acknowledgement entries byte) []

abbrev received_part : Bool → List Entry → ℕ → Option Frame → List Entry
received_part receives entries byte frame = cond receives (entries_for_frame (judged_number entries byte) frame) []

-- a side after its reply
abbrev replied : Side → Option Frame → Side
replied own None = own
replied own (Some frame) =
    record own {
      history = own.history ++ Sent frame ∷ [];
      datagrams = datagram_of own.history (sent_count own.history)
          (Some frame) ∷ own.datagrams;
    }

history-replied : (own : Side) (reply : Option Frame) → (replied own reply).history ≡ own.history ++ entries_for_reply reply
history-replied own None = sym (append-nil own.history)
history-replied own (Some frame) = refl

same_datagram : (m n a b : ℕ) (frame : Option Frame) → m ≡ n → a ≡ b
    → let one : Datagram = record { number = m; acknowledgement = a; frame = frame } in
    let two : Datagram = record { number = n; acknowledgement = b; frame = frame } in one ≡ two
same_datagram m n a b frame number acknowledgement = rw (number, acknowledgement) refl

datagrams-replied : (own : Side) (before history : List Entry) (reply : Option Frame) → sent_count own.history ≡ sent_count before
    → taken_count own.history ≡ taken_count history
    → (replied own reply).datagrams ≡ datagrams_of_reply before history reply ++ own.datagrams
datagrams-replied own before history None number acknowledgement = refl
datagrams-replied own before history (Some frame) number acknowledgement =
    ap (λ d. d ∷ own.datagrams) (same_datagram (sent_count own.history) (sent_count before) (taken_count own.history)
    (taken_count history) (Some frame) number acknowledgement)

none_taken-reply : (reply : Option Frame) → taken_count (entries_for_reply reply) ≡ 0
none_taken-reply None = refl
none_taken-reply (Some frame) = refl

none_sent-acknowledged : (acts : Bool) (entries : List Entry) (byte : ℕ) → sent_count (acknowledged_part acts entries byte) ≡ 0
none_sent-acknowledged false entries byte = refl
none_sent-acknowledged true entries byte =
    let count : ℕ = count_of (judged_acknowledgement entries byte) in
    cond_both (nat_eq count 0) [] (EntryAcked count ∷ []) (λ more. sent_count more ≡ 0) (λ _. refl) (λ _. refl)

none_sent-frame : (judged : Received) (frame : Option Frame) → sent_count (entries_for_frame judged frame) ≡ 0
none_sent-frame judged None = refl
none_sent-frame Taken (Some frame) = refl
none_sent-frame Repeat (Some frame) = refl
none_sent-frame Gap (Some frame) = refl

none_sent-received : (acts : Bool) (entries : List Entry) (byte : ℕ) (frame : Option Frame)
    → sent_count (received_part acts entries byte frame) ≡ 0
none_sent-received false entries byte frame = refl
none_sent-received true entries byte frame = none_sent-frame (judged_number entries byte) frame

module _ (other : Side) (which : ℕ) (datagram : Datagram) (at : slice_get other.datagrams which ≡ Some datagram) where
  acknowledges : (own : Side) (acts : Bool)
      → length own.history + length (acknowledged_part acts own.history (byte_of datagram.acknowledgement)) ≤ own.limit
      → after_all (cond acts (JudgeAcknowledgement which ∷ []) []) own other ≡ grown own
      (acknowledged_part acts own.history (byte_of datagram.acknowledgement))
  acknowledges own false fits = ap (λ entries. record own { history = entries }) (sym (append-nil own.history))
  acknowledges own true fits =
      ap (after_acknowledgement own) at
      ∙ ap (λ entries. record own { history = entries })
      (extended_fits own.limit own.history
      (entries_for_count (count_of (judged_acknowledgement own.history (byte_of datagram.acknowledgement)))) fits)

  receives : (own : Side) (acts : Bool) → length own.history + length (received_part acts own.history (byte_of datagram.number)
      datagram.frame) ≤ own.limit
      → after_all (cond acts (JudgeNumber which ∷ []) []) own other ≡ grown own
      (received_part acts own.history (byte_of datagram.number) datagram.frame)
  receives own false fits = ap (λ entries. record own { history = entries }) (sym (append-nil own.history))
  receives own true fits = ap (after_reception own) at ∙ framed datagram.frame refl
    where
      framed : (frame : Option Frame) → datagram.frame ≡ frame → after_number own datagram.number frame ≡ grown own
          (entries_for_frame (judged_number own.history (byte_of datagram.number)) frame)
      framed None is = ap (λ entries. record own { history = entries }) (sym (append-nil own.history))
      framed (Some frame) is =
          let still : length own.history + length (entries_for_frame (judged_number own.history (byte_of datagram.number))
          (Some frame)) ≤ own.limit =
          subst (λ o. length own.history + length (entries_for_frame (judged_number own.history (byte_of datagram.number)) o)
          ≤ own.limit) is fits in
          ap (λ entries. record own { history = entries })
          (extended_fits own.limit own.history (entries_for_number (judged_number own.history (byte_of datagram.number))
          frame) still)

  replies : (own : Side) (reply : Option Frame) → IsLegal own.width own.limit (own.history ++ entries_for_reply reply)
      → after_all (reply_actions reply) own other ≡ replied own reply
  replies own None legal = refl
  replies own (Some frame) legal =
      let within : IsWithinWindow own.width (own.history ++ Sent frame ∷ []) =
      legal_now own.width own.limit (own.history ++ Sent frame ∷ []) legal in
      let before : IsWithinWindow own.width own.history = legal_before own.width own.limit own.history (Sent frame ∷ []) legal in
      let narrow : length (held own.history) < own.width =
      omega (
        arith,
        within.held,
        before.acked,
        length-held own.history,
        sent_count-append own.history (Sent frame ∷ []),
        acked_count-append own.history (Sent frame ∷ []),
      ) in
      let short : length own.history < own.limit = omega (arith, legal.within_limit, length_push own.history (Sent frame)) in
      cond-true (nat_lt (length (held own.history)) own.width && nat_lt (length own.history) own.limit) _ own
      (and_from _ _ (lt-ltb _ _ narrow) (lt-ltb _ _ short))

-- a side before its reply
abbrev before_reply : Side → Datagram → Turn → Side
before_reply own datagram turn =
    grown (grown own (acknowledged_part turn.acknowledges own.history (byte_of datagram.acknowledgement)))
    (received_part turn.receives own.history (byte_of datagram.number) datagram.frame)

regrouped : (own : Side) (datagram : Datagram) (turn : Turn)
    → own.history ++ added_in_turn own datagram turn ≡ (before_reply own datagram turn).history ++ entries_for_reply turn.reply
regrouped own datagram turn =
    let acked : List Entry = acknowledged_part turn.acknowledges own.history (byte_of datagram.acknowledgement) in
    let received : List Entry = received_part turn.receives own.history (byte_of datagram.number) datagram.frame in
    let reply : List Entry = entries_for_reply turn.reply in
    sym (append_assoc own.history (acked ++ received) reply) ∙ ap (λ front. front ++ reply)
    (sym (append_assoc own.history acked received))

module _ (own other : Side) (which : ℕ) (datagram : Datagram) (turn : Turn) (at : slice_get other.datagrams which ≡ Some datagram)
    (legal : IsLegal own.width own.limit (own.history ++ added_in_turn own datagram turn)) where
  turned : after_all (actions_in_turn which turn) own other ≡ replied (before_reply own datagram turn) turn.reply
  turned = go (acknowledged_part turn.acknowledges own.history (byte_of datagram.acknowledgement))
      (received_part turn.receives own.history (byte_of datagram.number) datagram.frame) refl refl
      (subst (IsLegal own.width own.limit) (regrouped own datagram turn) legal)
    where
      go : (acked received : List Entry) → acknowledged_part turn.acknowledges own.history (byte_of datagram.acknowledgement)
          ≡ acked
          → received_part turn.receives own.history (byte_of datagram.number) datagram.frame ≡ received
          → IsLegal own.width own.limit (((own.history ++ acked) ++ received) ++ entries_for_reply turn.reply)
          → after_all (actions_in_turn which turn) own other ≡ replied (grown (grown own acked) received) turn.reply
      go acked received acked_is received_is fits =
          let first : List Action = cond turn.acknowledges (JudgeAcknowledgement which ∷ []) [] in
          let second : List Action = cond turn.receives (JudgeNumber which ∷ []) [] in
          let third : List Action = reply_actions turn.reply in
          let small : length own.history + length acked + length received ≤ own.limit =
          omega (
            arith,
            fits.within_limit,
            length-append ((own.history ++ acked) ++ received) (entries_for_reply turn.reply),
            length-append (own.history ++ acked) received,
            length-append own.history acked,
          ) in
          let taken : taken_count (own.history ++ acked) ≡ taken_count own.history =
          ap (λ more. taken_count (own.history ++ more)) (sym acked_is) ∙ taken_count-part own.history
          (byte_of datagram.acknowledgement) turn.acknowledges in
          let same : received_part turn.receives (own.history ++ acked) (byte_of datagram.number) datagram.frame ≡ received =
          ap (λ n. cond turn.receives (entries_for_frame (number_byte_judged n (byte_of datagram.number)) datagram.frame) [])
          taken ∙ received_is in
          let one : after_all first own other ≡ grown own acked =
          acknowledges other which datagram at own turn.acknowledges (rw acked_is (omega arith)) ∙ ap (grown own) acked_is in
          let two : after_all second (grown own acked) other ≡ grown (grown own acked) received =
          receives other which datagram at (grown own acked) turn.receives
          (rw same (omega (arith, length-append own.history acked))) ∙ ap (grown (grown own acked)) same in
          after_all-append (first ++ second) third own other
          ∙ ap (λ side. after_all third side other)
          (after_all-append first second own other ∙ ap (λ side. after_all second side other) one ∙ two)
          ∙ replies other which datagram at (grown (grown own acked) received) turn.reply fits

  pub added_by_actions : (after_all (actions_in_turn which turn) own other).history ≡ own.history ++ added_in_turn own datagram
      turn
  added_by_actions =
      ap (λ (side : Side). side.history) turned ∙ history-replied (before_reply own datagram turn) turn.reply
      ∙ sym (regrouped own datagram turn)

  pub sent_by_actions : (after_all (actions_in_turn which turn) own other).datagrams
      ≡ datagrams_of_reply own.history (own.history ++ added_in_turn own datagram turn) turn.reply ++ own.datagrams
  sent_by_actions =
      let acked : List Entry = acknowledged_part turn.acknowledges own.history (byte_of datagram.acknowledgement) in
      let received : List Entry = received_part turn.receives own.history (byte_of datagram.number) datagram.frame in
      let before : Side = before_reply own datagram turn in
      let number : sent_count before.history ≡ sent_count own.history =
      omega (
        arith,
        sent_count-append (own.history ++ acked) received,
        sent_count-append own.history acked,
        none_sent-acknowledged turn.acknowledges own.history (byte_of datagram.acknowledgement),
        none_sent-received turn.receives own.history (byte_of datagram.number) datagram.frame,
      ) in
      let acknowledgement : taken_count before.history ≡ taken_count (own.history ++ added_in_turn own datagram turn) =
      sym (ap taken_count (regrouped own datagram turn) ∙ taken_count-append before.history (entries_for_reply turn.reply)
      ∙ ap (λ n. taken_count before.history + n) (none_taken-reply turn.reply) ∙ add-zero (taken_count before.history)) in
      ap (λ (side : Side). side.datagrams) turned
      ∙ datagrams-replied before own.history (own.history ++ added_in_turn own datagram turn) turn.reply number acknowledgement
