-- A side of a network with a leg's record can send all that the leg sends from it.
use Rattle.std.specs.Prelude.{◌&&◌, nat_lt}
use Rattle.std.proofs.Common.{◌≡◌, ℕ, suc, ◌+◌, ◌-◌, ◌≤◌, Bool, true, false, All, inl, inr, List, [], ◌∷◌, ◌++◌, length}
use Rattle.std.proofs.Common.{Option, Some, None, slice_get, refl, ap, sym, subst, ◌∙◌, arith}
use Rattle.std.proofs.lemmas.List.{take_all, take-append-le}
use Rattle.std.proofs.lemmas.List.Elements.{All-nil, All-cons, All-head, All-tail, All-append}
use Rattle.call_signals.specs.declared.rules.PeerRules.{PeerRules}
use Rattle.iax_frames.specs.FullFrame.{FullFrame}
use Rattle.iax_frames.specs.declared.stored_frame.Frame.{Frame}
use Rattle.leg_machine.specs.Leg.{LegState}
use Rattle.leg_machine.specs.Tie.{IsNewest, IsNumberOf, IsSendingOf, IsSending, IsSendingOrMini}
use Rattle.peer_legs.specs.Legs.{IsLegOf}
use Rattle.laws_of_peers.specs.Sides.{IsSideOf, HasDatagram, IsSentBy, IsSentByOrMini, IsSentFrom, SendsNothingNew, SendsAll}
use Rattle.seq_window.specs.Entry.{Entry, Sent, Acked, Taken}
use Rattle.seq_window.specs.History.{IsLegal, IsWithinWindow, acked_count, held, sent, sent_count, taken_count}
use Rattle.seq_window.specs.Network.{Action, SendNumbered, SendUnnumbered, Retransmit, JudgeAcknowledgement, JudgeNumber}
use Rattle.seq_window.specs.Network.{Datagram, Side, after, after_all, after_acknowledgement, after_number, after_reception}
use Rattle.seq_window.specs.Network.{after_retransmission, datagram_of}
use Rattle.seq_window.proofs.Places.{slice_get-drop}
use Rattle.peer_lock.proofs.Choices.{either}

-- a side that has sent one more datagram
abbrev with_datagram : Side → Datagram → Side
with_datagram own datagram = record own { datagrams = datagram ∷ own.datagrams }

-- ---- a side keeps the datagrams that it has sent

one_more : (own : Side) (datagram one : Datagram) → HasDatagram own one → HasDatagram (with_datagram own datagram) one
one_more own datagram one (which, at) = (suc which, at)

sent_again : (own : Side) (place : ℕ) (frame : Option Frame) (one : Datagram) → HasDatagram own one
    → HasDatagram (after_retransmission own place frame) one
sent_again own place None one is = is
sent_again own place (Some frame) one is = one_more own _ one is

sent_acknowledged : (own : Side) (datagram : Option Datagram) (one : Datagram) → HasDatagram own one
    → HasDatagram (after_acknowledgement own datagram) one
sent_acknowledged own None one is = is
sent_acknowledged own (Some datagram) one is = is

sent_numbered : (own : Side) (number : ℕ) (frame : Option Frame) (one : Datagram) → HasDatagram own one
    → HasDatagram (after_number own number frame) one
sent_numbered own number None one is = is
sent_numbered own number (Some frame) one is = is

sent_received : (own : Side) (datagram : Option Datagram) (one : Datagram) → HasDatagram own one
    → HasDatagram (after_reception own datagram) one
sent_received own None one is = is
sent_received own (Some datagram) one is = sent_numbered own datagram.number datagram.frame one is

sent_still : (action : Action) (own other : Side) (one : Datagram) → HasDatagram own one
    → HasDatagram (after action own other) one
sent_still (SendNumbered frame) own other one (which, at) =
    either (λ (side : Side). HasDatagram side one)
    (nat_lt (length (held own.history)) own.width && nat_lt (length own.history) own.limit) _ own (suc which, at) (which, at)
sent_still SendUnnumbered own other one is = one_more own _ one is
sent_still (Retransmit place) own other one is = sent_again own place (slice_get (held own.history) place) one is
sent_still (JudgeAcknowledgement which) own other one is = sent_acknowledged own (slice_get other.datagrams which) one is
sent_still (JudgeNumber which) own other one is = sent_received own (slice_get other.datagrams which) one is

pub all_still_sent : (actions : List Action) (own other : Side) (one : Datagram) → HasDatagram own one
    → HasDatagram (after_all actions own other) one
all_still_sent [] own other one is = is
all_still_sent (action ∷ actions) own other one is =
    all_still_sent actions (after action own other) other one (sent_still action own other one is)

octets_still_sent : (other : Side) (actions : List Action) (own : Side) (octets : List ℕ) → IsSentBy own octets
    → IsSentBy (after_all actions own other) octets
octets_still_sent other actions own octets is = record {
  frame = is.frame;
  spelt = is.spelt;
  datagram = is.datagram;
  sent = all_still_sent actions own other is.datagram is.sent;
  bears = is.bears;
  no_inval = is.no_inval;
}

or_mini_still_sent : (other : Side) (actions : List Action) (own : Side) (octets : List ℕ) → IsSentByOrMini own octets
    → IsSentByOrMini (after_all actions own other) octets
or_mini_still_sent other actions own octets (inl is) = inl (octets_still_sent other actions own octets is)
or_mini_still_sent other actions own octets (inr mini) = inr mini

pub after_both : (first rest : List Action) (own other : Side)
    → after_all (first ++ rest) own other ≡ after_all rest (after_all first own other) other
after_both [] rest own other = refl
after_both (action ∷ first) rest own other = after_both first rest (after action own other) other

-- ---- a frame that is sent is held

newest_there : (before : List Entry) (frame : Frame)
    → slice_get (sent (before ++ Sent frame ∷ [])) (sent_count before) ≡ Some frame
newest_there [] frame = refl
newest_there (Sent one ∷ before) frame = newest_there before frame
newest_there (Acked count ∷ before) frame = newest_there before frame
newest_there (Taken one ∷ before) frame = newest_there before frame

pub acked_before : (before : List Entry) (frame : Frame) → acked_count (before ++ Sent frame ∷ []) ≡ acked_count before
acked_before [] frame = refl
acked_before (Sent one ∷ before) frame = acked_before before frame
acked_before (Acked count ∷ before) frame = ap (λ n. count + n) (acked_before before frame)
acked_before (Taken one ∷ before) frame = acked_before before frame

-- the record before a frame was sent is within the window
pub before_within : (width limit : ℕ) (before : List Entry) (frame : Frame) → IsLegal width limit (before ++ Sent frame ∷ [])
    → IsWithinWindow width before
before_within width limit before frame legal =
    subst (IsWithinWindow width)
    (take-append-le (length before) before (Sent frame ∷ []) (omega arith) ∙ take_all (length before) before (omega arith))
    (legal.at_each_moment (length before))

-- the frame is in the record as sent, and isn't acknowledged
record IsHeldAt (history : List Entry) (frame : Frame) (number : ℕ) : Type 0 where
  pub sent_there : slice_get (sent history) number ≡ Some frame
  pub beyond : acked_count history ≤ number

newest_held : (width limit : ℕ) (history : List Entry) (frame : Frame) (number : ℕ) → IsLegal width limit history
    → IsNewest history frame number → IsHeldAt history frame number
newest_held width limit history frame number legal (before, is, count) =
    let within = before_within width limit before frame (subst (IsLegal width limit) is legal) in
    record {
      sent_there = (λ i. slice_get (sent (is i)) (count i)) ∙ newest_there before frame;
      beyond = omega (arith, ap acked_count is, acked_before before frame, within.acked, count);
    }

-- ---- one datagram

-- by one action
by_one : (rules : PeerRules) (leg : LegState) (own other : Side) (datagram : Datagram) (action : Action) (new : Side)
    → after action own other ≡ new
    → SendsNothingNew action → IsSideOf rules leg new → HasDatagram new datagram
    → SendsAll Datagram HasDatagram rules leg own other (datagram ∷ [])
by_one rules leg own other datagram action new becomes nothing side is = record {
  actions = action ∷ [];
  nothing_new = All-cons SendsNothingNew action [] nothing (All-nil SendsNothingNew);
  stays = subst (IsSideOf rules leg) (sym becomes) side;
  sent =
      All-cons (HasDatagram (after action own other)) datagram []
      (subst (λ (side : Side). HasDatagram side datagram) (sym becomes) is) (All-nil (HasDatagram (after action own other)));
}

-- a full frame that is a sending from the record of a leg
module _ (rules : PeerRules) (leg : LegState) (own other : Side) (f : FullFrame) (sending : IsSendingOf leg.window.history f)
    (side : IsSideOf rules leg own) where
  abbrev Goes : Type 0
  Goes = SendsAll Datagram HasDatagram rules leg own other (sending.datagram ∷ [])

  keeps_side : (datagram : Datagram) → IsSideOf rules leg (with_datagram own datagram)
  keeps_side datagram = record { width = side.width; limit = side.limit; history = side.history }

  -- the datagram that the side sends
  same_datagram : (number : ℕ) (frame : Option Frame) → sending.datagram.number ≡ number → sending.datagram.frame ≡ frame
      → datagram_of own.history number frame ≡ sending.datagram
  same_datagram number frame numbers frames =
      let acknowledges : sending.datagram.acknowledgement ≡ taken_count own.history =
      sending.acknowledgement ∙ ap taken_count (sym side.history) in
      sym (λ i. record { number = numbers i; acknowledgement = acknowledges i; frame = frames i })

  held_out : (frame : Frame) → sending.datagram.frame ≡ Some frame → IsHeldAt leg.window.history frame sending.datagram.number
      → Goes
  held_out frame frames at =
      let acked = acked_count own.history in
      let number = sending.datagram.number in
      let beyond : acked ≤ number = subst (λ (h : List Entry). acked_count h ≤ number) (sym side.history) at.beyond in
      let back : acked + (number - acked) ≡ number = omega (arith, beyond) in
      let there : slice_get (held own.history) (number - acked) ≡ Some frame =
      slice_get-drop acked (sent own.history) (number - acked) ∙ (λ i. slice_get (sent (side.history i)) (back i))
      ∙ at.sent_there in
      let datagram = datagram_of own.history (acked + (number - acked)) (Some frame) in
      by_one rules leg own other sending.datagram (Retransmit (number - acked)) (with_datagram own datagram)
      (ap (after_retransmission own (number - acked)) there) tt (keeps_side datagram)
      (0, ap Some (same_datagram (acked + (number - acked)) (Some frame) (sym back) frames))

  unnumbered_out : sending.datagram.frame ≡ None → sending.datagram.number ≡ sent_count leg.window.history → Goes
  unnumbered_out frames next =
      let datagram = datagram_of own.history (sent_count own.history) None in
      by_one rules leg own other sending.datagram SendUnnumbered (with_datagram own datagram) refl tt (keeps_side datagram)
      (0, ap Some (same_datagram (sent_count own.history) None (next ∙ ap sent_count (sym side.history)) frames))

  frame_out : (width limit : ℕ) → IsLegal width limit leg.window.history → (again : Bool) (frame : Option Frame)
      → sending.datagram.frame ≡ frame
      → IsNumberOf leg.window.history again frame sending.datagram.number → Goes
  frame_out width limit legal false None frames (again, next) = unnumbered_out frames next
  frame_out width limit legal true None frames (again, next) = unnumbered_out frames next
  frame_out width limit legal false (Some frame) frames newest =
      held_out frame frames (newest_held width limit leg.window.history frame sending.datagram.number legal newest)
  frame_out width limit legal true (Some frame) frames (there, beyond) =
      held_out frame frames (record { sent_there = there; beyond = beyond })

-- ---- all datagrams of a step

module _ (X : Type 0) (IsSent : Side → X → Type 0) (Sends : X → Type 0) (rules : PeerRules) (leg : LegState) (other : Side)
    (still : (actions : List Action) (own : Side) (x : X) → IsSent own x → IsSent (after_all actions own other) x)
    (one_out : (own : Side) (x : X) → IsSideOf rules leg own → Sends x → SendsAll X IsSent rules leg own other (x ∷ [])) where
  all_out : (own : Side) (xs : List X) → IsSideOf rules leg own → All Sends xs → SendsAll X IsSent rules leg own other xs
  all_out own [] side sends =
      record { actions = []; nothing_new = All-nil SendsNothingNew; stays = side; sent = All-nil (IsSent own) }
  all_out own (x ∷ xs) side sends =
      let one = one_out own x side (All-head Sends x xs sends) in
      let mid = after_all one.actions own other in
      let rest = all_out mid xs one.stays (All-tail Sends x xs sends) in
      let end = after_all rest.actions mid other in
      let both : end ≡ after_all (one.actions ++ rest.actions) own other = sym (after_both one.actions rest.actions own other) in
      record {
        actions = one.actions ++ rest.actions;
        nothing_new = All-append SendsNothingNew one.actions rest.actions one.nothing_new rest.nothing_new;
        stays = subst (IsSideOf rules leg) both rest.stays;
        sent =
            subst (λ (side : Side). All (IsSent side) (x ∷ xs)) both
            (All-cons (IsSent end) x xs (still rest.actions mid x (All-head (IsSent mid) x [] one.sent)) rest.sent);
      }

-- ---- the frames that a leg of the peer sends

module _ (rules : PeerRules) (leg : LegState) (goes : IsLegOf rules leg) (other : Side) where
  datagram_out : (own : Side) (datagram : Datagram) → IsSideOf rules leg own → IsSentFrom leg datagram
      → SendsAll Datagram HasDatagram rules leg own other (datagram ∷ [])
  datagram_out own datagram side (f, sending, is) =
      subst (λ (d : Datagram). SendsAll Datagram HasDatagram rules leg own other (d ∷ [])) is
      (frame_out rules leg own other f sending side leg.window.width leg.window.limit goes.legal f.head.retransmitted
      sending.datagram.frame refl sending.number)

  sending_out : (own : Side) (octets : List ℕ) → IsSideOf rules leg own → IsSending leg octets
      → SendsAll (List ℕ) IsSentBy rules leg own other (octets ∷ [])
  sending_out own octets side (f, is, sending) =
      let one = datagram_out own sending.datagram side (f, sending, refl) in
      let new = after_all one.actions own other in
      record {
        actions = one.actions;
        nothing_new = one.nothing_new;
        stays = one.stays;
        sent = All-cons (IsSentBy new) octets [] (record {
          frame = f;
          spelt = is;
          datagram = sending.datagram;
          sent = All-head (HasDatagram new) sending.datagram [] one.sent;
          bears = record { oseqno = sending.oseqno; iseqno = sending.iseqno; frame_is = sending.frame };
          no_inval = sending.no_inval;
        }) (All-nil (IsSentBy new));
      }

  or_mini_out : (own : Side) (octets : List ℕ) → IsSideOf rules leg own → IsSendingOrMini leg octets
      → SendsAll (List ℕ) IsSentByOrMini rules leg own other (octets ∷ [])
  or_mini_out own octets side (inl sending) =
      let one = sending_out own octets side sending in
      let new = after_all one.actions own other in
      record {
        actions = one.actions;
        nothing_new = one.nothing_new;
        stays = one.stays;
        sent =
            All-cons (IsSentByOrMini new) octets [] (inl (All-head (IsSentBy new) octets [] one.sent))
            (All-nil (IsSentByOrMini new));
      }
  or_mini_out own octets side (inr mini) = record {
    actions = [];
    nothing_new = All-nil SendsNothingNew;
    stays = side;
    sent = All-cons (IsSentByOrMini own) octets [] (inr mini) (All-nil (IsSentByOrMini own));
  }

  pub datagrams_out : (own : Side) (datagrams : List Datagram) → IsSideOf rules leg own → All (IsSentFrom leg) datagrams
      → SendsAll Datagram HasDatagram rules leg own other datagrams
  datagrams_out =
      all_out Datagram HasDatagram (IsSentFrom leg) rules leg other (λ actions own one is. all_still_sent actions own other one
      is) datagram_out

  pub sendings_out : (own : Side) (datagrams : List (List ℕ)) → IsSideOf rules leg own → All (IsSending leg) datagrams
      → SendsAll (List ℕ) IsSentBy rules leg own other datagrams
  sendings_out = all_out (List ℕ) IsSentBy (IsSending leg) rules leg other (octets_still_sent other) sending_out

  pub or_minis_out : (own : Side) (datagrams : List (List ℕ)) → IsSideOf rules leg own → All (IsSendingOrMini leg) datagrams
      → SendsAll (List ℕ) IsSentByOrMini rules leg own other datagrams
  or_minis_out = all_out (List ℕ) IsSentByOrMini (IsSendingOrMini leg) rules leg other (or_mini_still_sent other) or_mini_out
