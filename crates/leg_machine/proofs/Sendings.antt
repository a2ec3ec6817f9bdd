-- The full frames that a leg writes are sendings of a network's side.
use Rattle.std.specs.Prelude.{nat_lt, All, slice_get}
use Rattle.std.proofs.Common.{◌≡◌, ℕ, zero, suc, ◌+◌, ◌≤◌, Bool, true, false, cond, List, [], ◌∷◌, ◌++◌, length, drop, Option}
use Rattle.std.proofs.Common.{None, Some, refl, sym, ap, subst, ◌∙◌, arith, zero-add, add-zero}
use Rattle.std.proofs.lemmas.List.Elements.{All-nil, All-cons, All-push, All-same}
use Rattle.std.proofs.lemmas.Option.{get_or_from_slice_get, slice_get_within}
use Rattle.iax_frames.specs.FullFrame.{FullFrame, subclass_meaning}
use Rattle.iax_frames.specs.declared.stored_frame.Frame.{Frame}
use Rattle.resend_queue.specs.declared.held_frame.Held.{Held}
use Rattle.seq_window.specs.Entry.{Entry, Sent, Acked, Taken}
use Rattle.seq_window.specs.History.{sent as sent_frames, taken as taken_frames, sent_count, taken_count, acked_count}
use Rattle.seq_window.specs.History.{held as held_of}
use Rattle.seq_window.specs.Sequence.{byte_of}
use Rattle.seq_window.specs.Window.{WindowState, Sending, numbered_from, held_frames}
use Rattle.call_signals.specs.Codes.{FRAME_IAX, IAX_ACK, IAX_VNAK}
use Rattle.call_signals.specs.Format.{format_bit}
use Rattle.leg_machine.specs.Leg.{LegState}
use Rattle.call_signals.specs.Message.{message_by, is_numbered, is_inval}
use Rattle.leg_machine.specs.Replies.{reply_frame, outgoing, next_byte, unnumbered, ack, vnak, sent_again}
use Rattle.leg_machine.specs.Tie.{IsNumberedFrame, SendsNumbered, IsSendingOf}
use Rattle.leg_machine.specs.Working.{stored}
use Rattle.call_signals.specs.declared.format.Format.{Format}
use Rattle.call_signals.specs.declared.format.Format.TheVariants as formats
use Rattle.call_signals.specs.declared.message.Message.{Message}
use Rattle.call_signals.specs.declared.message.Message.TheVariants as messages
use Rattle.call_signals.specs.declared.reply.ReplyFrame.{ReplyFrame}
use Rattle.call_signals.specs.declared.reply.ReplyFrame.TheVariants as replies
use Rattle.call_signals.specs.declared.signal.Indication.TheVariants as indications
use Rattle.leg_machine.proofs.Tied.{either}

-- ---- records that grow by a sent frame

pub sent-push : (h : List Entry) (f : Frame) → sent_frames (h ++ Sent f ∷ []) ≡ sent_frames h ++ f ∷ []
sent-push [] f = refl
sent-push (Sent g ∷ h) f = ap (λ (fs : List Frame). g ∷ fs) (sent-push h f)
sent-push (Acked n ∷ h) f = sent-push h f
sent-push (Taken g ∷ h) f = sent-push h f

taken-push : (h : List Entry) (f : Frame) → taken_frames (h ++ Sent f ∷ []) ≡ taken_frames h
taken-push [] f = refl
taken-push (Sent g ∷ h) f = taken-push h f
taken-push (Acked n ∷ h) f = taken-push h f
taken-push (Taken g ∷ h) f = ap (λ (fs : List Frame). g ∷ fs) (taken-push h f)

acked-push : (h : List Entry) (f : Frame) → acked_count (h ++ Sent f ∷ []) ≡ acked_count h
acked-push [] f = refl
acked-push (Sent g ∷ h) f = acked-push h f
acked-push (Acked n ∷ h) f = ap (λ m. n + m) (acked-push h f)
acked-push (Taken g ∷ h) f = acked-push h f

get-append : {X : Type 0} (xs ys : List X) (i : ℕ) (x : X) → slice_get xs i ≡ Some x → slice_get (xs ++ ys) i ≡ Some x
get-append [] ys i x at = cc
get-append (y ∷ xs) ys zero x at = at
get-append (y ∷ xs) ys (suc i) x at = get-append xs ys i x at

get-drop : {X : Type 0} (n : ℕ) (xs : List X) (i : ℕ) → slice_get (drop n xs) i ≡ slice_get xs (n + i)
get-drop zero xs i = ap (slice_get xs) (sym (zero-add i))
get-drop (suc n) [] i = refl
get-drop (suc n) (x ∷ xs) i =
    let e : suc n + i ≡ suc (n + i) = omega arith in
    get-drop n xs i ∙ sym (ap (slice_get (x ∷ xs)) e)

-- ---- numbered frames

dtmf-numbered : (meaning : Option ℕ) → is_numbered (message_by 1 meaning) ≡ true
dtmf-numbered (Some digit) = either (λ (m : Message). is_numbered m ≡ true) (nat_lt digit 128) (messages.Dtmf digit)
    messages.Other refl refl
dtmf-numbered None = refl

pub reply-numbered : (leg : LegState) (now : ℕ) (reply : ReplyFrame) → IsNumberedFrame (reply_frame leg now reply)
reply-numbered leg now (replies.Dtmf digit) = dtmf-numbered (subclass_meaning digit)
reply-numbered leg now (replies.Indicate indications.Ringing) = refl
reply-numbered leg now (replies.Indicate indications.Progress) = refl
reply-numbered leg now (replies.Indicate indications.Proceeding) = refl
reply-numbered leg now _ = refl

pub voice-numbered : (format : Format) → is_numbered (message_by 2 (subclass_meaning (format_bit format))) ≡ true
voice-numbered formats.Gsm = refl
voice-numbered formats.Ulaw = refl
voice-numbered formats.Alaw = refl

no-inval : (message : Message) → is_numbered message ≡ true → is_inval message ≡ false
no-inval messages.Inval numbered = cc
no-inval _ numbered = refl

-- ---- a frame that is sent now, and one without a number

pub new-sending : (leg : LegState) (frame : Frame) → IsNumberedFrame frame → IsSendingOf (leg.window.history ++ Sent frame ∷ [])
    (outgoing leg false (next_byte leg) frame)
new-sending leg frame numbered =
    let h = leg.window.history in
    record {
      datagram = record { number = sent_count h; acknowledgement = taken_count (h ++ Sent frame ∷ []); frame = Some frame };
      acknowledgement = refl;
      number = (h, refl, refl);
      oseqno = refl;
      iseqno = ap (λ (fs : List Frame). byte_of (length fs)) (sym (taken-push h frame));
      frame = ap (λ (b : Bool). cond b (Some frame) None) numbered;
      no_inval = no-inval (message_by frame.kind (subclass_meaning frame.subclass)) numbered;
    }

unnumbered-sending : (leg : LegState) (subclass timestamp : ℕ) → is_numbered (message_by FRAME_IAX (subclass_meaning subclass))
    ≡ false
    → is_inval (message_by FRAME_IAX (subclass_meaning subclass)) ≡ false
    → IsSendingOf leg.window.history (unnumbered leg subclass timestamp)
unnumbered-sending leg subclass timestamp bare no_inval =
    let h = leg.window.history in
    record {
      datagram = record { number = sent_count h; acknowledgement = taken_count h; frame = None };
      acknowledgement = refl;
      number = (refl, refl);
      oseqno = refl;
      iseqno = refl;
      frame = ap (λ (b : Bool). cond b (Some (stored (unnumbered leg subclass timestamp))) None) bare;
      no_inval = no_inval;
    }

pub ack-sending : (leg : LegState) (frame : FullFrame) → IsSendingOf leg.window.history (ack leg frame)
ack-sending leg frame = unnumbered-sending leg IAX_ACK frame.head.timestamp refl refl

pub vnak-sending : (leg : LegState) (frame : FullFrame) → IsSendingOf leg.window.history (vnak leg frame)
vnak-sending leg frame = unnumbered-sending leg IAX_VNAK frame.head.timestamp refl refl

-- ---- held frames

-- it is held, under this octet
abbrev pub IsHeldIn : List Entry → Held Frame → Type 0
IsHeldIn h held =
    (n : ℕ) × (held.number ≡ byte_of n) × (slice_get (sent_frames h) n ≡ Some held.frame) × (acked_count h ≤ n)

-- frames of the record from a place on, with their numbers
numbered-held : (h : List Entry) (first : ℕ) (frames : List Frame) (sendings : List Sending) → acked_count h ≤ first
    → ((i : ℕ) (f : Frame) → slice_get frames i ≡ Some f → slice_get (sent_frames h) (first + i) ≡ Some f)
    → All (IsHeldIn h) (numbered_from first frames sendings)
numbered-held h first [] sendings le at = All-nil (IsHeldIn h)
numbered-held h first (f ∷ frames) [] le at = All-nil (IsHeldIn h)
numbered-held h first (f ∷ frames) (s ∷ sendings) le at =
    let here : slice_get (sent_frames h) first ≡ Some f = ap (slice_get (sent_frames h)) (sym (add-zero first)) ∙ at 0 f refl in
    All-cons (IsHeldIn h) (record { number = byte_of first; frame = f; last = s.last; tries = s.tries })
    (numbered_from (first + 1) frames sendings)
    (first, refl, here, le)
    (numbered-held h (first + 1) frames sendings (omega arith)
    (λ i g later. let e : (first + 1) + i ≡ first + suc i = omega arith in ap (slice_get (sent_frames h)) e ∙ at (suc i) g later))

pub held-all : (w : WindowState) → All (IsHeldIn w.history) (held_frames w)
held-all w =
    numbered-held w.history (acked_count w.history) (held_of w.history) w.sendings (omega arith)
    (λ i f at. sym (get-drop (acked_count w.history) (sent_frames w.history) i) ∙ at)

-- the member of a list at a place
pub all-at : {X : Type 0} (P : X → Type 0) (xs : List X) (i : ℕ) (x : X) → All P xs → slice_get xs i ≡ Some x → P x
all-at P xs i x all at = subst P (get_or_from_slice_get xs i x x at) (all i x (slice_get_within xs i x at))

-- a record that has grown by sent frames at most
pub record Extends (h final : List Entry) : Type 0 where
  pub taken : taken_count final ≡ taken_count h
  pub acked : acked_count final ≡ acked_count h
  pub sent : (n : ℕ) (f : Frame) → slice_get (sent_frames h) n ≡ Some f → slice_get (sent_frames final) n ≡ Some f

pub extends-itself : (h : List Entry) → Extends h h
extends-itself h = record { taken = refl; acked = refl; sent = λ n f at. at }

pub extends-push : (h : List Entry) (f : Frame) → Extends h (h ++ Sent f ∷ [])
extends-push h f = record {
  taken = ap length (taken-push h f);
  acked = acked-push h f;
  sent = λ n g at. ap (λ (fs : List Frame). slice_get fs n) (sent-push h f) ∙ get-append (sent_frames h) (f ∷ []) n g at;
}

-- a held frame that is retransmitted, perhaps before a new one
pub again-sending : (leg : LegState) (held : Held Frame) (final : List Entry) → Extends leg.window.history final
    → SendsNumbered leg → IsHeldIn leg.window.history held
    → IsSendingOf final (sent_again leg held)
again-sending leg held final extends all (n, byte, at, acked) =
    let numbered = all-at IsNumberedFrame (sent_frames leg.window.history) n held.frame all at in
    record {
      datagram = record { number = n; acknowledgement = taken_count final; frame = Some held.frame };
      acknowledgement = refl;
      number = (extends.sent n held.frame at, omega (arith, extends.acked, acked));
      oseqno = byte;
      iseqno = ap byte_of (sym extends.taken);
      frame = ap (λ (b : Bool). cond b (Some held.frame) None) numbered;
      no_inval = no-inval (message_by held.frame.kind (subclass_meaning held.frame.subclass)) numbered;
    }

-- ---- a leg with its frames

-- after a step: the record's sent frames are numbered, and the full frames sent are sendings from it
pub record AllSent (leg : LegState) (frames : List FullFrame) : Type 0 where
  pub numbered : SendsNumbered leg
  pub sendings : All (IsSendingOf leg.window.history) frames

pub none-sent : (old new : LegState) → sent_frames new.window.history ≡ sent_frames old.window.history → SendsNumbered old
    → AllSent new []
none-sent old new same numbered = record {
  numbered = All-same IsNumberedFrame (sent_frames new.window.history) (sent_frames old.window.history) same numbered;
  sendings = All-nil (IsSendingOf new.window.history);
}

-- one new frame
pub one-sent : (leg new : LegState) (frame : Frame) → new.window.history ≡ leg.window.history ++ Sent frame ∷ []
    → SendsNumbered leg → IsNumberedFrame frame
    → AllSent new (outgoing leg false (next_byte leg) frame ∷ [])
one-sent leg new frame grows all numbered = record {
  numbered =
      All-same IsNumberedFrame (sent_frames new.window.history) (sent_frames leg.window.history ++ frame ∷ [])
      (ap sent_frames grows ∙ sent-push leg.window.history frame) (All-push IsNumberedFrame (sent_frames leg.window.history) frame
      all numbered);
  sendings =
      All-cons (IsSendingOf new.window.history) (outgoing leg false (next_byte leg) frame) []
      (subst (λ (h : List Entry). IsSendingOf h (outgoing leg false (next_byte leg) frame)) (sym grows)
      (new-sending leg frame numbered))
      (All-nil (IsSendingOf new.window.history));
}
