-- The frames of each step.
use Rattle.std.specs.Prelude.{◌&&◌, nat_eq, map, option_map, All}
use Rattle.std.specs.Option.{option_to_list}
use Rattle.std.proofs.Common.{◌≡◌, ℕ, zero, suc, Bool, true, false, List, [], ◌∷◌, ◌++◌, Option, None, Some, inl, refl, sym, ap}
use Rattle.std.proofs.Common.{subst, ◌∙◌}
use Rattle.std.proofs.lemmas.List.Elements.{All-nil, All-cons, All-append, All-map, All-same, All-weaker}
use Rattle.iax_frames.specs.FullFrame.{FullFrame, spelling}
use Rattle.iax_frames.specs.declared.stored_frame.Frame.{Frame}
use Rattle.resend_queue.specs.declared.held_frame.Held.{Held}
use Rattle.seq_window.specs.Entry.{Entry, Sent, Acked, Taken}
use Rattle.seq_window.specs.History.{sent as sent_frames}
use Rattle.seq_window.specs.declared.judgements.Received.{Received}
use Rattle.seq_window.specs.declared.judgements.Received.TheVariants as received
use Rattle.seq_window.specs.declared.judgements.Resent.{Resent}
use Rattle.seq_window.specs.declared.judgements.Resent.TheVariants as resents
use Rattle.seq_window.specs.Window.{held_count, held_frames, held_at, is_full, judged_number, judged_acknowledgement, count_of}
use Rattle.seq_window.specs.Window.{entries_for_count, entries_for_number, resent}
use Rattle.leg_machine.specs.Effects.{is_reply}
use Rattle.leg_machine.specs.LegTable.{effect_of}
use Rattle.leg_machine.specs.Leg.{LegState, entered, failed, obeyed, must_end, end_failure}
use Rattle.leg_machine.specs.Media.{after_media, media_frames}
use Rattle.call_signals.specs.Message.{message_of, is_numbered}
use Rattle.leg_machine.specs.Openings.{leg_for_call, open_out_step}
use Rattle.leg_machine.specs.OrderTable.{row_carried}
use Rattle.leg_machine.specs.Replies.{reply_frame, voice_frame, new_frame, outgoing, next_byte, ack, vnak, sent_again}
use Rattle.call_signals.specs.Stage.{is_ended}
use Rattle.leg_machine.specs.Steps.{Step, full_step, invalidated, oldest_step, resend_step, nothing_sent, asking, not_asking}
use Rattle.leg_machine.specs.Steps.{judged_step, taken_step, taken, replied, answers, answered, no_room, prepared}
use Rattle.leg_machine.specs.Ticks.{Tick, quiet, sends_if, must_hang_up, must_ping, pinged, last_step, due_frames, tick_step}
use Rattle.leg_machine.specs.Tie.{IsNumberedFrame, SendsNumbered, IsSendingOf, IsSending, IsSendingOrMini, HasSent, HasSentOrMini}
use Rattle.leg_machine.specs.Tries.{Tried, tries, one_try, after_try, frames_again}
use Rattle.leg_machine.specs.Working.{stored, wants_vnak, asked, agreed, vnak_noted}
use Rattle.call_signals.specs.declared.failure.Failure.TheVariants as failures
use Rattle.call_signals.specs.declared.effects.Answering.{Answering}
use Rattle.call_signals.specs.declared.effects.Answering.TheVariants.{Acknowledged, Answered, Silent}
use Rattle.call_signals.specs.declared.effects.Effect.{Effect}
use Rattle.call_signals.specs.declared.format.Format.{Format}
use Rattle.leg_machine.specs.declared.media.MediaSent.{MediaSent}
use Rattle.leg_machine.specs.declared.media.MediaSent.TheVariants as media
use Rattle.call_signals.specs.declared.message.Message.{Message}
use Rattle.call_signals.specs.declared.message.Message.TheVariants.{New}
use Rattle.leg_machine.specs.declared.orders.Ordered.{Ordered}
use Rattle.call_signals.specs.declared.reply.ReplyFrame.TheVariants as replies
use Rattle.call_signals.specs.declared.rules.PeerRules.{PeerRules}
use Rattle.call_signals.specs.declared.stage.Stage.TheVariants as stages
use Rattle.leg_machine.proofs.Sendings.{reply-numbered, voice-numbered, new-sending, ack-sending, vnak-sending, held-all, all-at}
use Rattle.leg_machine.proofs.Sendings.{IsHeldIn, Extends, extends-itself, extends-push, again-sending, AllSent, none-sent}
use Rattle.leg_machine.proofs.Sendings.{one-sent}
use Rattle.leg_machine.proofs.Tied.{either, of-full-step, of-vnak-step, prepared-history, taken-history}
use Rattle.leg_machine.proofs.TiedSends.{kept-tries, last-none}

-- ---- a full frame

-- an acknowledgement sends nothing
sent-acks : (h : List Entry) (n : ℕ) → sent_frames (h ++ entries_for_count n) ≡ sent_frames h
sent-acks [] n = either (λ (entries : List Entry). sent_frames entries ≡ []) (nat_eq n 0) [] (Acked n ∷ []) refl refl
sent-acks (Sent f ∷ h) n = ap (λ (fs : List Frame). f ∷ fs) (sent-acks h n)
sent-acks (Acked count ∷ h) n = sent-acks h n
sent-acks (Taken f ∷ h) n = sent-acks h n

-- nor does a frame that is judged
sent-takes : (h : List Entry) (r : Received) (frame : Frame) → sent_frames (h ++ entries_for_number r frame) ≡ sent_frames h
sent-takes [] received.Taken frame = refl
sent-takes [] received.Repeat frame = refl
sent-takes [] received.Gap frame = refl
sent-takes (Sent f ∷ h) r frame = ap (λ (fs : List Frame). f ∷ fs) (sent-takes h r frame)
sent-takes (Acked count ∷ h) r frame = sent-takes h r frame
sent-takes (Taken f ∷ h) r frame = sent-takes h r frame

numbered-prepared : (leg : LegState) (frame : FullFrame) → SendsNumbered leg → SendsNumbered (prepared leg frame)
numbered-prepared leg frame all =
    (none-sent leg (prepared leg frame)
    (ap sent_frames (prepared-history leg frame) ∙ sent-acks leg.window.history
    (count_of (judged_acknowledgement leg.window.history frame.head.iseqno))) all).numbered

pub stays : (leg : LegState) → SendsNumbered leg → AllSent leg []
stays leg all = none-sent leg leg refl all

acks : (leg : LegState) (frame : FullFrame) → SendsNumbered leg → AllSent leg (ack leg frame ∷ [])
acks leg frame all = record {
  numbered = all;
  sendings = All-cons (IsSendingOf leg.window.history) (ack leg frame) [] (ack-sending leg frame)
      (All-nil (IsSendingOf leg.window.history));
}

vnaks : (leg : LegState) (frame : FullFrame) (now : ℕ) → SendsNumbered leg → AllSent (asked leg now) (vnak leg frame ∷ [])
vnaks leg frame now all = record {
  numbered = all;
  sendings = All-cons (IsSendingOf leg.window.history) (vnak leg frame) [] (vnak-sending leg frame)
      (All-nil (IsSendingOf leg.window.history));
}

answer-sent : (leg : LegState) (frame : FullFrame) (now : ℕ) (answer : Answering) → SendsNumbered leg
    → AllSent (replied leg now answer) (answers leg frame now answer)
answer-sent leg frame now (Answered reply) all =
    one-sent leg (replied leg now (Answered reply)) (reply_frame leg now reply) refl all (reply-numbered leg now reply)
answer-sent leg frame now Acknowledged all = acks leg frame all
answer-sent leg frame now Silent all = stays leg all

pub taken-sent : (effect : Effect) (leg : LegState) (frame : FullFrame) (message : Message) (now : ℕ) → SendsNumbered leg
    → let s = taken_step effect leg frame message now in AllSent s.leg s.replies
taken-sent effect leg frame message now all =
    let next = taken effect leg frame message now in
    let numbered = (none-sent leg next
    (ap sent_frames (taken-history effect leg frame message now) ∙ sent-takes leg.window.history
    (judged_number leg.window.history frame.head.oseqno) (stored frame)) all).numbered in
    either (λ (s : Step). AllSent s.leg s.replies) (is_reply effect.answer && is_full leg.window) (no_room leg)
    (answered effect.answer next frame now effect.signal) (stays leg all) (answer-sent next frame now effect.answer numbered)

judged-sent : (r : Received) (leg : LegState) (frame : FullFrame) (message : Message) (now : ℕ) → SendsNumbered leg
    → let s = judged_step r leg frame message now in AllSent s.leg s.replies
judged-sent received.Taken leg frame message now all = taken-sent (effect_of leg frame message) leg frame message now all
judged-sent received.Repeat leg frame message now all = acks leg frame all
judged-sent received.Gap leg frame message now all =
    either (λ (s : Step). AllSent s.leg s.replies) (wants_vnak leg now) (asking leg frame now) (not_asking leg)
    (vnaks leg frame now all) (stays leg all)

resend-sent : (leg : LegState) (now : ℕ) → SendsNumbered leg → AllSent (resend_step leg now).leg (resend_step leg now).replies
resend-sent leg now all =
    let h = leg.window.history in
    record {
      numbered = all;
      sendings =
          All-map (IsSendingOf h) (sent_again leg) (held_frames leg.window)
          (All-weaker (IsHeldIn h) (λ (held : Held Frame). IsSendingOf h (sent_again leg held))
          (λ held is. again-sending leg held h (extends-itself h) all is)
          (held_frames leg.window) (held-all leg.window));
    }

again-all : (leg : LegState) (place : ℕ) (now : ℕ) (final : List Entry) → Extends leg.window.history final → SendsNumbered leg
    → All (IsSendingOf final) (frames_again leg place)
again-all leg place now final extends all = each (held_at leg.window place) refl
  where
    each : (h : Option (Held Frame)) → held_at leg.window place ≡ h
        → All (IsSendingOf final) (option_to_list (option_map (sent_again leg) h))
    each None is = All-nil (IsSendingOf final)
    each (Some held) is =
        All-cons (IsSendingOf final) (sent_again leg held) []
        (again-sending leg held final extends all (all-at (IsHeldIn leg.window.history) (held_frames leg.window) place held
        (held-all leg.window) is))
        (All-nil (IsSendingOf final))

oldest-sent : (leg : LegState) (now : ℕ) → SendsNumbered leg → AllSent (oldest_step leg now).leg (oldest_step leg now).replies
oldest-sent leg now all = record {
  numbered = all;
  sendings =
      All-append (IsSendingOf leg.window.history) (frames_again leg 0) (frames_again leg 1)
      (again-all leg 0 now leg.window.history (extends-itself leg.window.history) all)
      (again-all leg 1 now leg.window.history (extends-itself leg.window.history) all);
}

pub full-sent : (leg : LegState) (frame : FullFrame) (now : ℕ) → SendsNumbered leg → let s = full_step leg frame now in
    AllSent s.leg s.replies
full-sent leg frame now all =
    let message = message_of frame.head in
    let mid = prepared leg frame in
    let numbered = numbered-prepared leg frame all in
    let counted = judged_acknowledgement leg.window.history frame.head.iseqno in
    let noted = vnak_noted mid frame.head.iseqno now in
    let judged = judged_number mid.window.history frame.head.oseqno in
    let bare = judged_number leg.window.history frame.head.oseqno in
    let Sends : Step → Type 0 = λ s. AllSent s.leg s.replies in
    of-full-step Sends leg frame now (none-sent leg (invalidated leg now).leg refl all) (stays leg all)
    (either Sends (is_numbered message) (judged_step bare leg frame message now) (nothing_sent leg)
    (judged-sent bare leg frame message now all) (stays leg all))
    (of-vnak-step Sends counted mid frame.head.iseqno now (oldest-sent noted now numbered) (resend-sent noted now numbered)
    (stays mid numbered))
    (either Sends (is_numbered message) (judged_step judged mid frame message now) (nothing_sent mid)
    (judged-sent judged mid frame message now numbered) (stays mid numbered))

-- ---- the answer of a call

-- the datagrams that spell the sent frames
pub spelled : (leg : LegState) (frames : List FullFrame) → AllSent leg frames → All (IsSending leg) (map spelling frames)
spelled leg frames all = All-map (IsSending leg) spelling frames (λ k d lt. (_, refl, all.sendings k d lt))

pub written : (leg new : LegState) (frames : List FullFrame) (datagrams : List (List ℕ)) → AllSent leg frames → new ≡ leg
    → datagrams ≡ map spelling frames → HasSent new datagrams
written leg new frames datagrams all is spelt = record {
  numbered = subst SendsNumbered (sym is) all.numbered;
  sendings =
      subst (λ (l : LegState). All (IsSending l) datagrams) (sym is) (All-same (IsSending leg) datagrams (map spelling frames)
      spelt (spelled leg frames all));
}

-- ---- an order

pub or-mini : (leg : LegState) (datagrams : List (List ℕ)) → All (IsSending leg) datagrams → All (IsSendingOrMini leg) datagrams
or-mini leg datagrams all = All-weaker (IsSending leg) (IsSendingOrMini leg) (λ octets s. inl s) datagrams all

pub row-sent : (leg : LegState) (row : Option Ordered) (now : ℕ) → SendsNumbered leg
    → HasSentOrMini (row_carried leg row now).leg (row_carried leg row now).datagrams
row-sent leg None now all = record { numbered = all; sendings = All-nil (IsSendingOrMini leg) }
row-sent leg (Some row) now all =
    let leg_in = agreed (obeyed leg row.stage now) row.reply in
    let new = (row_carried leg (Some row) now).leg in
    let frame = reply_frame leg_in now row.reply in
    let one = one-sent leg_in new frame refl all (reply-numbered leg_in now row.reply) in
    record {
      numbered = one.numbered;
      sendings =
          or-mini new (spelling (outgoing leg_in false (next_byte leg_in) frame) ∷ [])
          (spelled new (outgoing leg_in false (next_byte leg_in) frame ∷ []) one);
    }

pub media-sent : (sent : MediaSent) (leg : LegState) (octets : List ℕ) (now : ℕ) → SendsNumbered leg
    → AllSent (after_media sent leg octets now) (media_frames sent leg octets now)
media-sent media.Quelched leg octets now all = stays leg all
media-sent media.Voice leg octets now all =
    one-sent leg (after_media media.Voice leg octets now) (voice_frame leg now octets) refl all (voice-numbered leg.format)
media-sent (media.Mini timestamp) leg octets now all = stays leg all

-- ---- openings

pub call-sent : (rules : PeerRules) (number : ℕ) (called : List ℕ) (caller : List ℕ) (format : Format) (now : ℕ)
    → let s = open_out_step rules number called caller format now in AllSent s.leg s.replies
call-sent rules number called caller format now =
    let leg = leg_for_call rules number format now in
    one-sent leg (open_out_step rules number called caller format now).leg (new_frame leg now called caller) refl
    (All-nil IsNumberedFrame) refl

-- a leg that took a NEW before anything else
pub opened-written : (effect : Effect) (leg new : LegState) (frame : FullFrame) (now : ℕ) (before datagrams : List (List ℕ))
    → new ≡ (taken_step effect leg frame New now).leg
    → datagrams ≡ before ++ map spelling (taken_step effect leg frame New now).replies
    → before ≡ [] → leg.window.history ≡ [] → HasSent new datagrams
opened-written effect leg new frame now before datagrams ends spelt empty first =
    let step = taken_step effect leg frame New now in
    let numbered = All-same IsNumberedFrame (sent_frames leg.window.history) [] (ap sent_frames first)
    (All-nil IsNumberedFrame) in
    written step.leg new step.replies datagrams (taken-sent effect leg frame New now numbered) ends
    (spelt ∙ ap (λ (outs : List (List ℕ)). outs ++ map spelling step.replies) empty)

-- ---- a tick

try-sent : (r : Resent) (leg : LegState) (now : ℕ) (rest : LegState → Tried) (final : List Entry)
    → Extends leg.window.history final → SendsNumbered leg
    → ((l : LegState) → Extends l.window.history final → SendsNumbered l → All (IsSendingOf final) (rest l).replies)
    → All (IsSendingOf final) (one_try r leg now rest).replies
try-sent resents.Nothing leg now rest final extends all later = All-nil (IsSendingOf final)
try-sent resents.Spent leg now rest final extends all later = All-nil (IsSendingOf final)
try-sent (resents.Again place) leg now rest final extends all later =
    let next = after_try leg place now in
    All-append (IsSendingOf final) (frames_again next place) (rest next).replies (again-all next place now final extends all)
    (later next extends all)

tries-sent : (turns : ℕ) (leg : LegState) (now : ℕ) (final : List Entry) → Extends leg.window.history final → SendsNumbered leg
    → All (IsSendingOf final) (tries turns leg now).replies
tries-sent zero leg now final extends all = All-nil (IsSendingOf final)
tries-sent (suc turns) leg now final extends all =
    try-sent (resent leg.window now leg.rules.retry_ms leg.rules.max_retries) leg now (λ l. tries turns l now) final extends all
    (λ l e a. tries-sent turns l now final e a)

-- the last frames sent, after a record that they extend
pub record LastSent (leg : LegState) (last : Tick) : Type 0 where
  pub sent : AllSent last.leg last.replies
  pub extends : Extends leg.window.history last.leg.window.history

last-quiet : (leg new : LegState) → new.window.history ≡ leg.window.history → SendsNumbered leg → LastSent leg (quiet new)
last-quiet leg new same all = record {
  sent = none-sent leg new (ap sent_frames same) all;
  extends = subst (Extends leg.window.history) (sym same) (extends-itself leg.window.history);
}

ping-sent : (grown : Bool) (leg : LegState) (now : ℕ) → SendsNumbered leg
    → LastSent leg (sends_if grown leg (pinged leg now) now replies.Ping)
ping-sent true leg now all =
    let frame = reply_frame (pinged leg now) now replies.Ping in
    record {
      sent = one-sent (pinged leg now) (sends_if true leg (pinged leg now) now replies.Ping).leg frame refl all
          (reply-numbered (pinged leg now) now replies.Ping);
      extends = extends-push leg.window.history frame;
    }
ping-sent false leg now all = record { sent = stays leg all; extends = extends-itself leg.window.history }

last-sent : (grown spent : Bool) (leg : LegState) (now : ℕ) → SendsNumbered leg → LastSent leg (last_step grown spent leg now)
last-sent grown true leg now all = last-quiet leg (failed leg failures.RetriesSpent now) refl all
last-sent grown false leg now all =
    either (LastSent leg) (must_ping leg now) (sends_if grown leg (pinged leg now) now replies.Ping) (quiet leg)
    (ping-sent grown leg now all) (last-quiet leg leg refl all)

-- the frames after the doomed leg's HANGUP, if there was one
tail-sent : (turns : ℕ) (grown : Bool) (leg : LegState) (now : ℕ) → SendsNumbered leg
    → let tried = tries turns leg now in
    let last = last_step grown tried.spent tried.leg now in
    AllSent last.leg (tried.replies ++ last.replies)
tail-sent turns grown leg now all =
    let tried = tries turns leg now in
    let last = last_step grown tried.spent tried.leg now in
    let same = (kept-tries turns leg now).history in
    let tail = last-sent grown tried.spent tried.leg now (none-sent leg tried.leg (ap sent_frames same) all).numbered in
    let final = last.leg.window.history in
    record {
      numbered = tail.sent.numbered;
      sendings =
          All-append (IsSendingOf final) tried.replies last.replies
          (tries-sent turns leg now final (subst (λ (h : List Entry). Extends h final) same tail.extends) all) tail.sent.sendings;
    }

-- a tick after its HANGUP, if there was one
abbrev Finishes : Bool → LegState → ℕ → Tick → Type 0
Finishes grown leg now hung =
    let tried = tries (held_count leg.window) hung.leg now in
    let last = last_step grown tried.spent tried.leg now in
    AllSent last.leg (hung.replies ++ tried.replies ++ last.replies)

hung-sent : (grown : Bool) (leg : LegState) (now : ℕ) → SendsNumbered leg
    → Finishes grown leg now (sends_if grown leg (entered leg stages.Closing now) now (replies.Hangup leg.cause))
hung-sent true leg now all =
    let bye = replies.Hangup leg.cause in
    let closing = entered leg stages.Closing now in
    let frame = reply_frame closing now bye in
    let hung = sends_if true leg closing now bye in
    let tried = tries (held_count leg.window) hung.leg now in
    let last = last_step true tried.spent tried.leg now in
    let kept = kept-tries (held_count leg.window) hung.leg now in
    let still = last-none true tried.spent tried.leg now kept.stage ∙ kept.history in
    let first = one-sent closing hung.leg frame refl all (reply-numbered closing now bye) in
    let tail = tail-sent (held_count leg.window) true hung.leg now first.numbered in
    record {
      numbered = tail.numbered;
      sendings =
          All-cons (IsSendingOf last.leg.window.history) (outgoing closing false (next_byte closing) frame)
          (tried.replies ++ last.replies)
          (subst (λ (h : List Entry). IsSendingOf h (outgoing closing false (next_byte closing) frame)) (sym still)
          (new-sending closing frame (reply-numbered closing now bye)))
          tail.sendings;
    }
hung-sent false leg now all = tail-sent (held_count leg.window) false leg now all

pub tick-sent : (grown : Bool) (leg : LegState) (now : ℕ) → SendsNumbered leg → let t = tick_step grown leg now in
    AllSent t.leg t.replies
tick-sent grown leg now all =
    let Sends : Tick → Type 0 = λ t. AllSent t.leg t.replies in
    either Sends (is_ended leg.stage) (quiet leg) _ (stays leg all)
    (either Sends (must_end leg now) (quiet (failed leg (end_failure leg) now)) (due_frames grown leg now)
    (none-sent leg (failed leg (end_failure leg) now) refl all)
    (either (Finishes grown leg now) (must_hang_up leg) (sends_if grown leg (entered leg stages.Closing now) now
    (replies.Hangup leg.cause)) (quiet leg)
    (hung-sent grown leg now all) (tail-sent (held_count leg.window) grown leg now all)))
