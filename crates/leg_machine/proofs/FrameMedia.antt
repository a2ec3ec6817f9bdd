-- Media that a full frame hands up is that frame's.
use Rattle.std.specs.Prelude.{◌&&◌, ◌+◌, length}
use Rattle.std.proofs.Common.{◌≡◌, ℕ, Bool, true, false, List, Option, None, Some, refl}
use Rattle.iax_frames.specs.FullFrame.{FullFrame}
use Rattle.seq_window.specs.declared.judgements.Acknowledged.{Acknowledged as Judgement}
use Rattle.seq_window.specs.declared.judgements.Received.{Received}
use Rattle.seq_window.specs.declared.judgements.Received.TheVariants as received
use Rattle.seq_window.specs.Window.{is_full, judged_number, judged_acknowledgement}
use Rattle.info_elements.specs.Element.{u32_in}
use Rattle.info_elements.specs.Numbers.{FORMAT, MD5_RESULT}
use Rattle.leg_machine.specs.Effects.{row, no_effect, reply_alone, hung_up, rejected, goes_on, unless_over, is_reply}
use Rattle.call_signals.specs.Format.{same_format}
use Rattle.leg_machine.specs.LegTable.{any_stage, challenged, waiting, talking, linked, effect_at, effect_of, is_answer}
use Rattle.leg_machine.specs.LegTable.{element_in, auth_rep_row, auth_rep_digits, is_wanted, voice_row, is_media}
use Rattle.leg_machine.specs.Leg.{LegState}
use Rattle.leg_machine.specs.Media.{IsMediaOf}
use Rattle.call_signals.specs.Message.{message_of, is_numbered}
use Rattle.call_signals.specs.Stage.{is_over}
use Rattle.leg_machine.specs.Steps.{Step, full_step, vnak_step, nothing_sent, asking, not_asking, numbered_step, judged_step}
use Rattle.leg_machine.specs.Steps.{taken, answered, no_room, prepared}
use Rattle.leg_machine.specs.Working.{wants_vnak}
use Rattle.call_signals.specs.declared.cause.Cause.TheVariants.{CallRejected}
use Rattle.call_signals.specs.declared.effects.Answering.TheVariants.{Acknowledged, Answered, Silent}
use Rattle.call_signals.specs.declared.effects.Effect.{Effect}
use Rattle.call_signals.specs.declared.format.Format.{Format}
use Rattle.call_signals.specs.declared.message.Message.{Message}
use Rattle.call_signals.specs.declared.message.Message.TheVariants as messages
use Rattle.call_signals.specs.declared.reply.ReplyFrame.{ReplyFrame}
use Rattle.call_signals.specs.declared.signal.Signal.TheVariants as signals
use Rattle.call_signals.specs.declared.stage.Stage.{Stage}
use Rattle.call_signals.specs.declared.stage.Stage.TheVariants as stages
use Rattle.leg_machine.proofs.Tied.{either, either_by, of-full-step, of-vnak-step}

-- ---- the rows

unless-row : (frame : FullFrame) (stage : Stage) → IsMediaOf frame (unless_over stage signals.Hangup)
unless-row frame stage = either (IsMediaOf frame) (is_over stage) None (Some signals.Hangup) tt tt

reply-row : (frame : FullFrame) (stage : Stage) (reply : ReplyFrame) → IsMediaOf frame (reply_alone stage reply).signal
reply-row frame stage reply =
    either (λ (e : Effect). IsMediaOf frame e.signal) (is_over stage) (no_effect stage) (row (Answered reply) stage None) tt tt

any-row : (frame : FullFrame) (stage : Stage) (message : Message) → IsMediaOf frame (any_stage stage frame message).signal
any-row frame stage messages.Hangup = unless-row frame stage
any-row frame stage messages.Ping = reply-row frame stage _
any-row frame stage messages.LagRq = reply-row frame stage _
any-row frame stage messages.UnknownIax = reply-row frame stage _
any-row frame stage _ = tt

voice-row : (stage : Stage) (leg : LegState) (frame : FullFrame) (voice : Format)
    → IsMediaOf frame (voice_row stage leg frame voice).signal
voice-row stage leg frame voice =
    either_by (λ (e : Effect). IsMediaOf frame e.signal) (same_format voice leg.format && is_media (length frame.payload))
    (goes_on stage (signals.Media (record { start = 12; end = 12 + length frame.payload }))) (no_effect stage)
    (λ test. (refl, second (same_format voice leg.format) (is_media (length frame.payload)) test)) (λ test. tt)
  where
    second : (a b : Bool) → (a && b) ≡ true → b ≡ true
    second true b e = e
    second false b e = cc

talking-row : (stage : Stage) (leg : LegState) (frame : FullFrame) (message : Message)
    → IsMediaOf frame (talking stage leg frame message).signal
talking-row stage leg frame messages.ClearsCall = tt
talking-row stage leg frame (messages.Dtmf digit) = tt
talking-row stage leg frame (messages.Voice voice) = voice-row stage leg frame voice
talking-row stage leg frame messages.Quelch = tt
talking-row stage leg frame messages.Unquelch = tt
talking-row stage leg frame message = any-row frame stage message

linked-row : (leg : LegState) (frame : FullFrame) (message : Message) → IsMediaOf frame (linked leg frame message).signal
linked-row leg frame (messages.Indicates indication) = tt
linked-row leg frame messages.Answer = tt
linked-row leg frame message = talking-row stages.Linked leg frame message

challenged-row : (leg : LegState) (frame : FullFrame) (message : Message) → IsMediaOf frame (challenged leg frame message).signal
challenged-row leg frame messages.AuthRep =
    either (λ (e : Effect). IsMediaOf frame e.signal) (is_answer leg.challenge leg.rules.secret (element_in frame MD5_RESULT))
    (row Silent stages.Offered (Some signals.Offered)) (rejected CallRejected) tt tt
challenged-row leg frame message = any-row frame stages.Challenged message

auth-row : (frame : FullFrame) (digits : Option (List ℕ)) → IsMediaOf frame (auth_rep_row digits).signal
auth-row frame (Some digits) = tt
auth-row frame None = tt

waiting-row : (leg : LegState) (frame : FullFrame) (message : Message) → IsMediaOf frame (waiting leg frame message).signal
waiting-row leg frame messages.AuthReq = auth-row frame (auth_rep_digits leg frame)
waiting-row leg frame messages.Accept =
    either (λ (e : Effect). IsMediaOf frame e.signal) (is_wanted leg.format (u32_in (element_in frame FORMAT)))
    (row Acknowledged stages.Linked None) (hung_up CallRejected) tt tt
waiting-row leg frame messages.Reject = tt
waiting-row leg frame message = any-row frame stages.Waiting message

row-at : (stage : Stage) (leg : LegState) (frame : FullFrame) (message : Message)
    → IsMediaOf frame (effect_at stage leg frame message).signal
row-at stages.Challenged leg frame message = challenged-row leg frame message
row-at stages.Waiting leg frame message = waiting-row leg frame message
row-at stages.Linked leg frame message = linked-row leg frame message
row-at stages.Up leg frame message = talking-row stages.Up leg frame message
row-at stages.Offered leg frame message = any-row frame stages.Offered message
row-at stages.Closing leg frame message = any-row frame stages.Closing message
row-at stages.Ended leg frame message = any-row frame stages.Ended message

-- ---- the working order

abbrev HandsUpMedia : FullFrame → Step → Type 0
HandsUpMedia frame s = IsMediaOf frame s.signal

judged-media : (r : Received) (leg : LegState) (frame : FullFrame) (message : Message) (now : ℕ)
    → HandsUpMedia frame (judged_step r leg frame message now)
judged-media received.Taken leg frame message now =
    let effect = effect_of leg frame message in
    either (HandsUpMedia frame) (is_reply effect.answer && is_full leg.window) (no_room leg)
    (answered effect.answer (taken effect leg frame message now) frame now effect.signal) tt (row-at leg.stage leg frame message)
judged-media received.Repeat leg frame message now = tt
judged-media received.Gap leg frame message now =
    either (HandsUpMedia frame) (wants_vnak leg now) (asking leg frame now) (not_asking leg) tt tt

numbered-media : (leg : LegState) (frame : FullFrame) (message : Message) (now : ℕ)
    → HandsUpMedia frame (numbered_step leg frame message now)
numbered-media leg frame message now =
    let judged = judged_number leg.window.history frame.head.oseqno in
    either (HandsUpMedia frame) (is_numbered message) (judged_step judged leg frame message now) (nothing_sent leg)
    (judged-media judged leg frame message now) tt

vnak-media : (j : Judgement) (leg : LegState) (frame : FullFrame) (number now : ℕ)
    → HandsUpMedia frame (vnak_step j leg number now)
vnak-media j leg frame number now = of-vnak-step (HandsUpMedia frame) j leg number now tt tt tt

pub frame-media : (leg : LegState) (frame : FullFrame) (now : ℕ) → IsMediaOf frame (full_step leg frame now).signal
frame-media leg frame now =
    let mid = prepared leg frame in
    of-full-step (HandsUpMedia frame) leg frame now (unless-row frame leg.stage) tt
    (numbered-media leg frame (message_of frame.head) now)
    (vnak-media (judged_acknowledgement leg.window.history frame.head.iseqno) mid frame frame.head.iseqno now)
    (numbered-media mid frame (message_of frame.head) now)
