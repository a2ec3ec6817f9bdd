-- The part of a leg that callers at once see, when a full frame reaches it.
use Rattle.std.specs.Prelude.{◌&&◌, ◌||◌, not, ◌==◌, ◌+◌, length}
use Rattle.std.proofs.Common.{◌≡◌, ℕ, Bool, true, false, List, Option, None, Some, refl, sym, ap, ◌∙◌}
use Rattle.iax_frames.specs.FullFrame.{FullFrame}
use Rattle.seq_window.specs.declared.judgements.Acknowledged.{Acknowledged as Judgement}
use Rattle.seq_window.specs.declared.judgements.Received.{Received}
use Rattle.seq_window.specs.declared.judgements.Received.TheVariants as received
use Rattle.seq_window.specs.Window.{is_full, held_count, judged_number, judged_acknowledgement}
use Rattle.info_elements.specs.Element.{u32_in}
use Rattle.info_elements.specs.Numbers.{FORMAT, MD5_RESULT}
use Rattle.leg_machine.specs.Effects.{row, no_effect, reply_alone, hung_up, rejected, goes_on, unless_over, marked, is_reply}
use Rattle.call_signals.specs.Format.{same_format}
use Rattle.leg_machine.specs.LegTable.{any_stage, challenged, waiting, talking, linked, effect_at, effect_of, is_answer}
use Rattle.leg_machine.specs.LegTable.{element_in, auth_rep_row, auth_rep_digits, is_wanted, voice_row, is_media}
use Rattle.leg_machine.specs.Leg.{LegState, entered, staged}
use Rattle.call_signals.specs.Message.{message_of, is_numbered}
use Rattle.leg_machine.specs.Seen.{SeenLeg, SeenEffect, seen, moved, SeenFrame, Plain, ProvesItself, FailsToProve, AcceptsCall}
use Rattle.leg_machine.specs.Seen.{RejectsCall, BreaksOff, Indicates, AnswersCall, Dials, Speaks, HangsUp, AcknowledgesAll}
use Rattle.leg_machine.specs.Seen.{seen_effect, frame_effect, IsSeenFrame}
use Rattle.call_signals.specs.Stage.{is_over, is_closing}
use Rattle.leg_machine.specs.Steps.{Step, heard_of, full_step, vnak_step, nothing_sent, asking, not_asking, numbered_step}
use Rattle.leg_machine.specs.Steps.{judged_step, taken_step, taken, replied, answered, no_room, prepared}
use Rattle.leg_machine.specs.Working.{learnt, acknowledged, wants_vnak, end_noted}
use Rattle.call_signals.specs.declared.cause.Cause.TheVariants.{CallRejected, NormalClearing}
use Rattle.call_signals.specs.declared.effects.Answering.{Answering}
use Rattle.call_signals.specs.declared.effects.Answering.TheVariants.{Acknowledged, Answered, Silent}
use Rattle.call_signals.specs.declared.effects.Effect.{Effect}
use Rattle.call_signals.specs.declared.effects.Mark.{Mark}
use Rattle.call_signals.specs.declared.effects.Mark.TheVariants as marks
use Rattle.call_signals.specs.declared.format.Format.{Format}
use Rattle.call_signals.specs.declared.message.Message.{Message}
use Rattle.call_signals.specs.declared.message.Message.TheVariants as messages
use Rattle.call_signals.specs.declared.outcomes.Heard.{Heard}
use Rattle.call_signals.specs.declared.reply.ReplyFrame.{ReplyFrame}
use Rattle.call_signals.specs.declared.signal.MediaSpan.{MediaSpan}
use Rattle.call_signals.specs.declared.signal.Signal.{Signal}
use Rattle.call_signals.specs.declared.signal.Signal.TheVariants as signals
use Rattle.call_signals.specs.declared.stage.Stage.{Stage}
use Rattle.call_signals.specs.declared.stage.Stage.TheVariants as stages
use Rattle.leg_machine.proofs.Tied.{either, either_by, of-full-step, of-vnak-step}

-- ---- the rows

-- a row has at a stage the effect of one of the frames that callers see
abbrev SeenRow : Stage → Effect → Type 0
SeenRow stage effect =
    (frame : SeenFrame) × (effect.stage ≡ (frame_effect frame stage).stage) × (effect.signal ≡ (frame_effect frame stage).signal)

hung-up-row : (stage : Stage) → SeenRow stage (row Acknowledged stages.Ended (unless_over stage signals.Hangup))
hung-up-row stages.Waiting = (HangsUp, refl, refl)
hung-up-row stages.Challenged = (HangsUp, refl, refl)
hung-up-row stages.Offered = (HangsUp, refl, refl)
hung-up-row stages.Linked = (HangsUp, refl, refl)
hung-up-row stages.Up = (HangsUp, refl, refl)
hung-up-row stages.Closing = (HangsUp, refl, refl)
hung-up-row stages.Ended = (HangsUp, refl, refl)

plain-row : (stage : Stage) (effect : Effect) → effect.stage ≡ stage → effect.signal ≡ None → SeenRow stage effect
plain-row stage effect e f = (Plain, e, f)

reply-row : (stage : Stage) (reply : ReplyFrame) → SeenRow stage (reply_alone stage reply)
reply-row stage reply =
    either (SeenRow stage) (is_over stage) (no_effect stage) (row (Answered reply) stage None) (Plain, refl, refl) (
      Plain,
      refl,
      refl,
    )

any-row : (stage : Stage) (frame : FullFrame) (message : Message) → SeenRow stage (any_stage stage frame message)
any-row stage frame messages.Hangup = hung-up-row stage
any-row stage frame messages.Ping = reply-row stage _
any-row stage frame messages.LagRq = reply-row stage _
any-row stage frame messages.UnknownIax = reply-row stage _
any-row stage frame _ = (Plain, refl, refl)

challenged-row : (leg : LegState) (frame : FullFrame) (message : Message)
    → SeenRow stages.Challenged (challenged leg frame message)
challenged-row leg frame messages.AuthRep =
    either (SeenRow stages.Challenged) (is_answer leg.challenge leg.rules.secret (element_in frame MD5_RESULT))
    (row Silent stages.Offered (Some signals.Offered)) (rejected CallRejected) (ProvesItself, refl, refl) (
      FailsToProve,
      refl,
      refl,
    )
challenged-row leg frame message = any-row stages.Challenged frame message

auth-row : (digits : Option (List ℕ)) → SeenRow stages.Waiting (auth_rep_row digits)
auth-row (Some digits) = (Plain, refl, refl)
auth-row None = (BreaksOff, refl, refl)

waiting-row : (leg : LegState) (frame : FullFrame) (message : Message) → SeenRow stages.Waiting (waiting leg frame message)
waiting-row leg frame messages.AuthReq = auth-row (auth_rep_digits leg frame)
waiting-row leg frame messages.Accept =
    either (SeenRow stages.Waiting) (is_wanted leg.format (u32_in (element_in frame FORMAT)))
    (row Acknowledged stages.Linked None) (hung_up CallRejected) (AcceptsCall, refl, refl) (BreaksOff, refl, refl)
waiting-row leg frame messages.Reject = (RejectsCall, refl, refl)
waiting-row leg frame message = any-row stages.Waiting frame message

voice-row : (stage : Stage) (leg : LegState) (frame : FullFrame) (voice : Format)
    → ((span : MediaSpan) → SeenRow stage (goes_on stage (signals.Media span)))
    → SeenRow stage (voice_row stage leg frame voice)
voice-row stage leg frame voice speaks =
    let span : MediaSpan = record { start = 12; end = 12 + length frame.payload } in
    either (SeenRow stage) (same_format voice leg.format && is_media (length frame.payload)) (goes_on stage (signals.Media span))
    (no_effect stage)
    (speaks span) (Plain, refl, refl)

talking-row : (stage : Stage) (leg : LegState) (frame : FullFrame) (message : Message) → SeenRow stage (hung_up NormalClearing)
    → ((digit : ℕ) → SeenRow stage (goes_on stage (signals.Dtmf digit)))
    → ((span : MediaSpan) → SeenRow stage (goes_on stage (signals.Media span)))
    → SeenRow stage (talking stage leg frame message)
talking-row stage leg frame messages.ClearsCall clears dials speaks = clears
talking-row stage leg frame (messages.Dtmf digit) clears dials speaks = dials digit
talking-row stage leg frame (messages.Voice voice) clears dials speaks = voice-row stage leg frame voice speaks
talking-row stage leg frame messages.Quelch clears dials speaks = (Plain, refl, refl)
talking-row stage leg frame messages.Unquelch clears dials speaks = (Plain, refl, refl)
talking-row stage leg frame message clears dials speaks = any-row stage frame message

linked-row : (leg : LegState) (frame : FullFrame) (message : Message) → SeenRow stages.Linked (linked leg frame message)
linked-row leg frame (messages.Indicates indication) = (Indicates indication, refl, refl)
linked-row leg frame messages.Answer = (AnswersCall, refl, refl)
linked-row leg frame message =
    talking-row stages.Linked leg frame message (BreaksOff, refl, refl) (λ digit. (Dials digit, refl, refl))
    (λ span. (Speaks span, refl, refl))

row-at : (stage : Stage) (leg : LegState) (frame : FullFrame) (message : Message)
    → SeenRow stage (effect_at stage leg frame message)
row-at stages.Challenged leg frame message = challenged-row leg frame message
row-at stages.Waiting leg frame message = waiting-row leg frame message
row-at stages.Linked leg frame message = linked-row leg frame message
row-at stages.Up leg frame message =
    talking-row stages.Up leg frame message (BreaksOff, refl, refl) (λ digit. (Dials digit, refl, refl))
    (λ span. (Speaks span, refl, refl))
row-at stages.Offered leg frame message = any-row stages.Offered frame message
row-at stages.Closing leg frame message = any-row stages.Closing frame message
row-at stages.Ended leg frame message = any-row stages.Ended frame message

-- ---- a taken frame

seen-marked : (leg : LegState) (mark : Mark) → seen (marked leg mark) ≡ seen leg
seen-marked leg marks.Nothing = refl
seen-marked leg marks.Quelches = refl
seen-marked leg marks.Unquelches = refl
seen-marked leg marks.Authenticates = refl

seen-replied : (leg : LegState) (now : ℕ) (answer : Answering) → seen (replied leg now answer) ≡ seen leg
seen-replied leg now (Answered reply) = refl
seen-replied leg now Acknowledged = refl
seen-replied leg now Silent = refl

-- a leg that takes a frame enters its row's stage
pub seen-taken : (effect : Effect) (leg : LegState) (frame : FullFrame) (message : Message) (now : ℕ)
    → seen (replied (taken effect leg frame message now) now effect.answer) ≡ moved (seen leg) effect.stage
seen-taken effect leg frame message now =
    seen-replied (taken effect leg frame message now) now effect.answer ∙ seen-marked
    (entered (end_noted leg effect.stage frame message) effect.stage now) effect.mark

-- ---- frames that change nothing

same-owes : (stage : Stage) (owes : Bool) → owes ≡ (owes || (is_over stage && not (is_over stage)))
same-owes stage true = refl
same-owes stages.Waiting false = refl
same-owes stages.Challenged false = refl
same-owes stages.Offered false = refl
same-owes stages.Linked false = refl
same-owes stages.Up false = refl
same-owes stages.Closing false = refl
same-owes stages.Ended false = refl

-- a leg that enters the stage in which it is
pub moved-same : (leg : SeenLeg) → leg ≡ moved leg leg.stage
moved-same leg = ap (λ (owes : Bool). record leg { owes = owes }) (same-owes leg.stage leg.owes)

plain : (leg : LegState) → IsSeenFrame (seen leg) (seen leg) None
plain leg = (Plain, moved-same (seen leg), refl)

-- ---- the judgement

taken-seen : (leg : LegState) (frame : FullFrame) (message : Message) (now : ℕ)
    → let s = taken_step (effect_of leg frame message) leg frame message now in IsSeenFrame (seen leg) (seen s.leg) s.signal
taken-seen leg frame message now =
    let effect = effect_of leg frame message in
    let one = row-at leg.stage leg frame message in
    either (λ (s : Step). IsSeenFrame (seen leg) (seen s.leg) s.signal) (is_reply effect.answer && is_full leg.window)
    (no_room leg) (answered effect.answer (taken effect leg frame message now) frame now effect.signal)
    (plain leg)
    (one.0, seen-taken effect leg frame message now ∙ ap (moved (seen leg)) one.1, one.2)

judged-seen : (r : Received) (leg : LegState) (frame : FullFrame) (message : Message) (now : ℕ)
    → let s = judged_step r leg frame message now in IsSeenFrame (seen leg) (seen s.leg) s.signal
judged-seen received.Taken leg frame message now = taken-seen leg frame message now
judged-seen received.Repeat leg frame message now = plain leg
judged-seen received.Gap leg frame message now =
    either (λ (s : Step). IsSeenFrame (seen leg) (seen s.leg) s.signal) (wants_vnak leg now) (asking leg frame now)
    (not_asking leg) (plain leg) (plain leg)

numbered-seen : (leg : LegState) (frame : FullFrame) (message : Message) (now : ℕ)
    → let s = numbered_step leg frame message now in IsSeenFrame (seen leg) (seen s.leg) s.signal
numbered-seen leg frame message now =
    let judged = judged_number leg.window.history frame.head.oseqno in
    either (λ (s : Step). IsSeenFrame (seen leg) (seen s.leg) s.signal) (is_numbered message)
    (judged_step judged leg frame message now) (nothing_sent leg) (judged-seen judged leg frame message now) (plain leg)

vnak-seen : (j : Judgement) (leg : LegState) (number now : ℕ) → let s = vnak_step j leg number now in
    IsSeenFrame (seen leg) (seen s.leg) s.signal
vnak-seen j leg number now =
    of-vnak-step (λ (s : Step). IsSeenFrame (seen leg) (seen s.leg) s.signal) j leg number now (plain leg) (plain leg) (plain leg)

-- ---- the working order

-- an ended leg does nothing more
ended-frame : (frame : SeenFrame) → frame_effect frame stages.Ended ≡ seen_effect stages.Ended None
ended-frame HangsUp = refl
ended-frame _ = refl

pub or-none : (b : Bool) → (b || false) ≡ b
or-none true = refl
or-none false = refl

-- the effect on a leg that has just ended
ended-seen : (old new : SeenLeg) (signal : Option Signal) → old.stage ≡ stages.Closing
    → IsSeenFrame (moved old stages.Ended) new signal → IsSeenFrame old new signal
ended-seen old new signal closing s =
    let effect = ended-frame s.0 in
    let acked : frame_effect AcknowledgesAll old.stage ≡ seen_effect stages.Ended None = ap (frame_effect AcknowledgesAll)
    closing in
    let twice : moved (moved old stages.Ended) stages.Ended ≡ moved old stages.Ended =
    ap (λ (owes : Bool). record old { stage = stages.Ended; owes = owes }) (or-none (moved old stages.Ended).owes) in (
      AcknowledgesAll,
      s.1 ∙ ap (λ (e : SeenEffect). moved (moved old stages.Ended) e.stage) effect ∙ twice
          ∙ ap (λ (e : SeenEffect). moved old e.stage) (sym acked),
      s.2 ∙ ap (λ (e : SeenEffect). e.signal) effect ∙ ap (λ (e : SeenEffect). e.signal) (sym acked),
    )

closing-if : (stage : Stage) (b : Bool) → (is_closing stage && b) ≡ true → stage ≡ stages.Closing
closing-if stages.Closing b e = refl
closing-if stages.Waiting b e = cc
closing-if stages.Challenged b e = cc
closing-if stages.Offered b e = cc
closing-if stages.Linked b e = cc
closing-if stages.Up b e = cc
closing-if stages.Ended b e = cc

-- a frame is handled on the leg as it was, or on one that has just ended
prepared-seen : (leg : LegState) (frame : FullFrame) (new : SeenLeg) (signal : Option Signal)
    → IsSeenFrame (seen (prepared leg frame)) new signal → IsSeenFrame (seen leg) new signal
prepared-seen leg frame new signal =
    let mid = acknowledged (learnt leg frame.head.source) frame.head.iseqno in
    either_by (λ (l : LegState). IsSeenFrame (seen l) new signal → IsSeenFrame (seen leg) new signal)
    (is_closing leg.stage && (held_count mid.window == 0))
    (staged mid stages.Ended) mid
    (λ test s. ended-seen (seen leg) new signal (closing-if leg.stage (held_count mid.window == 0) test) s)
    (λ test s. s)

-- a full frame
pub frame-seen : (leg : LegState) (frame : FullFrame) (now : ℕ) → let s = full_step leg frame now in
    IsSeenFrame (seen leg) (seen s.leg) s.signal
frame-seen leg frame now =
    let message = message_of frame.head in
    let mid = prepared leg frame in
    let judged = judged_acknowledgement leg.window.history frame.head.iseqno in
    let vnak = vnak_step judged mid frame.head.iseqno now in
    let numbered = numbered_step mid frame message now in
    let ends = hung-up-row leg.stage in
    of-full-step (λ (s : Step). IsSeenFrame (seen leg) (seen s.leg) s.signal) leg frame now (
      ends.0,
      ap (moved (seen leg)) ends.1,
      ends.2,
    ) (plain leg) (numbered-seen leg frame message now)
    (prepared-seen leg frame (seen vnak.leg) vnak.signal (vnak-seen judged mid frame.head.iseqno now))
    (prepared-seen leg frame (seen numbered.leg) numbered.signal (numbered-seen mid frame message now))

-- the answer of a call
pub heard-seen : (old new : LegState) (frame : FullFrame) (now : ℕ) (heard : Heard) → new ≡ (full_step old frame now).leg
    → heard ≡ heard_of (full_step old frame now)
    → IsSeenFrame (seen old) (seen new) heard.signal
heard-seen old new frame now heard leg answer =
    let s = frame-seen old frame now in
    (s.0, ap seen leg ∙ s.1, ap (λ (h : Heard). h.signal) answer ∙ s.2)
