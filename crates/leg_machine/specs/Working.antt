-- The small changes of a leg's steps.
use Rattle.std.specs.Prelude.{ℕ, ◌-◌, ◌&&◌, ◌||◌, ◌==◌, not, min, Bool, true, false, nat_le, nat_lt, Option, None, Some}
use Rattle.std.specs.Prelude.{◌≡◌, unwrap_or, is_none, if◌then◌else◌}
use Rattle.iax_frames.specs.FullFrame.{FullFrame}
use Rattle.iax_frames.specs.declared.stored_frame.Frame.{Frame}
use Rattle.seq_window.specs.declared.judgements.Acknowledged.{Acknowledged}
use Rattle.seq_window.specs.declared.judgements.Acknowledged.TheVariants.{Acked, Ignored}
use Rattle.seq_window.specs.declared.judgements.Received.{Received}
use Rattle.seq_window.specs.declared.judgements.Received.TheVariants.{Repeat}
use Rattle.seq_window.specs.Window.{held_count, count_of, after_acknowledgement, after_receiving, after_sending}
use Rattle.seq_window.specs.Window.{judged_acknowledgement, judged_number}
use Rattle.leg_machine.specs.Leg.{LegState, staged, with_window, is_record_full}
use Rattle.leg_machine.specs.declared.machine.AnsweredVnak.{AnsweredVnak}
use Rattle.call_signals.specs.Endings.{ending_cause}
use Rattle.call_signals.specs.Message.{message_of, is_numbered, answers_new, is_voice_in}
use Rattle.call_signals.specs.Stage.{is_closing, is_over, is_waiting}
use Rattle.call_signals.specs.declared.format.Format.{Format}
use Rattle.call_signals.specs.declared.format.Format.TheVariants.{Gsm, Ulaw, Alaw}
use Rattle.call_signals.specs.declared.format.Formats.{Formats}
use Rattle.call_signals.specs.declared.message.Message.{Message}
use Rattle.call_signals.specs.declared.outcomes.Judged.{Judged}
use Rattle.call_signals.specs.declared.outcomes.Judged.TheVariants as judged
use Rattle.call_signals.specs.declared.outcomes.StepError.{StepError}
use Rattle.call_signals.specs.declared.outcomes.StepError.TheVariants as errors
use Rattle.call_signals.specs.declared.reply.ReplyFrame.{ReplyFrame}
use Rattle.call_signals.specs.declared.reply.ReplyFrame.TheVariants.{Accept}
use Rattle.call_signals.specs.declared.stage.Stage.{Stage}
use Rattle.call_signals.specs.declared.stage.Stage.TheVariants.{Ended}

-- A frame has the leg's number, and that of the other side, if that is known.
abbrev pub names_leg : LegState → FullFrame → Bool
names_leg leg frame =
    (frame.head.destination == leg.number) && (unwrap_or leg.remote frame.head.source == frame.head.source)

-- the other side's number is learnt from the first frame
abbrev pub learnt : LegState → ℕ → LegState
learnt leg source = record leg { remote = Some (unwrap_or leg.remote source) }

-- an acknowledgement removes held frames
abbrev pub removes : Acknowledged → Bool
removes judged = nat_lt 0 (count_of judged)

abbrev pub acknowledged : LegState → ℕ → LegState
acknowledged leg byte = record (with_window leg (after_acknowledgement leg.window byte)) {
  is_acknowledged = removes (judged_acknowledgement leg.window.history byte) || leg.is_acknowledged;
}

abbrev pub counts : Acknowledged → Bool
counts (Acked count) = true
counts Ignored = false

-- a closing leg that holds nothing has ended
abbrev pub settled : LegState → LegState
settled leg = if is_closing leg.stage && (held_count leg.window == 0) then staged leg Ended else leg

-- a frame as the record keeps it
abbrev pub stored : FullFrame → Frame
stored f = record { ts = f.head.timestamp; kind = f.head.frame_type; subclass = f.head.subclass; payload = f.payload }

-- With the frame the next number is expected, and no VNAK has asked for that. With the leg's number the frame shows that
-- the other side knows it.
abbrev pub recorded : LegState → FullFrame → LegState
recorded leg frame = record (with_window leg (after_receiving leg.window frame.head.oseqno (stored frame))) {
  vnak_sent = None;
  is_named = names_leg leg frame || leg.is_named;
}

-- the cause of the leg's end, if it ends by entering this stage, with this frame
abbrev pub end_noted : LegState → Stage → FullFrame → Message → LegState
end_noted leg stage frame message = record leg {
  cause = if leg.rules.carries_cause && is_over stage && not (is_over leg.stage) then ending_cause frame message else leg.cause;
}

-- an ACCEPT agrees on its format
abbrev pub agreed_format : ReplyFrame → Format → Format
agreed_format (Accept format) before = format
agreed_format reply before = before

abbrev pub agreed : LegState → ReplyFrame → LegState
agreed leg reply = record leg { format = agreed_format reply leg.format }

abbrev pub no_formats : Formats
no_formats = record { gsm = false; ulaw = false; alaw = false }

-- the formats with that of a frame that is voice
abbrev pub with_voice : Formats → Message → Formats
with_voice formats message = record {
  gsm = formats.gsm || is_voice_in Gsm message;
  ulaw = formats.ulaw || is_voice_in Ulaw message;
  alaw = formats.alaw || is_voice_in Alaw message;
}

-- The format of a voice frame is noted in any stage, because the call's format may still change.
abbrev pub heard : LegState → Message → LegState
heard leg message = record leg { voice_taken = with_voice leg.voice_taken message }

-- a moment is at least this many milliseconds ago, or there is none
abbrev pub is_past : ℕ → ℕ → Option ℕ → Bool
is_past least now None = true
is_past least now (Some moment) = nat_le least (now - moment)

-- A gap is answered: the last VNAK is at least `vnak_ms` milliseconds old, or asked for another number.
abbrev pub wants_vnak : LegState → ℕ → Bool
wants_vnak leg now = is_past leg.rules.vnak_ms now leg.vnak_sent

-- the frame was the next, and was recorded
abbrev pub is_taken : Judged → Bool
is_taken judged.Taken = true
is_taken _ = false

-- a VNAK is sent
abbrev pub asked : LegState → ℕ → LegState
asked leg now = record leg { vnak_sent = Some now }

-- A VNAK repeats the one that was answered last: it asks for the same number, within this many milliseconds.
abbrev pub is_repetition : Option AnsweredVnak → ℕ → ℕ → ℕ → Bool
is_repetition None number now within = false
is_repetition (Some last) number now within = (last.number == number) && nat_lt (now - last.at) within

-- the last VNAK that brought all held frames came less than this many milliseconds ago
abbrev pub is_soon : Option AnsweredVnak → ℕ → ℕ → Bool
is_soon None now within = false
is_soon (Some last) now within = nat_lt (now - last.all_at) within

-- a VNAK that repeats, within the lesser of `retry_ms` and 10 milliseconds, brings nothing
abbrev pub brings_nothing : LegState → ℕ → ℕ → Bool
brings_nothing leg number now =
    leg.rules.is_hardened && is_repetition leg.vnak_answered number now (min leg.rules.retry_ms 10)

-- any other VNAK within 100 milliseconds of the last one that brought all held frames brings the two oldest
abbrev pub brings_oldest : LegState → ℕ → Bool
brings_oldest leg now = leg.rules.is_hardened && is_soon leg.vnak_answered now 100

-- the moment of the last VNAK that brought all, once one has come that brings the two oldest, or all
abbrev pub all_after : Bool → Option AnsweredVnak → ℕ → ℕ
all_after true (Some last) now = last.all_at
all_after _ last now = now

-- the time since the last VNAK that brought all held frames
abbrev pub since_all : Option AnsweredVnak → ℕ → ℕ
since_all None now = 100
since_all (Some last) now = now - last.all_at

-- A frame that was last sent at this moment is due 100 milliseconds after the last VNAK that brought all. If the plan allows no
-- tries, it is due no sooner than any, because it would be spent.
abbrev pub hastening : LegState → ℕ → ℕ
hastening leg now =
    if leg.rules.max_retries == 0 then now else now - (leg.rules.retry_ms - (100 - since_all leg.vnak_answered now))

-- a VNAK for this number is answered
abbrev pub vnak_noted : LegState → ℕ → ℕ → LegState
vnak_noted leg number now = record leg {
  vnak_answered = Some
      (record { number = number; at = now; all_at = all_after (brings_oldest leg now) leg.vnak_answered now });
}

-- a NEW was sent, and no frame has come yet
abbrev pub is_unanswered : LegState → Bool
is_unanswered leg = is_waiting leg.stage && is_none leg.remote

-- An INVAL has an effect. No honest peer answers a NEW by one.
abbrev pub heeds_inval : LegState → FullFrame → Bool
heeds_inval leg frame = not leg.rules.is_hardened || (names_leg leg frame && not (is_unanswered leg))

-- ---- frames that a hardened leg refuses

-- A frame of destination 0. Anybody can write one without knowing the leg's number, so its acknowledgement doesn't count.
abbrev pub is_unaddressed : LegState → FullFrame → Bool
is_unaddressed leg frame = leg.rules.is_hardened && (frame.head.destination == 0)

abbrev pub is_repeat : Received → Bool
is_repeat Repeat = true
is_repeat _ = false

-- Of frames of destination 0 the leg handles numbered ones, as long as the other side needn't know its number; later only
-- those that repeat, to acknowledge them. A frame that isn't numbered answers one that had the number.
abbrev pub handles_unaddressed : LegState → FullFrame → Bool
handles_unaddressed leg frame =
    is_numbered (message_of frame.head)
    && (not leg.is_named || is_repeat (judged_number leg.window.history frame.head.oseqno))

abbrev pub is_stray : LegState → FullFrame → Bool
is_stray leg frame = is_unaddressed leg frame && not (handles_unaddressed leg frame)

-- the other side has acknowledged the leg's first frame, by this frame or by one before it
abbrev pub has_acknowledged : LegState → FullFrame → Bool
has_acknowledged leg frame =
    leg.is_acknowledged
    || (not (is_unaddressed leg frame) && removes (judged_acknowledgement leg.window.history frame.head.iseqno))

-- it answers the NEW of a leg that waits, and the NEW isn't acknowledged
abbrev pub is_early : LegState → FullFrame → Bool
is_early leg frame =
    leg.rules.is_hardened && is_waiting leg.stage && answers_new (message_of frame.head) && not (has_acknowledged leg frame)

-- the refusal of a frame by its destination and its acknowledgement
abbrev pub refusal : LegState → FullFrame → Option StepError
refusal leg frame =
    if is_stray leg frame then Some errors.Unaddressed
    else if is_early leg frame then Some errors.NewUnacknowledged
    else None

-- the refusal of a full frame, memory aside
abbrev pub frame_refused : LegState → FullFrame → Option StepError
frame_refused leg frame = if is_record_full leg then Some errors.RecordFull else refusal leg frame

-- a refusal is the one that is due; if none is due, memory was refused
abbrev pub IsFrameRefusal : Option StepError → StepError → Type 0
IsFrameRefusal (Some due) e = e ≡ due
IsFrameRefusal None e = e ≡ errors.Memory

-- a numbered frame is sent
abbrev pub sent : LegState → Frame → ℕ → LegState
sent leg frame now = with_window leg (after_sending leg.window frame now)
