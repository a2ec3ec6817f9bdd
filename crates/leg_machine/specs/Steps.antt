-- The steps of a leg: the effect of a full frame, in its working order ("Message Transport").
use Rattle.std.specs.Prelude.{ℕ, ◌&&◌, false, List, [], ◌∷◌, ◌++◌, map, min, Option, None, is_some, if◌then◌else◌}
use Rattle.iax_frames.specs.FullFrame.{FullFrame}
use Rattle.seq_window.specs.declared.judgements.Acknowledged.{Acknowledged as Judgement}
use Rattle.seq_window.specs.declared.judgements.Received.{Received}
use Rattle.seq_window.specs.declared.judgements.Received.TheVariants as received
use Rattle.seq_window.specs.Window.{held_count, held_frames, is_full, judged_number, judged_acknowledgement}
use Rattle.seq_window.specs.Window.{after_hastening, after_touching_all}
use Rattle.leg_machine.specs.Effects.{marked, unless_over, is_reply}
use Rattle.leg_machine.specs.LegTable.{effect_of}
use Rattle.leg_machine.specs.Leg.{LegState, entered, failed, resent_by, with_window}
use Rattle.call_signals.specs.Message.{message_of, is_numbered, is_inval, is_vnak}
use Rattle.leg_machine.specs.Replies.{reply_frame, outgoing, next_byte, ack, vnak, sent_again}
use Rattle.leg_machine.specs.Tries.{frames_again}
use Rattle.leg_machine.specs.Working.{learnt, acknowledged, counts, settled, end_noted, recorded, heard, wants_vnak, asked, sent}
use Rattle.leg_machine.specs.Working.{brings_nothing, brings_oldest, hastening, vnak_noted, heeds_inval, is_unaddressed, refusal}
use Rattle.call_signals.specs.declared.effects.Answering.{Answering}
use Rattle.call_signals.specs.declared.effects.Answering.TheVariants.{Acknowledged, Answered, Silent}
use Rattle.call_signals.specs.declared.effects.Effect.{Effect}
use Rattle.call_signals.specs.declared.failure.Failure.TheVariants as failures
use Rattle.call_signals.specs.declared.message.Message.{Message}
use Rattle.call_signals.specs.declared.outcomes.Heard.{Heard}
use Rattle.call_signals.specs.declared.outcomes.Judged.{Judged}
use Rattle.call_signals.specs.declared.outcomes.Judged.TheVariants as judged
use Rattle.call_signals.specs.declared.signal.Signal.{Signal}
use Rattle.call_signals.specs.declared.signal.Signal.TheVariants as signals

-- the leg after a step, the frames that it sends, the judgement of the frame, and the signal handed up
pub record Step : Type 0 where
  pub leg : LegState
  pub replies : List FullFrame
  pub judged : Judged
  pub signal : Option Signal

-- a call's answer
abbrev pub heard_of : Step → Heard
heard_of s = record { judged = s.judged; signal = s.signal }

abbrev pub nothing_sent : LegState → Step
nothing_sent leg = record { leg = leg; replies = []; judged = judged.Unnumbered; signal = None }

-- ---- VNAK

-- all held frames are retransmitted, oldest first, and counted; that is no try
abbrev pub resend_step : LegState → ℕ → Step
resend_step leg now = record {
  leg = resent_by (with_window leg (after_touching_all leg.window now)) (held_count leg.window);
  replies = map (sent_again leg) (held_frames leg.window);
  judged = judged.Unnumbered;
  signal = None;
}

-- Only the two oldest held frames are retransmitted, and counted; that is no try either. They are due again 100 milliseconds
-- after the last VNAK that brought all.
abbrev pub oldest_step : LegState → ℕ → Step
oldest_step leg now = record {
  leg = resent_by (with_window leg (after_hastening (after_hastening leg.window 0 (hastening leg now)) 1 (hastening leg now)))
      (min 2 (held_count leg.window));
  replies = frames_again leg 0 ++ frames_again leg 1;
  judged = judged.Unnumbered;
  signal = None;
}

-- A VNAK for this number is answered. One that brings nothing isn't noted.
abbrev pub answer_step : LegState → ℕ → ℕ → Step
answer_step leg number now =
    if brings_nothing leg number now then nothing_sent leg
    else if brings_oldest leg now
    then oldest_step (vnak_noted leg number now) now
    else resend_step (vnak_noted leg number now) now

-- a VNAK has an effect if its acknowledgement counts
abbrev pub vnak_step : Judgement → LegState → ℕ → ℕ → Step
vnak_step acknowledgement leg number now =
    if counts acknowledgement then answer_step leg number now else nothing_sent leg

-- ---- a taken frame

-- the leg with the frame taken: its row's stage and mark, and the frame recorded
abbrev pub taken : Effect → LegState → FullFrame → Message → ℕ → LegState
taken effect leg frame message now =
    recorded (heard (marked (entered (end_noted leg effect.stage frame message) effect.stage now) effect.mark) message) frame

-- a numbered reply is sent
abbrev pub replied : LegState → ℕ → Answering → LegState
replied leg now (Answered reply) = sent leg (reply_frame leg now reply) now
replied leg now Acknowledged = leg
replied leg now Silent = leg

-- the answer to a frame that is recorded
abbrev pub answers : LegState → FullFrame → ℕ → Answering → List FullFrame
answers leg frame now (Answered reply) = outgoing leg false (next_byte leg) (reply_frame leg now reply) ∷ []
answers leg frame now Acknowledged = ack leg frame ∷ []
answers leg frame now Silent = []

abbrev pub answered : Answering → LegState → FullFrame → ℕ → Option Signal → Step
answered answer leg frame now signal =
    record { leg = replied leg now answer; replies = answers leg frame now answer; judged = judged.Taken; signal = signal }

-- if a numbered reply finds no room, the frame is neither taken nor answered
abbrev pub no_room : LegState → Step
no_room leg = record { leg = leg; replies = []; judged = judged.NoRoom; signal = None }

abbrev pub taken_step : Effect → LegState → FullFrame → Message → ℕ → Step
taken_step effect leg frame message now =
    if is_reply effect.answer && is_full leg.window
    then no_room leg
    else answered effect.answer (taken effect leg frame message now) frame now effect.signal

-- ---- a gap

-- A frame comes ahead of the expected one: a VNAK asks for that one.
abbrev pub asking : LegState → FullFrame → ℕ → Step
asking leg frame now = record { leg = asked leg now; replies = vnak leg frame ∷ []; judged = judged.Gap; signal = None }

-- A VNAK asked for it less than `vnak_ms` milliseconds ago: nothing is sent.
abbrev pub not_asking : LegState → Step
not_asking leg = record { leg = leg; replies = []; judged = judged.Gap; signal = None }

abbrev pub gap_step : LegState → FullFrame → ℕ → Step
gap_step leg frame now = if wants_vnak leg now then asking leg frame now else not_asking leg

-- ---- the judgement

abbrev pub judged_step : Received → LegState → FullFrame → Message → ℕ → Step
judged_step received.Taken leg frame message now = taken_step (effect_of leg frame message) leg frame message now
judged_step received.Repeat leg frame message now =
    record { leg = leg; replies = ack leg frame ∷ []; judged = judged.Repeat; signal = None }
judged_step received.Gap leg frame message now = gap_step leg frame now

abbrev pub numbered_step : LegState → FullFrame → Message → ℕ → Step
numbered_step leg frame message now =
    if is_numbered message
    then judged_step (judged_number leg.window.history frame.head.oseqno) leg frame message now
    else nothing_sent leg

-- ---- the working order

-- The other side's number is learnt, the acknowledgement judged, and a closing leg that holds nothing has ended.
abbrev pub prepared : LegState → FullFrame → LegState
prepared leg frame = settled (acknowledged (learnt leg frame.head.source) frame.head.iseqno)

-- an INVAL that is heeded ends the leg
abbrev pub invalidated : LegState → ℕ → Step
invalidated leg now =
    record {
      leg = failed leg failures.Inval now;
      replies = [];
      judged = judged.Unnumbered;
      signal = unless_over leg.stage signals.Hangup;
    }

-- an INVAL neither acknowledges nor teaches
abbrev pub inval_step : LegState → FullFrame → ℕ → Step
inval_step leg frame now = if heeds_inval leg frame then invalidated leg now else nothing_sent leg

abbrev pub message_step : Message → LegState → FullFrame → ℕ → Step
message_step message leg frame now =
    if is_inval message then inval_step leg frame now
    else if is_vnak message
    then vnak_step (judged_acknowledgement leg.window.history frame.head.iseqno) (prepared leg frame) frame.head.iseqno now
    else numbered_step (prepared leg frame) frame message now

-- a full frame that isn't refused: by its number alone, if it has destination 0
abbrev pub handled_step : LegState → FullFrame → ℕ → Step
handled_step leg frame now =
    if is_unaddressed leg frame
    then numbered_step leg frame (message_of frame.head) now
    else message_step (message_of frame.head) leg frame now

-- a full frame comes
abbrev pub full_step : LegState → FullFrame → ℕ → Step
full_step leg frame now = if is_some (refusal leg frame) then nothing_sent leg else handled_step leg frame now
