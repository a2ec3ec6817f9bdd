-- Full frames without new media: a leg sends voice only by an order of media, or again.
use Rattle.std.specs.Prelude.{◌&&◌, is_some, map, option_map}
use Rattle.std.specs.List.{AllByRecursion}
use Rattle.std.specs.Option.{option_to_list}
use Rattle.std.proofs.Common.{ℕ, ◌≡◌, zero, suc, Bool, true, false, cond, List, [], ◌∷◌, ◌++◌, Option, None, Some}
use Rattle.std.proofs.Common.{refl, arith}
use Rattle.call_signals.specs.Codes.{FRAME_VOICE}
use Rattle.call_signals.specs.Message.{message_of, is_inval, is_numbered, is_vnak}
use Rattle.call_signals.specs.ReplyFrame.{type_of}
use Rattle.call_signals.specs.declared.effects.Answering.{Answering}
use Rattle.call_signals.specs.declared.effects.Answering.TheVariants as answerings
use Rattle.call_signals.specs.declared.effects.Effect.{Effect}
use Rattle.call_signals.specs.declared.message.Message.{Message}
use Rattle.call_signals.specs.declared.reply.ReplyFrame.{ReplyFrame}
use Rattle.call_signals.specs.declared.reply.ReplyFrame.TheVariants as replies
use Rattle.iax_frames.specs.FullFrame.{FullFrame}
use Rattle.iax_frames.specs.declared.stored_frame.Frame.{Frame}
use Rattle.leg_machine.specs.Effects.{is_reply}
use Rattle.call_signals.specs.Stage.{is_ended}
use Rattle.call_signals.specs.declared.stage.Stage.TheVariants as stages
use Rattle.leg_machine.specs.Leg.{LegState, end_failure, entered, failed, must_end}
use Rattle.leg_machine.specs.LegTable.{effect_of}
use Rattle.leg_machine.specs.Replies.{next_byte, outgoing, reply_frame, sent_again}
use Rattle.leg_machine.specs.Steps.{Step, answer_step, answered, answers, asking, full_step, gap_step, inval_step, invalidated}
use Rattle.leg_machine.specs.Steps.{judged_step, message_step, no_room, not_asking, nothing_sent, numbered_step, oldest_step}
use Rattle.leg_machine.specs.Steps.{handled_step, prepared, resend_step, taken, taken_step, vnak_step}
use Rattle.leg_machine.specs.Ticks.{Tick, due_frames, hang_up_step, last_step, must_hang_up, must_ping, ping_step, pinged, quiet}
use Rattle.leg_machine.specs.Ticks.{sends_if, tick_step}
use Rattle.leg_machine.specs.Tries.{Tried, after_try, frames_again, one_try, tries}
use Rattle.leg_machine.specs.Working.{brings_nothing, brings_oldest, counts, heeds_inval, is_unaddressed, refusal, vnak_noted}
use Rattle.leg_machine.specs.Working.{wants_vnak}
use Rattle.peer_lock.proofs.Choices.{either}
use Rattle.laws_of_peers.proofs.OrderlyParts.{IsOld}
use Rattle.resend_queue.specs.declared.held_frame.Held.{Held}
use Rattle.seq_window.specs.Window.{held_at, held_count, held_frames, is_full, judged_acknowledgement, judged_number, resent}
use Rattle.seq_window.specs.declared.judgements.Acknowledged.{Acknowledged as Judgement}
use Rattle.seq_window.specs.declared.judgements.Received.{Received}
use Rattle.seq_window.specs.declared.judgements.Received.TheVariants as received
use Rattle.seq_window.specs.declared.judgements.Resent.{Resent}
use Rattle.seq_window.specs.declared.judgements.Resent.TheVariants as resents

abbrev pub AreOld : List FullFrame → Type 0
AreOld frames = AllByRecursion IsOld frames

pub old_both : (one other : List FullFrame) → AreOld one → AreOld other → AreOld (one ++ other)
old_both [] other first second = second
old_both (frame ∷ one) other first second = (first.0, old_both one other first.1 second)

-- ---- frames

no_voice : (reply : ReplyFrame) → type_of reply ≡ FRAME_VOICE → ⊥
no_voice (replies.Dtmf digit) is = omega (arith, is)
no_voice (replies.Indicate indication) is = omega (arith, is)
no_voice replies.Answer is = omega (arith, is)
no_voice reply is = omega (arith, is)

pub reply_old : (leg : LegState) (byte now : ℕ) (reply : ReplyFrame)
    → IsOld (outgoing leg false byte (reply_frame leg now reply))
reply_old leg byte now reply = λ is. absurd (no_voice reply is)

again_old : (leg : LegState) (held : List (Held Frame)) → AreOld (map (sent_again leg) held)
again_old leg [] = tt
again_old leg (one ∷ held) = ((λ is. refl), again_old leg held)

found_old : (leg : LegState) (held : Option (Held Frame)) → AreOld (option_to_list (option_map (sent_again leg) held))
found_old leg None = tt
found_old leg (Some one) = ((λ is. refl), tt)

-- ---- a full frame

answers_old : (answering : Answering) (leg : LegState) (frame : FullFrame) (now : ℕ) → AreOld (answers leg frame now answering)
answers_old (answerings.Answered reply) leg frame now = (reply_old leg (next_byte leg) now reply, tt)
answers_old answerings.Acknowledged leg frame now = ((λ is. absurd (omega (arith, is))), tt)
answers_old answerings.Silent leg frame now = tt

pub taken_old : (effect : Effect) (leg : LegState) (frame : FullFrame) (message : Message) (now : ℕ)
    → AreOld (taken_step effect leg frame message now).replies
taken_old effect leg frame message now =
    either (λ (s : Step). AreOld s.replies) (is_reply effect.answer && is_full leg.window) (no_room leg)
    (answered effect.answer (taken effect leg frame message now) frame now effect.signal)
    tt (answers_old effect.answer (taken effect leg frame message now) frame now)

gap_old : (leg : LegState) (frame : FullFrame) (now : ℕ) → AreOld (gap_step leg frame now).replies
gap_old leg frame now =
    either (λ (s : Step). AreOld s.replies) (wants_vnak leg now) (asking leg frame now) (not_asking leg)
    ((λ is. absurd (omega (arith, is))), tt) tt

judged_old : (judged : Received) (leg : LegState) (frame : FullFrame) (message : Message) (now : ℕ)
    → AreOld (judged_step judged leg frame message now).replies
judged_old received.Taken leg frame message now = taken_old (effect_of leg frame message) leg frame message now
judged_old received.Repeat leg frame message now = ((λ is. absurd (omega (arith, is))), tt)
judged_old received.Gap leg frame message now = gap_old leg frame now

numbered_old : (leg : LegState) (frame : FullFrame) (message : Message) (now : ℕ)
    → AreOld (numbered_step leg frame message now).replies
numbered_old leg frame message now =
    either (λ (s : Step). AreOld s.replies) (is_numbered message)
    (judged_step (judged_number leg.window.history frame.head.oseqno) leg frame message now) (nothing_sent leg)
    (judged_old (judged_number leg.window.history frame.head.oseqno) leg frame message now) tt

inval_old : (leg : LegState) (frame : FullFrame) (now : ℕ) → AreOld (inval_step leg frame now).replies
inval_old leg frame now =
    either (λ (s : Step). AreOld s.replies) (heeds_inval leg frame) (invalidated leg now) (nothing_sent leg) tt tt

asked_old : (leg : LegState) (number now : ℕ) → AreOld (answer_step leg number now).replies
asked_old leg number now =
    let noted = vnak_noted leg number now in
    let P : Step → Type 0 = λ s. AreOld s.replies in
    either P (brings_nothing leg number now) (nothing_sent leg)
    (cond (brings_oldest leg now) (oldest_step noted now) (resend_step noted now)) tt
    (either P (brings_oldest leg now) (oldest_step noted now) (resend_step noted now)
    (old_both (frames_again noted 0) (frames_again noted 1) (found_old noted (held_at noted.window 0))
    (found_old noted (held_at noted.window 1))) (again_old noted (held_frames noted.window)))

vnak_old : (acknowledgement : Judgement) (leg : LegState) (number now : ℕ)
    → AreOld (vnak_step acknowledgement leg number now).replies
vnak_old acknowledgement leg number now =
    either (λ (s : Step). AreOld s.replies) (counts acknowledgement) (answer_step leg number now) (nothing_sent leg)
    (asked_old leg number now) tt

message_old : (message : Message) (leg : LegState) (frame : FullFrame) (now : ℕ)
    → AreOld (message_step message leg frame now).replies
message_old message leg frame now =
    let numbered : Step = numbered_step (prepared leg frame) frame message now in
    let asked : Step =
    vnak_step (judged_acknowledgement leg.window.history frame.head.iseqno) (prepared leg frame) frame.head.iseqno now in
    either (λ (s : Step). AreOld s.replies) (is_inval message) (inval_step leg frame now) (cond (is_vnak message) asked numbered)
    (inval_old leg frame now)
    (either (λ (s : Step). AreOld s.replies) (is_vnak message) asked numbered
    (vnak_old (judged_acknowledgement leg.window.history frame.head.iseqno) (prepared leg frame) frame.head.iseqno now)
    (numbered_old (prepared leg frame) frame message now))

pub full_old : (leg : LegState) (frame : FullFrame) (now : ℕ) → AreOld (full_step leg frame now).replies
full_old leg frame now =
    let message = message_of frame.head in
    let P : Step → Type 0 = λ s. AreOld s.replies in
    either P (is_some (refusal leg frame)) (nothing_sent leg) (handled_step leg frame now) tt
    (either P (is_unaddressed leg frame) (numbered_step leg frame message now) (message_step message leg frame now)
    (numbered_old leg frame message now) (message_old message leg frame now))

-- ---- a tick

sends_old : (grown : Bool) (leg changed : LegState) (now : ℕ) (reply : ReplyFrame)
    → AreOld (sends_if grown leg changed now reply).replies
sends_old true leg changed now reply = (reply_old changed (next_byte changed) now reply, tt)
sends_old false leg changed now reply = tt

try_old : (found : Resent) (leg : LegState) (now : ℕ) (rest : LegState → Tried)
    → ((later : LegState) → AreOld (rest later).replies)
    → AreOld (one_try found leg now rest).replies
try_old resents.Nothing leg now rest old = tt
try_old resents.Spent leg now rest old = tt
try_old (resents.Again place) leg now rest old =
    let after = after_try leg place now in
    old_both (frames_again after place) (rest after).replies (found_old after (held_at after.window place)) (old after)

tries_old : (turns : ℕ) (leg : LegState) (now : ℕ) → AreOld (tries turns leg now).replies
tries_old zero leg now = tt
tries_old (suc turns) leg now =
    try_old (resent leg.window now leg.rules.retry_ms leg.rules.max_retries) leg now (λ l. tries turns l now)
    (λ l. tries_old turns l now)

hung_old : (grown : Bool) (leg : LegState) (now : ℕ) → AreOld (hang_up_step grown leg now).replies
hung_old grown leg now =
    let closing = entered leg stages.Closing now in
    either (λ (t : Tick). AreOld t.replies) (must_hang_up leg) (sends_if grown leg closing now (replies.Hangup leg.cause))
    (quiet leg)
    (sends_old grown leg closing now (replies.Hangup leg.cause)) tt

ping_old : (grown : Bool) (leg : LegState) (now : ℕ) → AreOld (ping_step grown leg now).replies
ping_old grown leg now =
    either (λ (t : Tick). AreOld t.replies) (must_ping leg now) (sends_if grown leg (pinged leg now) now replies.Ping) (quiet leg)
    (sends_old grown leg (pinged leg now) now replies.Ping) tt

last_old : (grown spent : Bool) (leg : LegState) (now : ℕ) → AreOld (last_step grown spent leg now).replies
last_old grown true leg now = tt
last_old grown false leg now = ping_old grown leg now

due_old : (grown : Bool) (leg : LegState) (now : ℕ) → AreOld (due_frames grown leg now).replies
due_old grown leg now =
    let hung = hang_up_step grown leg now in
    let done = tries (held_count leg.window) hung.leg now in
    let last = last_step grown done.spent done.leg now in
    old_both (hung.replies ++ done.replies) last.replies
    (old_both hung.replies done.replies (hung_old grown leg now) (tries_old (held_count leg.window) hung.leg now))
    (last_old grown done.spent done.leg now)

pub tick_old : (grown : Bool) (leg : LegState) (now : ℕ) → AreOld (tick_step grown leg now).replies
tick_old grown leg now =
    let ended = quiet (failed leg (end_failure leg) now) in
    either (λ (t : Tick). AreOld t.replies) (is_ended leg.stage) (quiet leg)
    (cond (must_end leg now) ended (due_frames grown leg now)) tt
    (either (λ (t : Tick). AreOld t.replies) (must_end leg now) ended (due_frames grown leg now) tt (due_old grown leg now))
