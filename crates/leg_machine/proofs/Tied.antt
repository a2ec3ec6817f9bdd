-- The entries that each step adds to the record.
use Rattle.std.specs.Prelude.{is_some}
use Rattle.std.proofs.Common.{◌≡◌, ℕ, Bool, true, false, cond, List, [], ◌∷◌, ◌++◌, length, Option, None, Some, refl, sym, ap}
use Rattle.std.proofs.Common.{◌∙◌, append_assoc}
use Rattle.std.proofs.lemmas.List.{append-nil}
use Rattle.iax_frames.specs.FullFrame.{FullFrame}
use Rattle.iax_frames.specs.declared.stored_frame.Frame.{Frame}
use Rattle.seq_window.specs.Entry.{Entry, Sent, Acked, Taken}
use Rattle.seq_window.specs.declared.judgements.Acknowledged.{Acknowledged as Judgement}
use Rattle.seq_window.specs.declared.judgements.Received.{Received}
use Rattle.seq_window.specs.declared.judgements.Received.TheVariants as received
use Rattle.seq_window.specs.History.{taken}
use Rattle.seq_window.specs.Sequence.{number_byte_judged}
use Rattle.seq_window.specs.Turn.{entries_for_reply, entries_for_acknowledgement, entries_for_frame}
use Rattle.seq_window.specs.Window.{WindowState, after_receiving, judged_number, entries_for_number, entries_for_count}
use Rattle.seq_window.specs.Window.{judged_acknowledgement, count_of}
use Rattle.leg_machine.specs.Effects.{marked}
use Rattle.leg_machine.specs.LegTable.{effect_of}
use Rattle.leg_machine.specs.Leg.{LegState, entered}
use Rattle.call_signals.specs.Message.{message_of, is_numbered, is_inval, is_vnak}
use Rattle.leg_machine.specs.Replies.{reply_frame}
use Rattle.leg_machine.specs.Steps.{Step, full_step, inval_step, invalidated, oldest_step, answer_step, vnak_step, resend_step}
use Rattle.leg_machine.specs.Steps.{nothing_sent, asking, not_asking, numbered_step, judged_step, taken_step, taken as taken_leg}
use Rattle.leg_machine.specs.Steps.{replied, answered, no_room, prepared, handled_step, message_step}
use Rattle.leg_machine.specs.Tie.{TakesTurn, numbered_frame}
use Rattle.leg_machine.specs.Working.{stored, settled, acknowledged, learnt, counts, wants_vnak, asked, end_noted, brings_oldest}
use Rattle.leg_machine.specs.Working.{brings_nothing, vnak_noted, heeds_inval, is_unaddressed, refusal}
use Rattle.call_signals.specs.declared.effects.Answering.{Answering}
use Rattle.call_signals.specs.declared.effects.Answering.TheVariants.{Acknowledged, Answered, Silent}
use Rattle.call_signals.specs.declared.effects.Effect.{Effect}
use Rattle.call_signals.specs.declared.effects.Mark.{Mark}
use Rattle.call_signals.specs.declared.effects.Mark.TheVariants as marks
use Rattle.call_signals.specs.declared.message.Message.{Message}

pub either : {A : Type 0} (P : A → Type 0) (b : Bool) (x y : A) → P x → P y → P (cond b x y)
either P true x y p q = p
either P false x y p q = q

-- an acknowledgement takes nothing
pub taken-acks : (h : List Entry) (n : ℕ) → taken (h ++ entries_for_count n) ≡ taken h
taken-acks [] n = either (λ (entries : List Entry). taken entries ≡ []) _ [] (Acked n ∷ []) refl refl
taken-acks (Sent f ∷ h) n = taken-acks h n
taken-acks (Acked count ∷ h) n = taken-acks h n
taken-acks (Taken f ∷ h) n = ap (λ (fs : List Frame). f ∷ fs) (taken-acks h n)

settled-history : (leg : LegState) → (settled leg).window.history ≡ leg.window.history
settled-history leg = either (λ (l : LegState). l.window.history ≡ leg.window.history) _ _ _ refl refl

-- the record with the acknowledgement of a frame
pub prepared-history : (leg : LegState) (frame : FullFrame) → (prepared leg frame).window.history ≡ leg.window.history
    ++ entries_for_acknowledgement leg.window.history frame.head.iseqno
prepared-history leg frame = settled-history (acknowledged (learnt leg frame.head.source) frame.head.iseqno)

marked-window : (leg : LegState) (m : Mark) → (marked leg m).window ≡ leg.window
marked-window leg marks.Nothing = refl
marked-window leg marks.Quelches = refl
marked-window leg marks.Unquelches = refl
marked-window leg marks.Authenticates = refl

-- the record with a frame taken
pub taken-history : (effect : Effect) (leg : LegState) (frame : FullFrame) (message : Message) (now : ℕ)
    → (taken_leg effect leg frame message now).window.history ≡ leg.window.history ++ entries_for_number
    (judged_number leg.window.history frame.head.oseqno) (stored frame)
taken-history effect leg frame message now =
    ap (λ (w : WindowState). (after_receiving w frame.head.oseqno (stored frame)).history)
    (marked-window (entered (end_noted leg effect.stage frame message) effect.stage now) effect.mark)

pub replied-adds : (leg : LegState) (now : ℕ) (answer : Answering) → (reply : Option Frame) ×
    ((replied leg now answer).window.history ≡ leg.window.history ++ entries_for_reply reply)
replied-adds leg now (Answered reply) = (Some (reply_frame leg now reply), refl)
replied-adds leg now Acknowledged = (None, sym (append-nil leg.window.history))
replied-adds leg now Silent = (None, sym (append-nil leg.window.history))

-- a step that adds nothing
same : (leg : LegState) (frame : FullFrame) (new : LegState) → new.window.history ≡ leg.window.history → TakesTurn leg frame new
same leg frame new e =
    (record { acknowledges = false; receives = false; reply = None }, e ∙ sym (append-nil leg.window.history))

-- A leg by which the number of a frame is judged: its record is as before, or has the acknowledgement.
abbrev pub Begins : LegState → FullFrame → LegState → Type 0
Begins leg frame mid =
    (judges : Bool) × (mid.window.history ≡ leg.window.history
    ++ cond judges (entries_for_acknowledgement leg.window.history frame.head.iseqno) [])

pub begins-itself : (leg : LegState) (frame : FullFrame) → Begins leg frame leg
begins-itself leg frame = (false, sym (append-nil leg.window.history))

pub begins-prepared : (leg : LegState) (frame : FullFrame) → Begins leg frame (prepared leg frame)
begins-prepared leg frame = (true, prepared-history leg frame)

-- a step that adds at most an acknowledgement
acknowledges : (leg : LegState) (frame : FullFrame) (mid new : LegState) → Begins leg frame mid
    → new.window.history ≡ mid.window.history → TakesTurn leg frame new
acknowledges leg frame mid new begins e =
    let acks = cond begins.0 (entries_for_acknowledgement leg.window.history frame.head.iseqno) [] in (
      record { acknowledges = begins.0; receives = false; reply = None },
      e ∙ begins.1
          ∙ ap (λ (entries : List Entry). leg.window.history ++ entries) (sym (append-nil (acks ++ []) ∙ append-nil acks)),
    )

taken-begins : (judges : Bool) (h : List Entry) (n : ℕ) → taken (h ++ cond judges (entries_for_count n) []) ≡ taken h
taken-begins true h n = taken-acks h n
taken-begins false h n = ap taken (append-nil h)

-- as many frames are taken before and after the acknowledgement
pub same-taken : (leg : LegState) (frame : FullFrame) (mid : LegState) → Begins leg frame mid
    → taken mid.window.history ≡ taken leg.window.history
same-taken leg frame mid begins =
    ap taken begins.1
    ∙ taken-begins begins.0 leg.window.history (count_of (judged_acknowledgement leg.window.history frame.head.iseqno))

-- the judgement is the same before and after the acknowledgement
judged-later : (leg : LegState) (frame : FullFrame) (mid : LegState) → Begins leg frame mid
    → judged_number mid.window.history frame.head.oseqno ≡ judged_number leg.window.history frame.head.oseqno
judged-later leg frame mid begins =
    ap (λ (fs : List Frame). number_byte_judged (length fs) frame.head.oseqno) (same-taken leg frame mid begins)

answered-turn : (leg : LegState) (frame : FullFrame) (mid : LegState) → Begins leg frame mid → (effect : Effect)
    (message : Message) (now : ℕ) → is_numbered (message_of frame.head) ≡ true
    → TakesTurn leg frame (replied (taken_leg effect mid frame message now) now effect.answer)
answered-turn leg frame mid begins effect message now numbered =
    let h = leg.window.history in
    let acks = cond begins.0 (entries_for_acknowledgement h frame.head.iseqno) [] in
    let judged = judged_number h frame.head.oseqno in
    let takes = entries_for_number judged (stored frame) in
    let one = replied-adds (taken_leg effect mid frame message now) now effect.answer in
    let sends = entries_for_reply one.0 in
    let before : (taken_leg effect mid frame message now).window.history ≡ (h ++ acks) ++ takes =
    taken-history effect mid frame message now
    ∙ (λ i. begins.1 i ++ entries_for_number (judged-later leg frame mid begins i) (stored frame)) in
    let as_frame : takes ≡ entries_for_frame judged (numbered_frame frame) =
    ap (λ (b : Bool). entries_for_frame judged (cond b (Some (stored frame)) None)) (sym numbered) in (
      record { acknowledges = begins.0; receives = true; reply = one.0 },
      one.1 ∙ ap (λ (entries : List Entry). entries ++ sends) before
          ∙ append_assoc (h ++ acks) takes sends ∙ append_assoc h acks (takes ++ sends)
          ∙ ap (λ (entries : List Entry). h ++ entries) (sym (append_assoc acks takes sends))
          ∙ ap (λ (entries : List Entry). h ++ ((acks ++ entries) ++ sends)) as_frame,
    )

taken-turn : (leg : LegState) (frame : FullFrame) (mid : LegState) → Begins leg frame mid → (effect : Effect)
    (message : Message) (now : ℕ) → is_numbered (message_of frame.head) ≡ true
    → TakesTurn leg frame (taken_step effect mid frame message now).leg
taken-turn leg frame mid begins effect message now numbered =
    either (λ (s : Step). TakesTurn leg frame s.leg) _ (no_room mid)
    (answered effect.answer (taken_leg effect mid frame message now) frame now effect.signal)
    (acknowledges leg frame mid mid begins refl) (answered-turn leg frame mid begins effect message now numbered)

judged-turn : (r : Received) (leg : LegState) (frame : FullFrame) (mid : LegState) → Begins leg frame mid
    → (message : Message) (now : ℕ) → is_numbered (message_of frame.head) ≡ true
    → TakesTurn leg frame (judged_step r mid frame message now).leg
judged-turn received.Taken leg frame mid begins message now numbered =
    taken-turn leg frame mid begins (effect_of mid frame message) message now numbered
judged-turn received.Repeat leg frame mid begins message now numbered = acknowledges leg frame mid mid begins refl
judged-turn received.Gap leg frame mid begins message now numbered =
    either (λ (s : Step). TakesTurn leg frame s.leg) (wants_vnak mid now) (asking mid frame now) (not_asking mid)
    (acknowledges leg frame mid (asked mid now) begins refl) (acknowledges leg frame mid mid begins refl)

pub either_by : {A : Type 0} (P : A → Type 0) (b : Bool) (x y : A) → (b ≡ true → P x) → (b ≡ false → P y) → P (cond b x y)
either_by P true x y p q = p refl
either_by P false x y p q = q refl

numbered-turn : (leg : LegState) (frame : FullFrame) (mid : LegState) → Begins leg frame mid → (now : ℕ)
    → TakesTurn leg frame (numbered_step mid frame (message_of frame.head) now).leg
numbered-turn leg frame mid begins now =
    let message = message_of frame.head in
    either_by (λ (s : Step). TakesTurn leg frame s.leg) (is_numbered message)
    (judged_step (judged_number mid.window.history frame.head.oseqno) mid frame message now) (nothing_sent mid)
    (λ numbered. judged-turn (judged_number mid.window.history frame.head.oseqno) leg frame mid begins message now numbered)
    (λ _. acknowledges leg frame mid mid begins refl)

-- a property of each case of a VNAK (it brings the two oldest frames, brings all, or nothing) holds for its step
pub of-vnak-step : (P : Step → Type 0) (j : Judgement) (leg : LegState) (number now : ℕ)
    → P (oldest_step (vnak_noted leg number now) now)
    → P (resend_step (vnak_noted leg number now) now) → P (nothing_sent leg) → P (vnak_step j leg number now)
of-vnak-step P j leg number now oldest all none =
    let noted = vnak_noted leg number now in
    either P (counts j) (answer_step leg number now) (nothing_sent leg)
    (either P (brings_nothing leg number now) (nothing_sent leg)
    (cond (brings_oldest leg now) (oldest_step noted now) (resend_step noted now)) none
    (either P (brings_oldest leg now) (oldest_step noted now) (resend_step noted now) oldest all)) none

vnak-turn : (leg : LegState) (frame : FullFrame) (j : Judgement) (now : ℕ)
    → TakesTurn leg frame (vnak_step j (prepared leg frame) frame.head.iseqno now).leg
vnak-turn leg frame j now =
    let mid = prepared leg frame in
    let begins = begins-prepared leg frame in
    let noted = vnak_noted mid frame.head.iseqno now in
    of-vnak-step (λ (s : Step). TakesTurn leg frame s.leg) j mid frame.head.iseqno now
    (acknowledges leg frame mid (oldest_step noted now).leg begins refl)
    (acknowledges leg frame mid (resend_step noted now).leg begins refl) (acknowledges leg frame mid mid begins refl)

-- a property of an INVAL, of a frame that is refused or has no effect, of one of destination 0, of a VNAK and of any other
-- frame holds for each full frame's step
pub of-full-step : (P : Step → Type 0) (leg : LegState) (frame : FullFrame) (now : ℕ) → P (invalidated leg now)
    → P (nothing_sent leg) → P (numbered_step leg frame (message_of frame.head) now)
    → P (vnak_step (judged_acknowledgement leg.window.history frame.head.iseqno) (prepared leg frame) frame.head.iseqno now)
    → P (numbered_step (prepared leg frame) frame (message_of frame.head) now) → P (full_step leg frame now)
of-full-step P leg frame now inval none bare vnak other =
    let message = message_of frame.head in
    let vnak_one = vnak_step (judged_acknowledgement leg.window.history frame.head.iseqno) (prepared leg frame) frame.head.iseqno
    now in
    let other_one = numbered_step (prepared leg frame) frame message now in
    either P (is_some (refusal leg frame)) (nothing_sent leg) (handled_step leg frame now) none
    (either P (is_unaddressed leg frame) (numbered_step leg frame message now) (message_step message leg frame now) bare
    (either P (is_inval message) (inval_step leg frame now) (cond (is_vnak message) vnak_one other_one)
    (either P (heeds_inval leg frame) (invalidated leg now) (nothing_sent leg) inval none)
    (either P (is_vnak message) vnak_one other_one vnak other)))

pub full-turn : (leg : LegState) (frame : FullFrame) (now : ℕ) → TakesTurn leg frame (full_step leg frame now).leg
full-turn leg frame now =
    of-full-step (λ (s : Step). TakesTurn leg frame s.leg) leg frame now (same leg frame (invalidated leg now).leg refl)
    (same leg frame leg refl) (numbered-turn leg frame leg (begins-itself leg frame) now)
    (vnak-turn leg frame (judged_acknowledgement leg.window.history frame.head.iseqno) now)
    (numbered-turn leg frame (prepared leg frame) (begins-prepared leg frame) now)
