-- The steps of a leg that waits for the answer to its challenge, and of a leg that another challenges.
use Rattle.std.specs.Prelude.{◌&&◌, ◌||◌, ◌==◌, nat_lt, is_some}
use Rattle.std.proofs.Common.{◌≡◌, ◌≤◌, ◌+◌, ℕ, Bool, true, false, cond, List, [], ◌∷◌, ◌++◌, length, Option, None, Some, refl}
use Rattle.std.proofs.Common.{sym, ap, subst, ◌∙◌, arith, length-append}
use Rattle.std.proofs.lemmas.Bool.Decides.{nat_tests}
use Rattle.std.proofs.lemmas.List.Sums.{sum_by-append}
use Rattle.iax_frames.specs.FullFrame.{FullFrame}
use Rattle.iax_frames.specs.declared.stored_frame.Frame.{Frame}
use Rattle.seq_window.specs.Entry.{Entry, Sent, Acked}
use Rattle.seq_window.specs.History.{data_len, data_octets}
use Rattle.seq_window.specs.Turn.{entries_for_acknowledgement, entries_for_frame, entries_for_reply}
use Rattle.seq_window.specs.Window.{count_of, entry_count, held_count, entries_for_count, entries_for_number}
use Rattle.seq_window.specs.Window.{judged_acknowledgement, judged_number}
use Rattle.seq_window.specs.declared.judgements.Received.{Received}
use Rattle.seq_window.specs.declared.judgements.Received.TheVariants as received
use Rattle.leg_machine.specs.Leg.{LegState, end_failure, staged, failed, is_challenged, is_overdue, is_record_full}
use Rattle.leg_machine.specs.Leg.{is_short_of_entries, is_short_of_octets}
use Rattle.leg_machine.specs.LegTable.{challenged, effect_at, effect_of, is_reflected, waiting}
use Rattle.leg_machine.specs.Effects.{hung_up, rejected, row}
use Rattle.leg_machine.specs.Replies.{data_of, reply_frame}
use Rattle.leg_machine.specs.Steps.{Step, answered, asking, full_step, judged_step, no_room, not_asking, nothing_sent}
use Rattle.leg_machine.specs.Steps.{numbered_step}
use Rattle.leg_machine.specs.Steps.{oldest_step, prepared, replied, resend_step, taken as taken_leg}
use Rattle.leg_machine.specs.Ticks.{Tick, due_frames, quiet, tick_step}
use Rattle.leg_machine.specs.Tie.{TakesTurn, numbered_frame}
use Rattle.leg_machine.specs.Working.{acknowledged, learnt, stored, vnak_noted, wants_vnak}
use Rattle.leg_machine.proofs.Tied.{either, either_by, of-full-step, of-vnak-step, prepared-history, taken-history, full-turn}
use Rattle.call_signals.specs.Message.{is_numbered, message_of}
use Rattle.call_signals.specs.Stage.{is_closing, is_ended}
use Rattle.call_signals.specs.declared.cause.Cause.TheVariants.{CallRejected}
use Rattle.call_signals.specs.declared.effects.Answering.{Answering}
use Rattle.call_signals.specs.declared.effects.Answering.TheVariants.{Acknowledged, Answered, Silent}
use Rattle.call_signals.specs.declared.effects.Effect.{Effect}
use Rattle.call_signals.specs.declared.message.Message.{Message}
use Rattle.call_signals.specs.declared.message.Message.TheVariants as messages
use Rattle.call_signals.specs.declared.rules.PeerRules.{PeerRules}
use Rattle.call_signals.specs.declared.signal.Signal.TheVariants as signals
use Rattle.call_signals.specs.declared.stage.Stage.{Stage}
use Rattle.call_signals.specs.declared.stage.Stage.TheVariants as stages

-- ---- reflection

last-fails : (a b : Bool) → (a && b && false) ≡ false
last-fails true true = refl
last-fails true false = refl
last-fails false b = refl

pub reflected-refused : (leg : LegState) (frame : FullFrame) → is_reflected leg.rules frame ≡ true
    → waiting leg frame messages.AuthReq ≡ hung_up CallRejected
reflected-refused leg frame back = rw (back, last-fails) refl

pub unhardened-answers : (rules : PeerRules) (frame : FullFrame) → rules.is_hardened ≡ false → is_reflected rules frame ≡ false
unhardened-answers rules frame soft = rw soft refl

-- ---- the growth of the record of a leg that waits for the answer to its challenge

-- the answer to a frame has at most 64 octets of data
abbrev IsShort : Answering → Type 0
IsShort (Answered reply) = (leg : LegState) → length (data_of leg reply) ≤ 64
IsShort Acknowledged = Unit {0}
IsShort Silent = Unit {0}

challenged-short : (leg : LegState) (frame : FullFrame) (message : Message) → IsShort (challenged leg frame message).answer
challenged-short leg frame messages.AuthRep =
    either (λ (e : Effect). IsShort e.answer) _ (row Silent stages.Offered (Some signals.Offered)) (rejected CallRejected) tt
    (λ other. omega arith)
challenged-short leg frame messages.Ping = λ other. omega arith
challenged-short leg frame messages.LagRq = λ other. omega arith
challenged-short leg frame messages.UnknownIax = λ other. omega arith
challenged-short leg frame _ = tt

-- the octets of data in a leg's record
abbrev kept : LegState → ℕ
kept leg = data_octets leg.window.history

more-kept : (old more new : List Entry) → new ≡ old ++ more → data_octets new ≡ data_octets old + data_octets more
more-kept old more new is = ap data_octets is ∙ sum_by-append data_len old more

no-kept : (n : ℕ) → data_octets (entries_for_count n) ≡ 0
no-kept n = either (λ (es : List Entry). data_octets es ≡ 0) _ [] (Acked n ∷ []) refl refl

prepared-kept : (leg : LegState) (frame : FullFrame) → kept (prepared leg frame) ≡ kept leg
prepared-kept leg frame =
    omega (
      arith,
      more-kept leg.window.history _ _ (prepared-history leg frame),
      no-kept (count_of (judged_acknowledgement leg.window.history frame.head.iseqno)),
    )

number-kept : (judged : Received) (frame : FullFrame) → data_octets (entries_for_number judged (stored frame))
    ≤ length frame.payload
number-kept received.Taken frame = omega arith
number-kept received.Repeat frame = omega arith
number-kept received.Gap frame = omega arith

taken-kept : (effect : Effect) (leg : LegState) (frame : FullFrame) (message : Message) (now : ℕ)
    → kept (taken_leg effect leg frame message now) ≤ kept leg + length frame.payload
taken-kept effect leg frame message now =
    omega (
      arith,
      more-kept leg.window.history _ _ (taken-history effect leg frame message now),
      number-kept (judged_number leg.window.history frame.head.oseqno) frame,
    )

replied-kept : (leg : LegState) (now : ℕ) (answer : Answering) → IsShort answer → kept (replied leg now answer) ≤ kept leg + 64
replied-kept leg now (Answered reply) short =
    omega (arith, more-kept leg.window.history (Sent (reply_frame leg now reply) ∷ []) _ refl, short leg)
replied-kept leg now Acknowledged short = omega arith
replied-kept leg now Silent short = omega arith

-- at most this much further data
abbrev Adds : LegState → FullFrame → Step → Type 0
Adds leg frame s = kept s.leg ≤ kept leg + length frame.payload + 64

and-left : (a b : Bool) → (a && b) ≡ true → a ≡ true
and-left true b both = refl
and-left false b both = cc

never : (a : Bool) → a ≡ false → a ≡ true → ⊥
never a fails holds = let both : true ≡ false = sym holds ∙ fails in cc

prepared-stage : (leg : LegState) (frame : FullFrame) → leg.stage ≡ stages.Challenged
    → (prepared leg frame).stage ≡ stages.Challenged
prepared-stage leg frame is =
    let mid = acknowledged (learnt leg frame.head.source) frame.head.iseqno in
    let none_held = held_count mid.window == 0 in
    either_by (λ (l : LegState). l.stage ≡ stages.Challenged) (is_closing leg.stage && none_held) (staged mid stages.Ended) mid
    (λ over. absurd (never (is_closing leg.stage) (ap is_closing is) (and-left (is_closing leg.stage) none_held over)))
    (λ on. is)

short-at : (stage : Stage) (leg : LegState) (frame : FullFrame) (message : Message) → stage ≡ stages.Challenged
    → IsShort (effect_at stage leg frame message).answer
short-at stage leg frame message is =
    subst (λ (s : Stage). IsShort (effect_at s leg frame message).answer) (sym is) (challenged-short leg frame message)

-- the leg by which the number of a frame is judged has as much data, and waits as well
record Waits (leg mid : LegState) : Type 0 where
  same : kept mid ≡ kept leg
  is : mid.stage ≡ stages.Challenged

waits-prepared : (leg : LegState) (frame : FullFrame) → leg.stage ≡ stages.Challenged → Waits leg (prepared leg frame)
waits-prepared leg frame is = record { same = prepared-kept leg frame; is = prepared-stage leg frame is }

adds-none : (leg : LegState) (frame : FullFrame) (mid : LegState) (s : Step) → Waits leg mid → kept s.leg ≡ kept mid
    → Adds leg frame s
adds-none leg frame mid s waits same = omega (arith, same, waits.same)

judged-adds : (r : Received) (leg : LegState) (frame : FullFrame) (mid : LegState) (message : Message) (now : ℕ)
    → Waits leg mid → Adds leg frame (judged_step r mid frame message now)
judged-adds received.Taken leg frame mid message now waits =
    let effect = effect_of mid frame message in
    let one = taken_leg effect mid frame message now in
    either (Adds leg frame) _ (no_room mid) (answered effect.answer one frame now effect.signal)
    (adds-none leg frame mid (no_room mid) waits refl)
    (omega (
      arith,
      waits.same,
      taken-kept effect mid frame message now,
      replied-kept one now effect.answer (short-at mid.stage mid frame message waits.is),
    ))
judged-adds received.Repeat leg frame mid message now waits =
    adds-none leg frame mid (judged_step received.Repeat mid frame message now) waits refl
judged-adds received.Gap leg frame mid message now waits =
    either (Adds leg frame) (wants_vnak mid now) (asking mid frame now) (not_asking mid)
    (adds-none leg frame mid (asking mid frame now) waits refl) (adds-none leg frame mid (not_asking mid) waits refl)

numbered-adds : (leg : LegState) (frame : FullFrame) (mid : LegState) (now : ℕ) → Waits leg mid
    → Adds leg frame (numbered_step mid frame (message_of frame.head) now)
numbered-adds leg frame mid now waits =
    either (Adds leg frame) (is_numbered (message_of frame.head)) _ (nothing_sent mid)
    (judged-adds (judged_number mid.window.history frame.head.oseqno) leg frame mid (message_of frame.head) now waits)
    (adds-none leg frame mid (nothing_sent mid) waits refl)

full-adds : (leg : LegState) (frame : FullFrame) (now : ℕ) → leg.stage ≡ stages.Challenged
    → Adds leg frame (full_step leg frame now)
full-adds leg frame now is =
    let mid = prepared leg frame in
    let waits = waits-prepared leg frame is in
    let noted = vnak_noted mid frame.head.iseqno now in
    of-full-step (Adds leg frame) leg frame now (omega arith) (omega arith)
    (numbered-adds leg frame leg now (record { same = refl; is = is }))
    (of-vnak-step (Adds leg frame) _ mid frame.head.iseqno now
    (adds-none leg frame mid (oldest_step noted now) waits refl) (adds-none leg frame mid (resend_step noted now) waits refl)
    (adds-none leg frame mid (nothing_sent mid) waits refl))
    (numbered-adds leg frame mid now waits)

room-left : (entries octets : ℕ) (a b c d : Bool)
    → (a || b || (c && d && (nat_lt 32 (entries + 4) || nat_lt 4096 (octets + 1452)))) ≡ false
    → c ≡ true → d ≡ true → (entries + 4 ≤ 32) × (octets + 1452 ≤ 4096)
room-left entries octets true b c d full is has = cc
room-left entries octets false true c d full is has = cc
room-left entries octets false false true true full is has = grind (arith, nat_tests)
room-left entries octets false false true false full is has = cc
room-left entries octets false false false d full is has = cc

one-ack : (n : ℕ) → length (entries_for_count n) ≤ 1
one-ack n = either (λ (es : List Entry). length es ≤ 1) _ [] (Acked n ∷ []) (omega arith) (omega arith)

one-number : (judged : Received) (frame : Frame) → length (entries_for_number judged frame) ≤ 1
one-number received.Taken frame = omega arith
one-number received.Repeat frame = omega arith
one-number received.Gap frame = omega arith

one-frame : (judged : Received) (frame : Option Frame) → length (entries_for_frame judged frame) ≤ 1
one-frame judged None = omega arith
one-frame judged (Some frame) = one-number judged frame

one-reply : (reply : Option Frame) → length (entries_for_reply reply) ≤ 1
one-reply None = omega arith
one-reply (Some frame) = omega arith

three-more : (leg : LegState) (frame : FullFrame) (new : LegState) → TakesTurn leg frame new
    → length new.window.history ≤ length leg.window.history + 3
three-more leg frame new takes =
    let turn = takes.0 in
    let h = leg.window.history in
    let acks = cond turn.acknowledges (entries_for_acknowledgement h frame.head.iseqno) [] in
    let gets = cond turn.receives (entries_for_frame (judged_number h frame.head.oseqno) (numbered_frame frame)) [] in
    let few_acks = either (λ (es : List Entry). length es ≤ 1) turn.acknowledges (entries_for_acknowledgement h frame.head.iseqno)
    [] (one-ack _) (omega arith) in
    let few_gets = either (λ (es : List Entry). length es ≤ 1) turn.receives
    (entries_for_frame (judged_number h frame.head.oseqno) (numbered_frame frame)) [] (one-frame _ _) (omega arith) in
    let whole : length new.window.history ≡ length (h ++ ((acks ++ gets) ++ entries_for_reply turn.reply)) = ap length takes.1 in
    omega (
      arith,
      whole,
      length-append h ((acks ++ gets) ++ entries_for_reply turn.reply),
      length-append (acks ++ gets) (entries_for_reply turn.reply),
      length-append acks gets,
      few_acks,
      few_gets,
      one-reply turn.reply,
    )

pub stays-little : (leg : LegState) (frame : FullFrame) (now : ℕ) → leg.stage ≡ stages.Challenged → is_some leg.rules.challenge_ms
    ≡ true
    → is_record_full leg ≡ false → length frame.payload ≤ 1388 → let new = (full_step leg frame now).leg in
    (entry_count new.window ≤ 32) × (data_octets new.window.history ≤ 4096)
stays-little leg frame now is has room short =
    let left = room-left (entry_count leg.window) (kept leg) (is_short_of_entries leg) (is_short_of_octets leg)
    (is_challenged leg.stage) (is_some leg.rules.challenge_ms)
    room (ap is_challenged is) has in (
      let few = three-more leg frame (full_step leg frame now).leg (full-turn leg frame now) in omega (arith, few, left.0),
      let little = full-adds leg frame now is in omega (arith, little, left.1, short),
    )

-- ---- a late answer

ends : (grown : Bool) (leg : LegState) (now : ℕ) (full late : Bool) → late ≡ true
    → cond (full || late) (quiet (failed leg (end_failure leg) now)) (due_frames grown leg now)
    ≡ quiet (failed leg (end_failure leg) now)
ends grown leg now true late is = refl
ends grown leg now false late is = rw is refl

pub late-ends : (grown : Bool) (leg : LegState) (now : ℕ) → leg.stage ≡ stages.Challenged → is_overdue leg now ≡ true
    → tick_step grown leg now ≡ quiet (failed leg (end_failure leg) now)
late-ends grown leg now is late =
    either_by (λ (t : Tick). t ≡ quiet (failed leg (end_failure leg) now)) (is_ended leg.stage) (quiet leg) _
    (λ over. absurd (never (is_ended leg.stage) (ap is_ended is) over))
    (λ on. ends grown leg now (is_record_full leg) (is_overdue leg now) late)
