-- Legs whose number the other side knows, and the reach of frames of destination 0.
use Rattle.std.specs.Prelude.{◌&&◌, ◌||◌, ◌==◌, not, is_some}
use Rattle.std.proofs.Common.{◌≡◌, ◌⊎◌, ℕ, ◌+◌, Bool, true, false, cond, List, [], ◌∷◌, ◌++◌, Option, None, Some, inl, inr, refl}
use Rattle.std.proofs.Common.{sym, ap, subst, ◌∙◌, arith}
use Rattle.iax_frames.specs.FullFrame.{FullFrame}
use Rattle.iax_frames.specs.declared.stored_frame.Frame.{Frame}
use Rattle.seq_window.specs.Entry.{Entry, Sent, Acked, Taken}
use Rattle.seq_window.specs.History.{acked_count}
use Rattle.seq_window.specs.Turn.{entries_for_reply}
use Rattle.seq_window.specs.Window.{entries_for_number, is_full, held_count, judged_acknowledgement, judged_number}
use Rattle.seq_window.specs.declared.judgements.Acknowledged.{Acknowledged as Judgement}
use Rattle.seq_window.specs.declared.judgements.Received.{Received}
use Rattle.seq_window.specs.declared.judgements.Received.TheVariants as received
use Rattle.leg_machine.specs.Effects.{is_reply, marked}
use Rattle.leg_machine.specs.Leg.{LegState, entered, staged}
use Rattle.leg_machine.specs.LegTable.{effect_of}
use Rattle.leg_machine.specs.Media.{after_media, media_sent}
use Rattle.leg_machine.specs.OrderTable.{order_carried, order_row, row_carried}
use Rattle.leg_machine.specs.Replies.{ack}
use Rattle.leg_machine.specs.Steps.{Step, answered, asking, full_step, handled_step, judged_step, message_step, no_room}
use Rattle.leg_machine.specs.Steps.{not_asking, nothing_sent, numbered_step, prepared, replied, taken as taken_leg, taken_step}
use Rattle.leg_machine.specs.Steps.{vnak_step}
use Rattle.leg_machine.specs.Working.{acknowledged, end_noted, is_early, is_repeat, is_taken, is_unaddressed, learnt, names_leg}
use Rattle.leg_machine.specs.Working.{refusal, stored, wants_vnak}
use Rattle.call_signals.specs.Message.{message_of, is_numbered}
use Rattle.call_signals.specs.Order.{Order}
use Rattle.call_signals.specs.Stage.{is_closing}
use Rattle.call_signals.specs.declared.effects.Answering.{Answering}
use Rattle.call_signals.specs.declared.effects.Answering.TheVariants.{Acknowledged, Answered, Silent}
use Rattle.call_signals.specs.declared.effects.Effect.{Effect}
use Rattle.call_signals.specs.declared.effects.Mark.{Mark}
use Rattle.call_signals.specs.declared.effects.Mark.TheVariants as marks
use Rattle.call_signals.specs.declared.message.Message.{Message}
use Rattle.call_signals.specs.declared.order.Command.TheVariants.{Accept, Reject, Indicate, Answer, Dtmf, Media, Hangup, Doom}
use Rattle.call_signals.specs.declared.order.Command.TheVariants.{Paid}
use Rattle.call_signals.specs.declared.outcomes.StepError.TheVariants as errors
use Rattle.call_signals.specs.declared.stage.Stage.TheVariants as stages
use Rattle.leg_machine.specs.declared.media.MediaSent.{MediaSent}
use Rattle.leg_machine.specs.declared.media.MediaSent.TheVariants as media
use Rattle.leg_machine.specs.declared.orders.Ordered.{Ordered}
use Rattle.leg_machine.proofs.Tied.{either, of-full-step, of-vnak-step, replied-adds, taken-history}

-- ---- named legs

-- a frame names the leg as soon as it is taken
abbrev Names : LegState → FullFrame → Step → Type 0
Names leg frame s = s.leg.is_named ≡ cond (is_taken s.judged) (names_leg leg frame || leg.is_named) leg.is_named

-- a leg by which a number is judged has the same number as before, and the same other side
record SameName (leg mid : LegState) (frame : FullFrame) : Type 0 where
  named : mid.is_named ≡ leg.is_named
  names : names_leg mid frame ≡ names_leg leg frame

replied-named : (leg : LegState) (now : ℕ) (answer : Answering) → (replied leg now answer).is_named ≡ leg.is_named
replied-named leg now (Answered reply) = refl
replied-named leg now Acknowledged = refl
replied-named leg now Silent = refl

marked-name : (leg : LegState) (frame : FullFrame) (mark : Mark)
    → (names_leg (marked leg mark) frame || (marked leg mark).is_named) ≡ (names_leg leg frame || leg.is_named)
marked-name leg frame marks.Nothing = refl
marked-name leg frame marks.Quelches = refl
marked-name leg frame marks.Unquelches = refl
marked-name leg frame marks.Authenticates = refl

taken-names : (leg mid : LegState) (frame : FullFrame) (effect : Effect) (message : Message) (now : ℕ) → SameName leg mid frame
    → Names leg frame (taken_step effect mid frame message now)
taken-names leg mid frame effect message now same =
    let one = taken_leg effect mid frame message now in
    let entered_leg = entered (end_noted mid effect.stage frame message) effect.stage now in
    either (Names leg frame) (is_reply effect.answer && is_full mid.window) (no_room mid)
    (answered effect.answer one frame now effect.signal) same.named
    (replied-named one now effect.answer ∙ marked-name entered_leg frame effect.mark
    ∙ ap (λ (b : Bool). b || mid.is_named) same.names ∙ ap (λ (b : Bool). names_leg leg frame || b) same.named)

judged-names : (r : Received) (leg mid : LegState) (frame : FullFrame) (message : Message) (now : ℕ) → SameName leg mid frame
    → Names leg frame (judged_step r mid frame message now)
judged-names received.Taken leg mid frame message now same =
    taken-names leg mid frame (effect_of mid frame message) message now same
judged-names received.Repeat leg mid frame message now same = same.named
judged-names received.Gap leg mid frame message now same =
    either (Names leg frame) (wants_vnak mid now) (asking mid frame now) (not_asking mid) same.named same.named

numbered-names : (leg mid : LegState) (frame : FullFrame) (message : Message) (now : ℕ) → SameName leg mid frame
    → Names leg frame (numbered_step mid frame message now)
numbered-names leg mid frame message now same =
    let judged = judged_number mid.window.history frame.head.oseqno in
    either (Names leg frame) (is_numbered message) (judged_step judged mid frame message now) (nothing_sent mid)
    (judged-names judged leg mid frame message now same) same.named

prepared-name : (leg : LegState) (frame : FullFrame) → SameName leg (prepared leg frame) frame
prepared-name leg frame =
    let mid = acknowledged (learnt leg frame.head.source) frame.head.iseqno in
    either (λ (l : LegState). SameName leg l frame) (is_closing leg.stage && (held_count mid.window == 0))
    (staged mid stages.Ended) mid (record { named = refl; names = refl }) (record { named = refl; names = refl })

pub frame-names : (leg : LegState) (frame : FullFrame) (now : ℕ) → Names leg frame (full_step leg frame now)
frame-names leg frame now =
    let message = message_of frame.head in
    let mid = prepared leg frame in
    let same = prepared-name leg frame in
    of-full-step (Names leg frame) leg frame now refl refl
    (numbered-names leg leg frame message now (record { named = refl; names = refl }))
    (of-vnak-step (Names leg frame) (judged_acknowledgement leg.window.history frame.head.iseqno) mid frame.head.iseqno now
    same.named same.named same.named)
    (numbered-names leg mid frame message now same)

row-names : (leg : LegState) (row : Option Ordered) (now : ℕ) → (row_carried leg row now).leg.is_named ≡ leg.is_named
row-names leg None now = refl
row-names leg (Some row) now = refl

media-names : (sent : MediaSent) (leg : LegState) (octets : List ℕ) (now : ℕ)
    → (after_media sent leg octets now).is_named ≡ leg.is_named
media-names media.Quelched leg octets now = refl
media-names media.Voice leg octets now = refl
media-names (media.Mini timestamp) leg octets now = refl

pub order-names : (leg : LegState) (order : Order) (now : ℕ) → (order_carried leg order now).leg.is_named ≡ leg.is_named
order-names leg (Media octets) now = media-names (media_sent leg now) leg octets.now now
order-names leg (Doom cause) now = refl
order-names leg Paid now = refl
order-names leg (Accept format) now = row-names leg (order_row leg (Accept format)) now
order-names leg (Reject cause) now = row-names leg (order_row leg (Reject cause)) now
order-names leg (Indicate i) now = row-names leg (order_row leg (Indicate i)) now
order-names leg Answer now = row-names leg (order_row leg Answer) now
order-names leg (Dtmf digit) now = row-names leg (order_row leg (Dtmf digit)) now
order-names leg (Hangup cause) now = row-names leg (order_row leg (Hangup cause)) now

-- ---- frames of destination 0

-- the step of a full frame, by its tests
abbrev by_tests : Bool → Bool → Bool → Received → Bool → LegState → FullFrame → Message → ℕ → Step → Step
by_tests zero named numbered r early leg frame message now rest =
    cond (is_some (cond (zero && not (numbered && (not named || is_repeat r))) (Some errors.Unaddressed)
    (cond early (Some errors.NewUnacknowledged) None)))
    (nothing_sent leg)
    (cond zero (cond numbered (judged_step r leg frame message now) (nothing_sent leg)) rest)

is_zero : (leg : LegState) (frame : FullFrame) → leg.rules.is_hardened ≡ true → frame.head.destination ≡ 0
    → is_unaddressed leg frame ≡ true
is_zero leg frame hardened zero =
    ap (λ (b : Bool). b && (frame.head.destination == 0)) hardened ∙ ap (λ (n : ℕ). n == 0) zero

-- such a frame for a named leg is refused, or acknowledged
abbrev Strays : LegState → FullFrame → Received → Step → Type 0
Strays leg frame r s =
    (s.leg ≡ leg) × ((s.replies ≡ []) ⊎ (r ≡ received.Repeat) × (s.replies ≡ ack leg frame ∷ []))

strays : (zero named numbered : Bool) (r : Received) (early : Bool) (leg : LegState) (frame : FullFrame) (message : Message)
    (now : ℕ) (rest : Step) → zero ≡ true → named ≡ true
    → Strays leg frame r (by_tests zero named numbered r early leg frame message now rest)
strays true true false r early leg frame message now rest e f = (refl, inl refl)
strays true true true received.Taken early leg frame message now rest e f = (refl, inl refl)
strays true true true received.Gap early leg frame message now rest e f = (refl, inl refl)
strays true true true received.Repeat true leg frame message now rest e f = (refl, inl refl)
strays true true true received.Repeat false leg frame message now rest e f = (refl, inr (refl, refl))
strays false named numbered r early leg frame message now rest e f = cc
strays true false numbered r early leg frame message now rest e f = cc

stray : (leg : LegState) (frame : FullFrame) (now : ℕ) → leg.rules.is_hardened ≡ true → frame.head.destination ≡ 0
    → leg.is_named ≡ true
    → Strays leg frame (judged_number leg.window.history frame.head.oseqno) (full_step leg frame now)
stray leg frame now hardened zero named =
    let message = message_of frame.head in
    strays (is_unaddressed leg frame) leg.is_named (is_numbered message) (judged_number leg.window.history frame.head.oseqno)
    (is_early leg frame) leg frame message now (message_step message leg frame now) (is_zero leg frame hardened zero) named

pub stray-stays : (leg : LegState) (frame : FullFrame) (now : ℕ) → leg.rules.is_hardened ≡ true
    → frame.head.destination ≡ 0 → leg.is_named ≡ true → (full_step leg frame now).leg ≡ leg
stray-stays leg frame now hardened zero named = (stray leg frame now hardened zero named).0

pub stray-answered : (leg : LegState) (frame : FullFrame) (now : ℕ) → leg.rules.is_hardened ≡ true
    → frame.head.destination ≡ 0 → leg.is_named ≡ true
    → let s = full_step leg frame now in
    (s.replies ≡ []) ⊎ (judged_number leg.window.history frame.head.oseqno ≡ received.Repeat) ×
    (s.replies ≡ ack leg frame ∷ [])
stray-answered leg frame now hardened zero named = (stray leg frame now hardened zero named).1

bare-stays : (zero named numbered : Bool) (r : Received) (early : Bool) (leg : LegState) (frame : FullFrame)
    (message : Message) (now : ℕ) (rest : Step) → zero ≡ true → numbered ≡ false
    → by_tests zero named numbered r early leg frame message now rest ≡ nothing_sent leg
bare-stays true named false r early leg frame message now rest e f = refl
bare-stays true named true r early leg frame message now rest e f = cc
bare-stays false named numbered r early leg frame message now rest e f = cc

pub unnumbered-stays : (leg : LegState) (frame : FullFrame) (now : ℕ) → leg.rules.is_hardened ≡ true
    → frame.head.destination ≡ 0 → is_numbered (message_of frame.head) ≡ false
    → full_step leg frame now ≡ nothing_sent leg
unnumbered-stays leg frame now hardened zero bare =
    let message = message_of frame.head in
    bare-stays (is_unaddressed leg frame) leg.is_named (is_numbered message)
    (judged_number leg.window.history frame.head.oseqno) (is_early leg frame) leg frame message now
    (message_step message leg frame now) (is_zero leg frame hardened zero) bare

-- ---- acknowledgements

acked-append : (one other : List Entry) → acked_count (one ++ other) ≡ acked_count one + acked_count other
acked-append [] other = omega arith
acked-append (Sent f ∷ one) other = acked-append one other
acked-append (Taken f ∷ one) other = acked-append one other
acked-append (Acked n ∷ one) other = omega (arith, acked-append one other)

number-acks : (r : Received) (frame : Frame) → acked_count (entries_for_number r frame) ≡ 0
number-acks received.Taken frame = refl
number-acks received.Repeat frame = refl
number-acks received.Gap frame = refl

reply-acks : (reply : Option Frame) → acked_count (entries_for_reply reply) ≡ 0
reply-acks None = refl
reply-acks (Some frame) = refl

abbrev acked : LegState → ℕ
acked leg = acked_count leg.window.history

taken-acks-none : (effect : Effect) (leg : LegState) (frame : FullFrame) (message : Message) (now : ℕ)
    → acked (replied (taken_leg effect leg frame message now) now effect.answer) ≡ acked leg
taken-acks-none effect leg frame message now =
    let one = taken_leg effect leg frame message now in
    let adds = replied-adds one now effect.answer in
    let takes = taken-history effect leg frame message now in
    let judged = judged_number leg.window.history frame.head.oseqno in
    omega (
      arith,
      ap acked_count adds.1,
      acked-append one.window.history (entries_for_reply adds.0),
      reply-acks adds.0,
      ap acked_count takes,
      acked-append leg.window.history (entries_for_number judged (stored frame)),
      number-acks judged (stored frame),
    )

judged-acks : (r : Received) (leg : LegState) (frame : FullFrame) (message : Message) (now : ℕ)
    → acked (judged_step r leg frame message now).leg ≡ acked leg
judged-acks received.Taken leg frame message now =
    let effect = effect_of leg frame message in
    either (λ (s : Step). acked s.leg ≡ acked leg) (is_reply effect.answer && is_full leg.window) (no_room leg)
    (answered effect.answer (taken_leg effect leg frame message now) frame now effect.signal) refl
    (taken-acks-none effect leg frame message now)
judged-acks received.Repeat leg frame message now = refl
judged-acks received.Gap leg frame message now =
    either (λ (s : Step). acked s.leg ≡ acked leg) (wants_vnak leg now) (asking leg frame now) (not_asking leg) refl refl

pub none-acked : (leg : LegState) (frame : FullFrame) (now : ℕ) → leg.rules.is_hardened ≡ true
    → frame.head.destination ≡ 0 → acked (full_step leg frame now).leg ≡ acked leg
none-acked leg frame now hardened zero =
    let message = message_of frame.head in
    let judged = judged_number leg.window.history frame.head.oseqno in
    let P : Step → Type 0 = λ s. acked s.leg ≡ acked leg in
    either P (is_some (refusal leg frame)) (nothing_sent leg) (handled_step leg frame now) refl
    (subst (λ (b : Bool). P (cond b (numbered_step leg frame message now) (message_step message leg frame now)))
    (sym (is_zero leg frame hardened zero))
    (either P (is_numbered message) (judged_step judged leg frame message now) (nothing_sent leg)
    (judged-acks judged leg frame message now) refl))
