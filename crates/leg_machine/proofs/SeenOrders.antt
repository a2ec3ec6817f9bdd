-- The part of a leg that callers at once see, when it gets an order.
use Rattle.std.specs.Prelude.{◌↔◌, ◌&&◌, not, nat_le, OnOk, IfErr, Result, Ok, Err}
use Rattle.std.proofs.Common.{◌≡◌, ℕ, Bool, true, false, cond, List, Option, None, Some, refl, ap, ◌∙◌}
use Rattle.seq_window.specs.Window.{held_count}
use Rattle.leg_machine.specs.Leg.{LegState, is_record_full}
use Rattle.leg_machine.specs.Media.{media_sent, after_media}
use Rattle.leg_machine.specs.OrderTable.{when, refuses_digits, row_refused, row_carried, order_refused, order_carried}
use Rattle.leg_machine.specs.OrderTable.{media_refused, media_refused_as, sending_refused, IsRefusal}
use Rattle.leg_machine.specs.Seen.{seen, moved, ordered, kind_of, stage_after, stage_ordered, IsSeenOrder}
use Rattle.call_signals.specs.Stage.{is_offered, is_linked, is_talking, is_over}
use Rattle.call_signals.specs.declared.cause.Cause.{Cause}
use Rattle.call_signals.specs.declared.format.Format.{Format}
use Rattle.leg_machine.specs.declared.media.MediaSent.{MediaSent}
use Rattle.leg_machine.specs.declared.media.MediaSent.TheVariants as media
use Rattle.call_signals.specs.Order.{Kind, Order}
use Rattle.call_signals.specs.declared.order.Command.TheVariants as commands
use Rattle.call_signals.specs.declared.order.OrderError.{OrderError}
use Rattle.call_signals.specs.declared.order.OrderError.TheVariants as errors
use Rattle.leg_machine.specs.declared.orders.Ordered.{Ordered}
use Rattle.call_signals.specs.declared.signal.Indication.{Indication}
use Rattle.call_signals.specs.declared.stage.Stage.{Stage}
use Rattle.call_signals.specs.declared.stage.Stage.TheVariants as stages
use Rattle.leg_machine.proofs.SeenFrames.{moved-same}
use Rattle.leg_machine.proofs.Tied.{either, either_by}

-- ---- the stages of each order

-- at a right stage the order leads there, otherwise nowhere
abbrev LeadsTo : Kind → Stage → Bool → Stage → Type 0
LeadsTo kind stage right there = stage_after kind stage ≡ cond right (Some there) None

accept : (format : Format) (s : Stage) → LeadsTo (commands.Accept format) s (is_offered s) stages.Linked
accept format stages.Offered = refl
accept format _ = refl

reject : (cause : Cause) (s : Stage) → LeadsTo (commands.Reject cause) s (is_offered s) stages.Closing
reject cause stages.Offered = refl
reject cause _ = refl

indicate : (indication : Indication) (s : Stage) → LeadsTo (commands.Indicate indication) s (is_linked s) stages.Linked
indicate indication stages.Linked = refl
indicate indication _ = refl

answer : (s : Stage) → LeadsTo commands.Answer s (is_linked s) stages.Up
answer stages.Linked = refl
answer _ = refl

dtmf : (digit : ℕ) (s : Stage) → LeadsTo (commands.Dtmf digit) s (is_talking s) s
dtmf digit stages.Linked = refl
dtmf digit stages.Up = refl
dtmf digit _ = refl

media-stage : (s : Stage) → LeadsTo (commands.Media tt) s (is_talking s) s
media-stage stages.Linked = refl
media-stage stages.Up = refl
media-stage _ = refl

hangup : (cause : Cause) (s : Stage) → LeadsTo (commands.Hangup cause) s (not (is_over s)) stages.Closing
hangup cause stages.Closing = refl
hangup cause stages.Ended = refl
hangup cause _ = refl

-- ---- the leg after an order

row-seen : (leg : LegState) (kind : Kind) (right : Bool) (row : Ordered) (now : ℕ) → LeadsTo kind leg.stage right row.stage
    → moved (seen leg) row.stage ≡ ordered kind (seen leg) row.stage → row_refused leg (when right row) ≡ None
    → IsSeenOrder kind (seen leg) (seen (row_carried leg (when right row) now).leg)
row-seen leg kind true row now leads moves unrefused = (row.stage, leads, moves)
row-seen leg kind false row now leads moves unrefused = cc

-- a digit is sent if the leg talks and doesn't refuse it
digit-seen : (leg : LegState) (digit : ℕ) (talks refuses : Bool) (row : Ordered) (now : ℕ)
    → LeadsTo (commands.Dtmf digit) leg.stage talks row.stage
    → row_refused leg (when (talks && not refuses) row) ≡ None
    → moved (seen leg) row.stage ≡ ordered (commands.Dtmf digit) (seen leg) row.stage
    → IsSeenOrder (commands.Dtmf digit) (seen leg) (seen (row_carried leg (when (talks && not refuses) row) now).leg)
digit-seen leg digit true false row now leads unrefused moves =
    row-seen leg (commands.Dtmf digit) true row now leads moves unrefused
digit-seen leg digit true true row now leads unrefused moves = cc
digit-seen leg digit false refuses row now leads unrefused moves = cc

seen-media : (sent : MediaSent) (leg : LegState) (octets : List ℕ) (now : ℕ) → seen (after_media sent leg octets now) ≡ seen leg
seen-media media.Quelched leg octets now = refl
seen-media media.Voice leg octets now = refl
seen-media (media.Mini timestamp) leg octets now = refl

-- a talking leg gets media, and callers see no change
pub talking-seen : (old new : LegState) → is_talking old.stage ≡ true → seen new ≡ seen old
    → IsSeenOrder (commands.Media tt) (seen old) (seen new)
talking-seen old new talks same = (
  old.stage,
  media-stage old.stage ∙ ap (λ (b : Bool). cond b (Some old.stage) None) talks,
  same ∙ moved-same (seen old),
)

pub media-seen : (leg : LegState) (octets : List ℕ) (now : ℕ) → media_refused leg now ≡ None
    → IsSeenOrder (commands.Media tt) (seen leg) (seen (after_media (media_sent leg now) leg octets now))
media-seen leg octets now =
    let new = after_media (media_sent leg now) leg octets now in
    either_by (λ (refusal : Option OrderError). refusal ≡ None → IsSeenOrder (commands.Media tt) (seen leg) (seen new))
    (is_talking leg.stage) (media_refused_as (media_sent leg now) leg) (Some errors.WrongStage)
    (λ talks unrefused. talking-seen leg new talks (seen-media (media_sent leg now) leg octets now))
    (λ talks unrefused. cc)

pub order-seen : (leg : LegState) (order : Order) (now : ℕ) → order_refused leg order now ≡ None
    → IsSeenOrder (kind_of order) (seen leg) (seen (order_carried leg order now).leg)
order-seen leg (commands.Accept format) now unrefused = row-seen leg (commands.Accept format) (is_offered leg.stage) _ now
    (accept format leg.stage) refl unrefused
order-seen leg (commands.Reject cause) now unrefused = row-seen leg (commands.Reject cause) (is_offered leg.stage) _ now
    (reject cause leg.stage) refl unrefused
order-seen leg (commands.Indicate i) now unrefused = row-seen leg (commands.Indicate i) (is_linked leg.stage) _ now
    (indicate i leg.stage) refl unrefused
order-seen leg commands.Answer now unrefused = row-seen leg commands.Answer (is_linked leg.stage) _ now (answer leg.stage) refl
    unrefused
order-seen leg (commands.Dtmf digit) now unrefused = digit-seen leg digit (is_talking leg.stage) (refuses_digits leg) _ now
    (dtmf digit leg.stage) unrefused refl
order-seen leg (commands.Media octets) now unrefused = media-seen leg octets.now now unrefused
order-seen leg (commands.Hangup cause) now unrefused = row-seen leg (commands.Hangup cause) (not (is_over leg.stage)) _ now
    (hangup cause leg.stage) refl unrefused
order-seen leg (commands.Doom cause) now unrefused = (leg.stage, refl, refl)
order-seen leg commands.Paid now unrefused = (leg.stage, refl, refl)

-- ---- the wrong stage

-- refused for the stage if and only if the order leads nowhere
abbrev WrongTogether : Option OrderError → Option Stage → Type 0
WrongTogether refusal there = (refusal ≡ Some errors.WrongStage) ↔ (there ≡ None)

sending-right : (leg : LegState) (most : ℕ) → sending_refused leg most ≡ Some errors.WrongStage → ⊥
sending-right leg most =
    either (λ (r : Option OrderError). r ≡ Some errors.WrongStage → ⊥) (nat_le most (held_count leg.window))
    (Some errors.WindowFull)
    (cond (is_record_full leg) (Some errors.RecordFull) None) (λ e. cc)
    (either (λ (r : Option OrderError). r ≡ Some errors.WrongStage → ⊥) (is_record_full leg) (Some errors.RecordFull) None
    (λ e. cc) (λ e. cc))

row-wrong : (leg : LegState) (kind : Kind) (right : Bool) (row : Ordered) → LeadsTo kind leg.stage right row.stage
    → WrongTogether (row_refused leg (when right row)) (stage_after kind leg.stage)
row-wrong leg kind true row leads = (λ e. absurd (sending-right leg row.most e), λ e. cc)
row-wrong leg kind false row leads = (λ e. leads, λ e. refl)

media-right : (sent : MediaSent) (leg : LegState) → media_refused_as sent leg ≡ Some errors.WrongStage → ⊥
media-right media.Quelched leg e = cc
media-right media.Voice leg e = sending-right leg _ e
media-right (media.Mini timestamp) leg e = cc

pub media-wrong : (leg : LegState) (now : ℕ) → WrongTogether (media_refused leg now) (stage_after (commands.Media tt) leg.stage)
media-wrong leg now =
    either_by (λ (refusal : Option OrderError). WrongTogether refusal (stage_after (commands.Media tt) leg.stage))
    (is_talking leg.stage)
    (media_refused_as (media_sent leg now) leg) (Some errors.WrongStage)
    (λ talks.
    let leads = media-stage leg.stage ∙ ap (λ (b : Bool). cond b (Some leg.stage) None) talks in
    (λ e. absurd (media-right (media_sent leg now) leg e), λ e. cc))
    (λ talks. (λ e. media-stage leg.stage ∙ ap (λ (b : Bool). cond b (Some leg.stage) None) talks, λ e. refl))

digit-wrong : (leg : LegState) (digit : ℕ) (talks refuses : Bool) (row : Ordered) → LeadsTo (commands.Dtmf digit) leg.stage talks
    row.stage
    → WrongTogether (row_refused leg (when (talks && not refuses) row))
    (cond refuses None (stage_after (commands.Dtmf digit) leg.stage))
digit-wrong leg digit true false row leads = row-wrong leg (commands.Dtmf digit) true row leads
digit-wrong leg digit true true row leads = (λ e. refl, λ e. refl)
digit-wrong leg digit false false row leads = row-wrong leg (commands.Dtmf digit) false row leads
digit-wrong leg digit false true row leads = (λ e. refl, λ e. refl)

pub order-wrong : (leg : LegState) (order : Order) (now : ℕ) → WrongTogether (order_refused leg order now)
    (stage_ordered leg (kind_of order))
order-wrong leg (commands.Accept format) now = row-wrong leg (commands.Accept format) (is_offered leg.stage) _
    (accept format leg.stage)
order-wrong leg (commands.Reject cause) now = row-wrong leg (commands.Reject cause) (is_offered leg.stage) _
    (reject cause leg.stage)
order-wrong leg (commands.Indicate i) now = row-wrong leg (commands.Indicate i) (is_linked leg.stage) _ (indicate i leg.stage)
order-wrong leg commands.Answer now = row-wrong leg commands.Answer (is_linked leg.stage) _ (answer leg.stage)
order-wrong leg (commands.Dtmf digit) now = digit-wrong leg digit (is_talking leg.stage) (refuses_digits leg) _
    (dtmf digit leg.stage)
order-wrong leg (commands.Media octets) now = media-wrong leg now
order-wrong leg (commands.Hangup cause) now = row-wrong leg (commands.Hangup cause) (not (is_over leg.stage)) _
    (hangup cause leg.stage)
order-wrong leg (commands.Doom cause) now = (λ e. cc, λ e. cc)
order-wrong leg commands.Paid now = (λ e. cc, λ e. cc)

-- ---- the answers of calls

-- the returned refusal is the one that is due
pub answered-wrong : {A : Type 0} (result : Result A OrderError) (refusal : Option OrderError) (there : Option Stage)
    → WrongTogether refusal there
    → OnOk result (refusal ≡ None) → IfErr result (IsRefusal refusal) → (result ≡ Err errors.WrongStage) ↔ (there ≡ None)
answered-wrong (Ok x) refusal there wrong unrefused refused = (λ e. cc, λ e. let w = wrong.1 e in cc)
answered-wrong (Err e) (Some due) there wrong unrefused refused = (λ h. wrong.0 cc, λ h. let w = wrong.1 h in cc)
answered-wrong (Err e) None there wrong unrefused refused = (λ h. cc, λ h. let w = wrong.1 h in cc)

-- if none is due, the order was carried out
pub answered-seen : {A : Type 0} (result : Result A OrderError) (kind : Kind) (old step new : LegState)
    (refusal : Option OrderError)
    → (refusal ≡ None → IsSeenOrder kind (seen old) (seen step)) → OnOk result (new ≡ step) → OnOk result (refusal ≡ None)
    → OnOk result (IsSeenOrder kind (seen old) (seen new))
answered-seen (Ok x) kind old step new refusal law leg unrefused =
    let s = law unrefused in
    (s.0, s.1, ap seen leg ∙ s.2)
answered-seen (Err e) kind old step new refusal law leg unrefused = tt
