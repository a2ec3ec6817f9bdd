-- An order and a tick send at most one numbered frame.
use Rattle.std.specs.Prelude.{◌&&◌, nat_lt}
use Rattle.std.proofs.Common.{◌≡◌, ℕ, zero, suc, Bool, true, false, cond, List, [], ◌∷◌, ◌++◌, Option, None, Some, refl, sym, ap}
use Rattle.std.proofs.Common.{◌∙◌}
use Rattle.std.proofs.lemmas.List.{append-nil}
use Rattle.seq_window.specs.Entry.{Entry, Sent}
use Rattle.seq_window.specs.declared.judgements.Resent.{Resent}
use Rattle.seq_window.specs.declared.judgements.Resent.TheVariants as resents
use Rattle.seq_window.specs.Turn.{entries_for_reply}
use Rattle.seq_window.specs.Window.{WindowState, resent, held_count}
use Rattle.leg_machine.specs.Leg.{LegState, entered, failed, obeyed, local_room, must_end, end_failure}
use Rattle.leg_machine.specs.Media.{media_sent, after_media}
use Rattle.leg_machine.specs.OrderTable.{order_row, row_carried, order_carried, doomed, paid}
use Rattle.leg_machine.specs.Replies.{reply_frame, voice_frame}
use Rattle.call_signals.specs.Stage.{is_talking, is_ended}
use Rattle.leg_machine.specs.Tie.{SendsAtMostOne}
use Rattle.leg_machine.specs.Ticks.{Tick, quiet, sends_if, must_hang_up, must_ping, pinged, last_step, due_frames, tick_step}
use Rattle.leg_machine.specs.Ticks.{is_ping_time}
use Rattle.leg_machine.specs.Tries.{Tried, tries, one_try, after_try}
use Rattle.leg_machine.specs.Working.{agreed}
use Rattle.call_signals.specs.declared.failure.Failure.TheVariants as failures
use Rattle.leg_machine.specs.declared.media.MediaSent.{MediaSent}
use Rattle.leg_machine.specs.declared.media.MediaSent.TheVariants as media
use Rattle.call_signals.specs.Order.{Order}
use Rattle.call_signals.specs.declared.order.Command.TheVariants.{Accept, Reject, Indicate, Answer, Dtmf, Media, Hangup, Doom}
use Rattle.call_signals.specs.declared.order.Command.TheVariants.{Paid}
use Rattle.leg_machine.specs.declared.orders.Ordered.{Ordered}
use Rattle.call_signals.specs.declared.reply.ReplyFrame.{ReplyFrame}
use Rattle.call_signals.specs.declared.reply.ReplyFrame.TheVariants as replies
use Rattle.call_signals.specs.declared.stage.Stage.{Stage}
use Rattle.call_signals.specs.declared.stage.Stage.TheVariants as stages
use Rattle.leg_machine.proofs.Tied.{either}

-- nothing is sent
none : (old new : LegState) → new.window.history ≡ old.window.history → SendsAtMostOne old new
none old new e = (None, e ∙ sym (append-nil old.window.history))

pub row-sends : (leg : LegState) (row : Option Ordered) (now : ℕ) → SendsAtMostOne leg (row_carried leg row now).leg
row-sends leg None now = none leg leg refl
row-sends leg (Some row) now = (Some (reply_frame (agreed (obeyed leg row.stage now) row.reply) now row.reply), refl)

pub media-sends : (sent : MediaSent) (leg : LegState) (octets : List ℕ) (now : ℕ)
    → SendsAtMostOne leg (after_media sent leg octets now)
media-sends media.Quelched leg octets now = none leg leg refl
media-sends media.Voice leg octets now = (Some (voice_frame leg now octets), refl)
media-sends (media.Mini timestamp) leg octets now = none leg leg refl

pub order-sends : (leg : LegState) (order : Order) (now : ℕ) → SendsAtMostOne leg (order_carried leg order now).leg
order-sends leg (Media octets) now = media-sends (media_sent leg now) leg octets.now now
order-sends leg (Doom cause) now = none leg (doomed leg cause) refl
order-sends leg Paid now = none leg (paid leg) refl
order-sends leg (Accept format) now = row-sends leg (order_row leg (Accept format)) now
order-sends leg (Reject cause) now = row-sends leg (order_row leg (Reject cause)) now
order-sends leg (Indicate i) now = row-sends leg (order_row leg (Indicate i)) now
order-sends leg Answer now = row-sends leg (order_row leg Answer) now
order-sends leg (Dtmf digit) now = row-sends leg (order_row leg (Dtmf digit)) now
order-sends leg (Hangup cause) now = row-sends leg (order_row leg (Hangup cause)) now

-- ---- a tick

-- tries change neither the stage nor the record
pub record Kept (old new : LegState) : Type 0 where
  pub stage : new.stage ≡ old.stage
  pub history : new.window.history ≡ old.window.history

kept-try : (r : Resent) (leg : LegState) (now : ℕ) (rest : LegState → Tried) → ((l : LegState) → Kept l (rest l).leg)
    → Kept leg (one_try r leg now rest).leg
kept-try resents.Nothing leg now rest kept = record { stage = refl; history = refl }
kept-try resents.Spent leg now rest kept = record { stage = refl; history = refl }
kept-try (resents.Again place) leg now rest kept =
    let later = kept (after_try leg now place) in
    record { stage = (kept (after_try leg place now)).stage; history = (kept (after_try leg place now)).history }

pub kept-tries : (turns : ℕ) (leg : LegState) (now : ℕ) → Kept leg (tries turns leg now).leg
kept-tries zero leg now = record { stage = refl; history = refl }
kept-tries (suc turns) leg now =
    kept-try (resent leg.window now leg.rules.retry_ms leg.rules.max_retries) leg now (λ l. tries turns l now)
    (λ l. kept-tries turns l now)

sends-if : (grown : Bool) (leg changed : LegState) (now : ℕ) (reply : ReplyFrame) → changed.window ≡ leg.window
    → SendsAtMostOne leg (sends_if grown leg changed now reply).leg
sends-if true leg changed now reply e =
    (Some (reply_frame changed now reply), ap (λ (w : WindowState). w.history ++ Sent (reply_frame changed now reply) ∷ []) e)
sends-if false leg changed now reply e = none leg leg refl

-- a frame sent later is sent
later : (leg mid new : LegState) → mid.window.history ≡ leg.window.history → SendsAtMostOne mid new → SendsAtMostOne leg new
later leg mid new e s = (s.0, s.1 ∙ ap (λ (h : List Entry). h ++ entries_for_reply s.0) e)

-- a closing leg sends no PING
pub no-ping : (leg : LegState) (now : ℕ) → leg.stage ≡ stages.Closing → must_ping leg now ≡ false
no-ping leg now e =
    ap (λ (s : Stage). is_talking s && nat_lt (held_count leg.window) (local_room leg.window.width) && is_ping_time leg now) e

pub last-none : (grown spent : Bool) (leg : LegState) (now : ℕ) → leg.stage ≡ stages.Closing
    → (last_step grown spent leg now).leg.window.history ≡ leg.window.history
last-none grown true leg now e = refl
last-none grown false leg now e =
    ap (λ (b : Bool). (cond b (sends_if grown leg (pinged leg now) now replies.Ping) (quiet leg)).leg.window.history)
    (no-ping leg now e)

last-sends : (grown spent : Bool) (leg : LegState) (now : ℕ) → SendsAtMostOne leg (last_step grown spent leg now).leg
last-sends grown true leg now = none leg (failed leg failures.RetriesSpent now) refl
last-sends grown false leg now =
    either (λ (t : Tick). SendsAtMostOne leg t.leg) (must_ping leg now) (sends_if grown leg (pinged leg now) now replies.Ping)
    (quiet leg)
    (sends-if grown leg (pinged leg now) now replies.Ping refl) (none leg leg refl)

-- a tick whose doomed leg had memory, and one whose hadn't
hung-sends : (grown : Bool) (leg : LegState) (now : ℕ)
    → let hung = sends_if grown leg (entered leg stages.Closing now) now (replies.Hangup leg.cause) in
    let tried = tries (held_count leg.window) hung.leg now in
    SendsAtMostOne leg (last_step grown tried.spent tried.leg now).leg
hung-sends true leg now =
    let hung = sends_if true leg (entered leg stages.Closing now) now (replies.Hangup leg.cause) in
    let tried = tries (held_count leg.window) hung.leg now in
    let kept = kept-tries (held_count leg.window) hung.leg now in (
      Some (reply_frame (entered leg stages.Closing now) now (replies.Hangup leg.cause)),
      last-none true tried.spent tried.leg now
          kept.stage ∙ kept.history,
    )
hung-sends false leg now =
    let tried = tries (held_count leg.window) leg now in
    let kept = kept-tries (held_count leg.window) leg now in
    later leg tried.leg (last_step false tried.spent tried.leg now).leg kept.history (last-sends false tried.spent tried.leg now)

due-sends : (grown : Bool) (leg : LegState) (now : ℕ) → SendsAtMostOne leg (due_frames grown leg now).leg
due-sends grown leg now =
    let tried = tries (held_count leg.window) leg now in
    let kept = kept-tries (held_count leg.window) leg now in
    either (λ (hung : Tick). let after = tries (held_count leg.window) hung.leg now in SendsAtMostOne leg
    (last_step grown after.spent after.leg now).leg)
    (must_hang_up leg) (sends_if grown leg (entered leg stages.Closing now) now (replies.Hangup leg.cause)) (quiet leg)
    (hung-sends grown leg now) (later leg tried.leg (last_step grown tried.spent tried.leg now).leg kept.history
    (last-sends grown tried.spent tried.leg now))

pub tick-sends : (grown : Bool) (leg : LegState) (now : ℕ) → SendsAtMostOne leg (tick_step grown leg now).leg
tick-sends grown leg now =
    either (λ (t : Tick). SendsAtMostOne leg t.leg) (is_ended leg.stage) (quiet leg) _ (none leg leg refl)
    (either (λ (t : Tick). SendsAtMostOne leg t.leg) (must_end leg now) (quiet (failed leg (end_failure leg) now))
    (due_frames grown leg now)
    (none leg (failed leg (end_failure leg) now) refl) (due-sends grown leg now))
