-- The effect of a tick on a leg ("Message Transport": retransmission; "PING").
use Rattle.std.specs.Prelude.{ℕ, ◌+◌, not, nat_lt, nat_le, ◌==◌, ◌&&◌, ◌||◌, Bool, false, is_none, List, [], ◌∷◌, ◌++◌}
use Rattle.std.specs.Prelude.{if◌then◌else◌}
use Rattle.iax_frames.specs.FullFrame.{FullFrame}
use Rattle.seq_window.specs.Window.{held_count, is_full, first_due}
use Rattle.leg_machine.specs.Leg.{LegState, entered, failed, local_room, must_end, end_failure}
use Rattle.leg_machine.specs.Replies.{reply_frame, outgoing, next_byte}
use Rattle.call_signals.specs.Stage.{is_over, is_talking, is_ended}
use Rattle.leg_machine.specs.Tries.{tries}
use Rattle.leg_machine.specs.Working.{sent}
use Rattle.call_signals.specs.declared.failure.Failure.TheVariants as failures
use Rattle.call_signals.specs.declared.reply.ReplyFrame.{ReplyFrame}
use Rattle.call_signals.specs.declared.reply.ReplyFrame.TheVariants.{Hangup, Ping}
use Rattle.call_signals.specs.declared.stage.Stage.TheVariants as stages

-- the result of a tick; skipped: the number of frames that were due and had no memory
pub record Tick : Type 0 where
  pub leg : LegState
  pub replies : List FullFrame
  pub skipped : ℕ

abbrev pub quiet : LegState → Tick
quiet leg = record { leg = leg; replies = []; skipped = 0 }

-- the leg, changed, sends a frame if there was memory; otherwise nothing changes
abbrev pub sends_if : Bool → LegState → LegState → ℕ → ReplyFrame → Tick
sends_if grown leg changed now reply =
    if grown
    then record {
      leg = sent changed (reply_frame changed now reply) now;
      replies = outgoing changed false (next_byte changed) (reply_frame changed now reply) ∷ [];
      skipped = 0;
    }
    else record { leg = leg; replies = []; skipped = 1 }

-- ---- a doomed leg

abbrev pub must_hang_up : LegState → Bool
must_hang_up leg = leg.doomed && not (is_over leg.stage) && not (is_full leg.window)

abbrev pub hang_up_step : Bool → LegState → ℕ → Tick
hang_up_step grown leg now =
    if must_hang_up leg then sends_if grown leg (entered leg stages.Closing now) now (Hangup leg.cause) else quiet leg

-- ---- PING

-- the time since the last PING, or since the opening, is over
abbrev pub is_ping_time : LegState → ℕ → Bool
is_ping_time leg now = not (leg.rules.ping_ms == 0) && nat_le (leg.pinged + leg.rules.ping_ms) now

abbrev pub must_ping : LegState → ℕ → Bool
must_ping leg now =
    is_talking leg.stage && nat_lt (held_count leg.window) (local_room leg.window.width) && is_ping_time leg now

abbrev pub pinged : LegState → ℕ → LegState
pinged leg now = record leg { pinged = now }

abbrev pub ping_step : Bool → LegState → ℕ → Tick
ping_step grown leg now = if must_ping leg now then sends_if grown leg (pinged leg now) now Ping else quiet leg

-- ---- the tick

-- after the tries: a spent frame ends the leg and stops the tick
abbrev pub last_step : Bool → Bool → LegState → ℕ → Tick
last_step grown spent leg now = if spent then quiet (failed leg failures.RetriesSpent now) else ping_step grown leg now

-- The doomed leg hangs up, then held frames that are due are retransmitted, then a PING that is due is sent.
-- grown: there was memory for one more frame
abbrev pub due_frames : Bool → LegState → ℕ → Tick
due_frames grown leg now =
    let hung = hang_up_step grown leg now in
    let tried = tries (held_count leg.window) hung.leg now in
    let last = last_step grown tried.spent tried.leg now in
    record { leg = last.leg; replies = hung.replies ++ tried.replies ++ last.replies; skipped = hung.skipped + last.skipped }

-- an ended leg does nothing, and one whose record is full or whose challenge wasn't answered in time ends
abbrev pub tick_step : Bool → LegState → ℕ → Tick
tick_step grown leg now =
    if is_ended leg.stage then quiet leg
    else if must_end leg now then quiet (failed leg (end_failure leg) now)
    else due_frames grown leg now

-- ---- idleness

-- no held frame is due
abbrev pub is_none_due : LegState → ℕ → Bool
is_none_due leg now = is_none (first_due now leg.rules.retry_ms leg.window.sendings)

-- A tick has no work: the leg has ended, or it needn't end or hang up, and neither a held frame nor a PING is due.
abbrev pub is_idle : LegState → ℕ → Bool
is_idle leg now =
    is_ended leg.stage
    || (not (must_end leg now) && not (must_hang_up leg) && is_none_due leg now && not (must_ping leg now))
