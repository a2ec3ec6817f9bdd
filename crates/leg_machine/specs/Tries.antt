-- The tries of a tick ("Message Transport": retransmission).
use Rattle.std.specs.Prelude.{◌≡◌, ◌⊎◌, ℕ, zero, suc, ◌++◌, option_map, Bool, true, false, List, [], All}
use Rattle.std.specs.Option.{option_to_list}
use Rattle.iax_frames.specs.FullFrame.{FullFrame}
use Rattle.seq_window.specs.declared.judgements.Resent.{Resent}
use Rattle.seq_window.specs.declared.judgements.Resent.TheVariants as resents
use Rattle.seq_window.specs.Window.{held_at, is_due, resent, after_marking}
use Rattle.leg_machine.specs.Leg.{LegState, resent_by, with_window}
use Rattle.leg_machine.specs.Replies.{sent_again}

-- the result of the tries of one tick; spent: a frame that is due has had all its tries
pub record Tried : Type 0 where
  pub leg : LegState
  pub replies : List FullFrame
  pub spent : Bool

abbrev pub tried : LegState → Bool → Tried
tried leg spent = record { leg = leg; replies = []; spent = spent }

-- the held frame at a place is retransmitted, and counted
abbrev pub after_try : LegState → ℕ → ℕ → LegState
after_try leg place now = resent_by (with_window leg (after_marking leg.window place now)) 1

-- the held frame at a place as it is retransmitted
abbrev pub frames_again : LegState → ℕ → List FullFrame
frames_again leg place = option_to_list (option_map (sent_again leg) (held_at leg.window place))

abbrev pub one_try : Resent → LegState → ℕ → (LegState → Tried) → Tried
one_try resents.Nothing leg now rest = tried leg false
one_try resents.Spent leg now rest = tried leg true
one_try (resents.Again place) leg now rest =
    let later = rest (after_try leg place now) in
    record { leg = later.leg; replies = frames_again (after_try leg place now) place ++ later.replies; spent = later.spent }

-- The first held frame that is due is retransmitted, until none is due or one is spent, in at most this many turns.
abbrev pub tries : ℕ → LegState → ℕ → Tried
tries zero leg now = tried leg false
tries (suc turns) leg now =
    one_try (resent leg.window now leg.rules.retry_ms leg.rules.max_retries) leg now (λ l. tries turns l now)

-- no held frame is due
abbrev pub NoneDue : LegState → ℕ → Type 0
NoneDue leg now = All (λ s. is_due now leg.rules.retry_ms s ≡ false) leg.window.sendings

-- the tries of a moment are done: one frame is spent, or none is due any more
abbrev pub IsFinished : Tried → ℕ → Type 0
IsFinished tried now = (tried.spent ≡ true) ⊎ NoneDue tried.leg now
