-- A step of a leg keeps the leg's rules and its numbers: its own always, the other side's once it is known.
use Rattle.std.specs.Prelude.{is_some}
use Rattle.std.proofs.Common.{◌≡◌, ℕ, zero, suc, ◌⊎◌, inl, inr, Bool, true, false, ◌&&◌, ◌==◌, cond, if◌then◌else◌, List, Option}
use Rattle.std.proofs.Common.{Some, None, unwrap_or, refl, ◌∙◌}
use Rattle.iax_frames.specs.FullFrame.{FullFrame}
use Rattle.seq_window.specs.declared.judgements.Acknowledged.{Acknowledged}
use Rattle.seq_window.specs.declared.judgements.Received.{Received}
use Rattle.seq_window.specs.declared.judgements.Received.TheVariants as received
use Rattle.seq_window.specs.declared.judgements.Resent.{Resent}
use Rattle.seq_window.specs.declared.judgements.Resent.TheVariants as resents
use Rattle.seq_window.specs.Window.{held_count, judged_acknowledgement}
use Rattle.leg_machine.specs.Effects.{marked}
use Rattle.leg_machine.specs.LegTable.{effect_of}
use Rattle.leg_machine.specs.Leg.{LegState, entered, staged, failed, must_end, end_failure}
use Rattle.leg_machine.specs.Media.{after_media, media_sent}
use Rattle.leg_machine.specs.Message.{message_of, is_inval, is_vnak}
use Rattle.leg_machine.specs.OrderTable.{order_row, row_carried, order_carried}
use Rattle.leg_machine.specs.Steps.{Step, nothing_sent, answer_step, oldest_step, invalidated, resend_step, taken, replied}
use Rattle.leg_machine.specs.Steps.{taken_step, asking, not_asking, judged_step, numbered_step, vnak_step, prepared, inval_step}
use Rattle.leg_machine.specs.Steps.{message_step, handled_step, full_step}
use Rattle.leg_machine.specs.Stage.{is_closing, is_ended}
use Rattle.leg_machine.specs.Ticks.{Tick, quiet, hang_up_step, ping_step, last_step, due_frames, tick_step}
use Rattle.leg_machine.specs.Tries.{Tried, tries, one_try, after_try}
use Rattle.leg_machine.specs.Working.{learnt, settled, acknowledged, counts, wants_vnak, end_noted, brings_nothing, brings_oldest}
use Rattle.leg_machine.specs.Working.{vnak_noted, heeds_inval, is_unaddressed, refusal}
use Rattle.call_signals.specs.declared.effects.Answering.{Answering}
use Rattle.call_signals.specs.declared.effects.Answering.TheVariants.{Acknowledged as Acks, Answered, Silent}
use Rattle.call_signals.specs.declared.effects.Effect.{Effect}
use Rattle.call_signals.specs.declared.effects.Mark.{Mark}
use Rattle.call_signals.specs.declared.effects.Mark.TheVariants.{Nothing, Quelches, Unquelches, Authenticates}
use Rattle.call_signals.specs.declared.message.Message.{Message}
use Rattle.leg_machine.specs.declared.media.MediaSent.{MediaSent}
use Rattle.leg_machine.specs.declared.media.MediaSent.TheVariants.{Quelched, Voice, Mini}
use Rattle.call_signals.specs.Order.{Order}
use Rattle.call_signals.specs.declared.order.Command.TheVariants as commands
use Rattle.leg_machine.specs.declared.orders.Ordered.{Ordered}
use Rattle.call_signals.specs.declared.stage.Stage.TheVariants.{Ended}

-- the rules are as before, and the window is as wide and the record as long as it was
pub record KeepsRules (old new : LegState) : Type 0 where
  pub rules : new.rules ≡ old.rules
  pub width : new.window.width ≡ old.window.width
  pub limit : new.window.limit ≡ old.window.limit

-- the same call: both numbers and the rules are as before
pub record IsSameCall (old new : LegState) : Type 0 where
  pub number : new.number ≡ old.number
  pub remote : new.remote ≡ old.remote
  pub ruled : KeepsRules old new

-- the same call, in which the other side's number may have been learnt from this source
pub record MayLearn (source : ℕ) (old new : LegState) : Type 0 where
  pub number : new.number ≡ old.number
  pub remote : (new.remote ≡ old.remote) ⊎ (new.remote ≡ Some (unwrap_or old.remote source))
  pub ruled : KeepsRules old new

-- a property of both holds for the chosen one
chosen : {A : Type 0} (P : A → Type 0) (b : Bool) (x y : A) → P x → P y → P (cond b x y)
chosen P true x y first second = first
chosen P false x y first second = second

pub same : (leg : LegState) → IsSameCall leg leg
same leg = record { number = refl; remote = refl; ruled = record { rules = refl; width = refl; limit = refl } }

both_same : (old middle new : LegState) → IsSameCall old middle → IsSameCall middle new → IsSameCall old new
both_same old middle new first second = record {
  number = second.number ∙ first.number;
  remote = second.remote ∙ first.remote;
  ruled = record {
    rules = second.ruled.rules ∙ first.ruled.rules;
    width = second.ruled.width ∙ first.ruled.width;
    limit = second.ruled.limit ∙ first.ruled.limit;
  };
}

-- ---- a full frame

same_marked : (leg : LegState) (mark : Mark) → IsSameCall leg (marked leg mark)
same_marked leg Nothing = record { number = refl; remote = refl; ruled = record { rules = refl; width = refl; limit = refl } }
same_marked leg Quelches = record { number = refl; remote = refl; ruled = record { rules = refl; width = refl; limit = refl } }
same_marked leg Unquelches = record { number = refl; remote = refl; ruled = record { rules = refl; width = refl; limit = refl } }
same_marked leg Authenticates = record {
  number = refl;
  remote = refl;
  ruled = record {
    rules = refl;
    width = refl;
    limit = refl;
  };
}

same_taken : (effect : Effect) (leg : LegState) (frame : FullFrame) (message : Message) (now : ℕ)
    → IsSameCall leg (taken effect leg frame message now)
same_taken effect leg frame message now =
    let marks = same_marked (entered (end_noted leg effect.stage frame message) effect.stage now) effect.mark in
    record {
      number = marks.number;
      remote = marks.remote;
      ruled = record {
        rules = marks.ruled.rules;
        width = marks.ruled.width;
        limit = marks.ruled.limit;
      };
    }

same_replied : (leg : LegState) (now : ℕ) (answer : Answering) → IsSameCall leg (replied leg now answer)
same_replied leg now (Answered reply) = record {
  number = refl;
  remote = refl;
  ruled = record {
    rules = refl;
    width = refl;
    limit = refl;
  };
}
same_replied leg now Acks = same leg
same_replied leg now Silent = same leg

same_taken_step : (effect : Effect) (leg : LegState) (frame : FullFrame) (message : Message) (now : ℕ)
    → IsSameCall leg (taken_step effect leg frame message now).leg
same_taken_step effect leg frame message now =
    chosen (λ (s : Step). IsSameCall leg s.leg) _ _ _ (same leg)
    (both_same leg (taken effect leg frame message now) _ (same_taken effect leg frame message now)
    (same_replied (taken effect leg frame message now) now effect.answer))

same_judged : (judged : Received) (leg : LegState) (frame : FullFrame) (message : Message) (now : ℕ)
    → IsSameCall leg (judged_step judged leg frame message now).leg
same_judged received.Taken leg frame message now = same_taken_step (effect_of leg frame message) leg frame message now
same_judged received.Repeat leg frame message now = same leg
same_judged received.Gap leg frame message now =
    chosen (λ (s : Step). IsSameCall leg s.leg) (wants_vnak leg now) (asking leg frame now) (not_asking leg)
    (record { number = refl; remote = refl; ruled = record { rules = refl; width = refl; limit = refl } }) (same leg)

same_numbered : (leg : LegState) (frame : FullFrame) (message : Message) (now : ℕ)
    → IsSameCall leg (numbered_step leg frame message now).leg
same_numbered leg frame message now =
    chosen (λ (s : Step). IsSameCall leg s.leg) _ _ _ (same_judged _ leg frame message now) (same leg)

same_vnak : (judged : Acknowledged) (leg : LegState) (number now : ℕ) → IsSameCall leg (vnak_step judged leg number now).leg
same_vnak judged leg number now =
    let noted = vnak_noted leg number now in
    chosen (λ (s : Step). IsSameCall leg s.leg) (counts judged) (answer_step leg number now) (nothing_sent leg)
    (chosen (λ (s : Step). IsSameCall leg s.leg) (brings_nothing leg number now) (nothing_sent leg)
    (cond (brings_oldest leg now) (oldest_step noted now) (resend_step noted now)) (same leg)
    (chosen (λ (s : Step). IsSameCall leg s.leg) (brings_oldest leg now) (oldest_step noted now) (resend_step noted now)
    (record { number = refl; remote = refl; ruled = record { rules = refl; width = refl; limit = refl } })
    (record { number = refl; remote = refl; ruled = record { rules = refl; width = refl; limit = refl } })))
    (same leg)

same_settled : (leg : LegState) → IsSameCall leg (settled leg)
same_settled leg = chosen (IsSameCall leg) (is_closing leg.stage && (held_count leg.window == 0)) (staged leg Ended) leg
    (record { number = refl; remote = refl; ruled = record { rules = refl; width = refl; limit = refl } }) (same leg)

same_prepared : (leg : LegState) (frame : FullFrame) → IsSameCall (learnt leg frame.head.source) (prepared leg frame)
same_prepared leg frame =
    let judged = same_settled (acknowledged (learnt leg frame.head.source) frame.head.iseqno) in
    record {
      number = judged.number;
      remote = judged.remote;
      ruled = record {
        rules = judged.ruled.rules;
        width = judged.ruled.width;
        limit = judged.ruled.limit;
      };
    }

abbrev taught_step : Message → LegState → FullFrame → ℕ → Step
taught_step message leg frame now =
    if is_vnak message
    then vnak_step (judged_acknowledgement leg.window.history frame.head.iseqno) (prepared leg frame) frame.head.iseqno now
    else numbered_step (prepared leg frame) frame message now

same_taught : (message : Message) (leg : LegState) (frame : FullFrame) (now : ℕ)
    → IsSameCall (prepared leg frame) (taught_step message leg frame now).leg
same_taught message leg frame now =
    let judged = judged_acknowledgement leg.window.history frame.head.iseqno in
    chosen (λ (s : Step). IsSameCall (prepared leg frame) s.leg) (is_vnak message)
    (vnak_step judged (prepared leg frame) frame.head.iseqno now) (numbered_step (prepared leg frame) frame message now)
    (same_vnak judged (prepared leg frame) frame.head.iseqno now) (same_numbered (prepared leg frame) frame message now)

-- an INVAL teaches nothing
message_learns : (message : Message) (leg : LegState) (frame : FullFrame) (now : ℕ)
    → MayLearn frame.head.source leg (message_step message leg frame now).leg
message_learns message leg frame now =
    let learning = both_same (learnt leg frame.head.source) (prepared leg frame) (taught_step message leg frame now).leg
    (same_prepared leg frame) (same_taught message leg frame now) in
    chosen (λ (s : Step). MayLearn frame.head.source leg s.leg) (is_inval message) (inval_step leg frame now)
    (taught_step message leg frame now)
    (chosen (λ (s : Step). MayLearn frame.head.source leg s.leg) (heeds_inval leg frame) (invalidated leg now) (nothing_sent leg)
    (record { number = refl; remote = inl refl; ruled = record { rules = refl; width = refl; limit = refl } })
    (record { number = refl; remote = inl refl; ruled = record { rules = refl; width = refl; limit = refl } }))
    (record {
      number = learning.number;
      remote = inr learning.remote;
      ruled = record {
        rules = learning.ruled.rules;
        width = learning.ruled.width;
        limit = learning.ruled.limit;
      };
    })

pub full_learns : (leg : LegState) (frame : FullFrame) (now : ℕ) → MayLearn frame.head.source leg (full_step leg frame now).leg
full_learns leg frame now =
    let message = message_of frame.head in
    let bare = numbered_step leg frame message now in
    let as_before = same_numbered leg frame message now in
    let Learns : Step → Type 0 = λ s. MayLearn frame.head.source leg s.leg in
    chosen Learns (is_some (refusal leg frame)) (nothing_sent leg) (handled_step leg frame now)
    (record { number = refl; remote = inl refl; ruled = record { rules = refl; width = refl; limit = refl } })
    (chosen Learns (is_unaddressed leg frame) bare (message_step message leg frame now)
    (record { number = as_before.number; remote = inl as_before.remote; ruled = as_before.ruled })
    (message_learns message leg frame now))

-- ---- orders

same_row : (leg : LegState) (row : Option Ordered) (now : ℕ) → IsSameCall leg (row_carried leg row now).leg
same_row leg None now = same leg
same_row leg (Some row) now = record { number = refl; remote = refl; ruled = record { rules = refl; width = refl; limit = refl } }

pub same_media : (sent : MediaSent) (leg : LegState) (media : List ℕ) (now : ℕ) → IsSameCall leg (after_media sent leg media now)
same_media Quelched leg media now = same leg
same_media Voice leg media now = record {
  number = refl;
  remote = refl;
  ruled = record {
    rules = refl;
    width = refl;
    limit = refl;
  };
}
same_media (Mini timestamp) leg media now = same leg

pub same_order : (leg : LegState) (order : Order) (now : ℕ) → IsSameCall leg (order_carried leg order now).leg
same_order leg (commands.Media media) now = same_media (media_sent leg now) leg media.now now
same_order leg (commands.Doom cause) now = record {
  number = refl;
  remote = refl;
  ruled = record {
    rules = refl;
    width = refl;
    limit = refl;
  };
}
same_order leg commands.Paid now = record {
  number = refl;
  remote = refl;
  ruled = record {
    rules = refl;
    width = refl;
    limit = refl;
  };
}
same_order leg (commands.Accept format) now = same_row leg (order_row leg (commands.Accept format)) now
same_order leg (commands.Reject cause) now = same_row leg (order_row leg (commands.Reject cause)) now
same_order leg (commands.Indicate i) now = same_row leg (order_row leg (commands.Indicate i)) now
same_order leg commands.Answer now = same_row leg (order_row leg commands.Answer) now
same_order leg (commands.Dtmf digit) now = same_row leg (order_row leg (commands.Dtmf digit)) now
same_order leg (commands.Hangup cause) now = same_row leg (order_row leg (commands.Hangup cause)) now

-- ---- a tick

same_hang_up : (grown : Bool) (leg : LegState) (now : ℕ) → IsSameCall leg (hang_up_step grown leg now).leg
same_hang_up grown leg now =
    chosen (λ (t : Tick). IsSameCall leg t.leg) _ _ _
    (chosen (λ (t : Tick). IsSameCall leg t.leg) grown _ _
    (record { number = refl; remote = refl; ruled = record { rules = refl; width = refl; limit = refl } }) (same leg))
    (same leg)

same_ping : (grown : Bool) (leg : LegState) (now : ℕ) → IsSameCall leg (ping_step grown leg now).leg
same_ping grown leg now =
    chosen (λ (t : Tick). IsSameCall leg t.leg) _ _ _
    (chosen (λ (t : Tick). IsSameCall leg t.leg) grown _ _
    (record { number = refl; remote = refl; ruled = record { rules = refl; width = refl; limit = refl } }) (same leg))
    (same leg)

same_last : (grown spent : Bool) (leg : LegState) (now : ℕ) → IsSameCall leg (last_step grown spent leg now).leg
same_last grown spent leg now =
    chosen (λ (t : Tick). IsSameCall leg t.leg) spent _ _
    (record { number = refl; remote = refl; ruled = record { rules = refl; width = refl; limit = refl } })
    (same_ping grown leg now)

same_one : (due : Resent) (leg : LegState) (now : ℕ) (rest : LegState → Tried) → ((l : LegState) → IsSameCall l (rest l).leg)
    → IsSameCall leg (one_try due leg now rest).leg
same_one resents.Nothing leg now rest keeps = same leg
same_one resents.Spent leg now rest keeps = same leg
same_one (resents.Again place) leg now rest keeps =
    let again = keeps (after_try leg place now) in record {
      number = again.number;
      remote = again.remote;
      ruled = record { rules = again.ruled.rules; width = again.ruled.width; limit = again.ruled.limit };
    }

same_tries : (turns : ℕ) (leg : LegState) (now : ℕ) → IsSameCall leg (tries turns leg now).leg
same_tries zero leg now = same leg
same_tries (suc turns) leg now = same_one _ leg now (λ l. tries turns l now) (λ l. same_tries turns l now)

same_due : (grown : Bool) (leg : LegState) (now : ℕ) → IsSameCall leg (due_frames grown leg now).leg
same_due grown leg now =
    let hung = hang_up_step grown leg now in
    let tried = tries (held_count leg.window) hung.leg now in
    both_same leg tried.leg _ (both_same leg hung.leg tried.leg (same_hang_up grown leg now)
    (same_tries (held_count leg.window) hung.leg now))
    (same_last grown tried.spent tried.leg now)

abbrev unended_step : Bool → LegState → ℕ → Tick
unended_step grown leg now = if must_end leg now then quiet (failed leg (end_failure leg) now) else due_frames grown leg now

pub same_tick : (grown : Bool) (leg : LegState) (now : ℕ) → IsSameCall leg (tick_step grown leg now).leg
same_tick grown leg now =
    chosen (λ (t : Tick). IsSameCall leg t.leg) (is_ended leg.stage) (quiet leg) (unended_step grown leg now) (same leg)
    (chosen (λ (t : Tick). IsSameCall leg t.leg) (must_end leg now) (quiet (failed leg (end_failure leg) now))
    (due_frames grown leg now)
    (record { number = refl; remote = refl; ruled = record { rules = refl; width = refl; limit = refl } })
    (same_due grown leg now))
