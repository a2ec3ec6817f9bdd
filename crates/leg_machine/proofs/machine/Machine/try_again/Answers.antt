use Rattle.std.proofs.Common.{◌≡◌, ℕ, suc, ◌+◌, ◌-◌, ◌++◌, true, false, arith, sym, ap, ◌∙◌, append_assoc, append-nil, ◌≤◌}
use Rattle.std.proofs.lemmas.List.{map-append}
use Rattle.std.specs.Prelude.{◌%◌, ◌^◌, map}
use Rattle.iax_frames.specs.FullFrame.{spelling}
use Rattle.seq_window.specs.Window.{resent, after_resent}
use Rattle.seq_window.specs.declared.judgements.Resent.TheVariants as resents
use Rattle.leg_machine.specs.Leg.{leg_of, resent_by, with_window}
use Rattle.leg_machine.specs.Leg.{LegState}
use Rattle.leg_machine.specs.Tries.{Tried, tries, tried, after_try, frames_again}
use Rattle.leg_machine.proofs.OneTry.{tries-again, tries-nothing, tries-spent, room_kept, capacity_kept}
use Rattle.leg_machine.proofs.machine.Machine.try_again.Goals as goal

pub loop-turn-preserved : goal.loop-turn-preserved
loop-turn-preserved c =
    let now = c.args.now in
    let place = c.in-Again.place in
    let leg = leg_of c.loop-turn.self in
    let turns = c.args.turns - c.loop-turn.turn in
    let more = c.args.turns - (c.loop-turn.turn + 1) in
    let one_more : turns ≡ suc more = omega arith in
    let again : resent leg.window now leg.rules.retry_ms leg.rules.max_retries ≡ resents.Again place =
    sym c.in-Again.ensures.resent in
    let step = ap (λ n. tries n leg now) one_more ∙ tries-again more leg now place again in
    let after = record c.loop-turn.self { window = c.resend.new.self; resent = (c.loop-turn.self.resent + 1) % 2 ^ 64 } in
    let later = resent_by (with_window leg c.resend.new.self.state) 1 in
    let next : later ≡ after_try leg place now =
    ap (λ w. resent_by (with_window leg w) 1) (c.in-Again.ensures.state ∙ ap (λ r. after_resent r leg.window now) again) in
    let rest = (tries more later now).replies in
    let here = map spelling (frames_again later place) in
    let inner : here ++ map spelling rest ≡ map spelling (tries turns leg now).replies =
    sym (map-append spelling (frames_again later place) rest)
    ∙ ap (λ l. map spelling (frames_again l place ++ (tries more l now).replies)) next
    ∙ sym (ap (λ (t : Tried). map spelling t.replies) step) in (
      ap (λ l. (tries more l now).leg) next ∙ sym (ap (λ (t : Tried). t.leg) step) ∙ c.loop-turn.invariant.0,
      ap (λ l. (tries more l now).spent) next ∙ sym (ap (λ (t : Tried). t.spent) step) ∙ c.loop-turn.invariant.1,
      ap (λ xs. xs ++ map spelling rest) c.again.ensures.replies ∙ append_assoc c.loop-turn.outs here (map spelling rest)
          ∙ ap (λ ys. c.loop-turn.outs ++ ys) inner ∙ c.loop-turn.invariant.2,
      omega (arith, c.loop-turn.invariant.3, c.again.ensures.one),
      λ room. room_kept c.loop-turn.self after (resent leg.window now leg.rules.retry_ms leg.rules.max_retries) now
          c.resend.ensures.state c.resend.ensures.spare (c.loop-turn.invariant.4 room),
      omega (
        arith,
        c.loop-turn.invariant.5,
        capacity_kept c.loop-turn.self after (resent leg.window now leg.rules.retry_ms
            leg.rules.max_retries) now c.resend.ensures.state c.resend.ensures.spare,
      ),
    )

-- a turn that finds nothing due is the last
idle_turn : (turns turn now : ℕ) (leg : LegState) → turn + 1 ≤ turns
    → resent leg.window now leg.rules.retry_ms leg.rules.max_retries ≡ resents.Nothing
    → tries (turns - turn) leg now ≡ tried leg false
idle_turn turns turn now leg within none =
    let one_more : turns - turn ≡ suc (turns - (turn + 1)) = omega arith in
    ap (λ (n : ℕ). tries n leg now) one_more ∙ tries-nothing (turns - (turn + 1)) leg now none

pub returns-in-Nothing-clause-leg : goal.returns-in-Nothing-clause-leg
returns-in-Nothing-clause-leg c =
    let leg = leg_of c.loop-turn.self in
    let none : resent leg.window c.args.now leg.rules.retry_ms leg.rules.max_retries ≡ resents.Nothing =
    sym c.in-Nothing.ensures.resent in
    let step = idle_turn c.args.turns c.loop-turn.turn c.args.now leg (omega arith) none in
    ap (λ w. with_window leg w) (c.in-Nothing.ensures.state ∙ ap (λ r. after_resent r leg.window c.args.now) none)
    ∙ sym (ap (λ (t : Tried). t.leg) step) ∙ c.loop-turn.invariant.0

pub returns-in-Nothing-clause-replies : goal.returns-in-Nothing-clause-replies
returns-in-Nothing-clause-replies c =
    let leg = leg_of c.loop-turn.self in
    let step = idle_turn c.args.turns c.loop-turn.turn c.args.now leg (omega arith) (sym c.in-Nothing.ensures.resent) in
    sym (append-nil c.loop-turn.outs) ∙ sym (ap (λ (t : Tried). c.loop-turn.outs ++ map spelling t.replies) step)
    ∙ c.loop-turn.invariant.2

pub returns-in-Nothing-clause-spent : goal.returns-in-Nothing-clause-spent
returns-in-Nothing-clause-spent c =
    let leg = leg_of c.loop-turn.self in
    let step = idle_turn c.args.turns c.loop-turn.turn c.args.now leg (omega arith) (sym c.in-Nothing.ensures.resent) in
    sym (ap (λ (t : Tried). t.spent) step) ∙ c.loop-turn.invariant.1

-- a turn that finds a frame which has had all its tries is the last
last_turn : (turns turn now : ℕ) (leg : LegState) → turn + 1 ≤ turns
    → resent leg.window now leg.rules.retry_ms leg.rules.max_retries ≡ resents.Spent
    → tries (turns - turn) leg now ≡ tried leg true
last_turn turns turn now leg within spent =
    let one_more : turns - turn ≡ suc (turns - (turn + 1)) = omega arith in
    ap (λ (n : ℕ). tries n leg now) one_more ∙ tries-spent (turns - (turn + 1)) leg now spent

pub returns-in-Spent-clause-leg : goal.returns-in-Spent-clause-leg
returns-in-Spent-clause-leg c =
    let leg = leg_of c.loop-turn.self in
    let spent : resent leg.window c.args.now leg.rules.retry_ms leg.rules.max_retries ≡ resents.Spent =
    sym c.in-Spent.ensures.resent in
    let step = last_turn c.args.turns c.loop-turn.turn c.args.now leg (omega arith) spent in
    ap (λ w. with_window leg w) (c.in-Spent.ensures.state ∙ ap (λ r. after_resent r leg.window c.args.now) spent)
    ∙ sym (ap (λ (t : Tried). t.leg) step) ∙ c.loop-turn.invariant.0

pub returns-in-Spent-clause-replies : goal.returns-in-Spent-clause-replies
returns-in-Spent-clause-replies c =
    let leg = leg_of c.loop-turn.self in
    let step = last_turn c.args.turns c.loop-turn.turn c.args.now leg (omega arith) (sym c.in-Spent.ensures.resent) in
    sym (append-nil c.loop-turn.outs) ∙ sym (ap (λ (t : Tried). c.loop-turn.outs ++ map spelling t.replies) step)
    ∙ c.loop-turn.invariant.2

pub returns-in-Spent-clause-spent : goal.returns-in-Spent-clause-spent
returns-in-Spent-clause-spent c =
    let leg = leg_of c.loop-turn.self in
    let step = last_turn c.args.turns c.loop-turn.turn c.args.now leg (omega arith) (sym c.in-Spent.ensures.resent) in
    sym (ap (λ (t : Tried). t.spent) step) ∙ c.loop-turn.invariant.1
