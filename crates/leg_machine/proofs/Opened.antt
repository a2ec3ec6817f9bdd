-- A leg that a NEW opened, and the frames and the answer of its opening.
use Rattle.std.specs.Prelude.{map, All}
use Rattle.std.proofs.Common.{◌≡◌, ℕ, ◌+◌, ◌≤◌, List, [], ◌++◌, Some, refl, ap, sym, subst, ◌∙◌}
use Rattle.iax_frames.specs.FullFrame.{FullFrame, spelling}
use Rattle.seq_window.specs.History.{IsLegal, acked_count, sent_count}
use Rattle.seq_window.specs.Window.{held_count}
use Rattle.leg_machine.specs.Leg.{LegState}
use Rattle.leg_machine.specs.Openings.{opening_of, opening_effect, leg_for_new, open_in_step}
use Rattle.leg_machine.specs.Seen.{seen as seen_leg, IsSeenOpening}
use Rattle.leg_machine.specs.Steps.{Step, heard_of, taken_step}
use Rattle.call_signals.specs.declared.effects.Effect.{Effect}
use Rattle.call_signals.specs.declared.message.Message.TheVariants.{New}
use Rattle.call_signals.specs.declared.openings.Opening.{Opening}
use Rattle.call_signals.specs.declared.openings.Opening.TheVariants.{Refused, Challenges, Offers}
use Rattle.call_signals.specs.declared.outcomes.Heard.{Heard}
use Rattle.call_signals.specs.declared.rules.PeerRules.{PeerRules}
use Rattle.leg_machine.specs.Tie.{TakesFirstTurn, IsSending, IsLegOf}
use Rattle.leg_machine.proofs.SeenTicks.{opened-seen}
use Rattle.leg_machine.proofs.SendingSteps.{opened-written}
use Rattle.leg_machine.proofs.Sides.{opening-turn}
use Rattle.leg_machine.proofs.Tied.{either}

-- an opening leaves the call's numbers and its rules
pub record KeepsCall (old new : LegState) : Type 0 where
  pub number : new.number ≡ old.number
  pub remote : new.remote ≡ old.remote
  pub rules : new.rules ≡ old.rules
  pub width : new.window.width ≡ old.window.width
  pub limit : new.window.limit ≡ old.window.limit

kept : (opening : Opening) (leg : LegState) (frame : FullFrame) (now : ℕ)
    → KeepsCall leg (taken_step (opening_effect opening) leg frame New now).leg
kept Refused leg frame now = either (λ (s : Step). KeepsCall leg s.leg) _ _ _
    (record { number = refl; remote = refl; rules = refl; width = refl; limit = refl })
    (record { number = refl; remote = refl; rules = refl; width = refl; limit = refl })
kept Challenges leg frame now = either (λ (s : Step). KeepsCall leg s.leg) _ _ _
    (record { number = refl; remote = refl; rules = refl; width = refl; limit = refl })
    (record { number = refl; remote = refl; rules = refl; width = refl; limit = refl })
kept Offers leg frame now = record { number = refl; remote = refl; rules = refl; width = refl; limit = refl }

-- the clauses of an opening: the leg, its frames and its answer
abbrev pub Opened : PeerRules → ℕ → FullFrame → Step → LegState → List (List ℕ) → Heard → Type 0
Opened rules number frame step new outs answer = record {
  leg : new ≡ step.leg;
  replies : outs ≡ map spelling step.replies;
  heard : answer ≡ heard_of step;
  number : new.number ≡ number;
  remote : new.remote ≡ Some frame.head.source;
  ruled : IsLegOf rules new;
  extends_history : TakesFirstTurn frame new;
  sendings : All (IsSending new) outs;
  refines_abstract_leg : IsSeenOpening (seen_leg new) answer.signal;
  none_sent : Unit {0};
  no_memory : Unit {0};
}

-- the NEW was taken with this effect on this leg
pub opened : (rules : PeerRules) (number : ℕ) (frame : FullFrame) (now : ℕ) (challenge : List ℕ) (effect : Effect)
    (leg new : LegState)
    (before outs : List (List ℕ)) (heard : Heard) → 1 ≤ rules.window → new ≡ (taken_step effect leg frame New now).leg
    → outs ≡ before ++ map spelling (taken_step effect leg frame New now).replies
    → heard ≡ heard_of (taken_step effect leg frame New now)
    → before ≡ [] → effect ≡ opening_effect (opening_of rules frame) → leg ≡ leg_for_new rules number frame now challenge
    → IsLegal new.window.width new.window.limit new.window.history
    → held_count new.window + acked_count new.window.history ≡ sent_count new.window.history
    → Opened rules number frame (open_in_step rules number frame now challenge) new outs heard
opened rules number frame now challenge effect leg new before outs heard some ends spelt answer empty by on legal held =
    let step = taken_step effect leg frame New now in
    let same : step ≡ open_in_step rules number frame now challenge = λ i. taken_step (by i) (on i) frame New now in
    let leg_is : new ≡ (open_in_step rules number frame now challenge).leg = ends ∙ ap (λ (t : Step). t.leg) same in
    let sent = opened-written effect leg new frame now before outs ends spelt empty (ap (λ (l : LegState). l.window.history)
    on) in
    let call = kept (opening_of rules frame) (leg_for_new rules number frame now challenge) frame now in
    record {
      leg = leg_is;
      number = ap (λ (l : LegState). l.number) leg_is ∙ call.number;
      remote = ap (λ (l : LegState). l.remote) leg_is ∙ call.remote;
      ruled = record {
        rules_are = ap (λ (l : LegState). l.rules) leg_is ∙ call.rules;
        width = ap (λ (l : LegState). l.window.width) leg_is ∙ call.width;
        limit = ap (λ (l : LegState). l.window.limit) leg_is ∙ call.limit;
        legal = legal;
        numbered = sent.numbered;
        held = held;
      };
      replies = spelt ∙ ap (λ (b : List (List ℕ)). b ++ map spelling step.replies) empty
          ∙ ap (λ (t : Step). map spelling t.replies) same;
      heard = answer ∙ ap heard_of same;
      extends_history = subst (TakesFirstTurn frame) (sym leg_is) (opening-turn rules number frame now challenge);
      sendings = sent.sendings;
      refines_abstract_leg = opened-seen rules number frame now challenge effect leg new heard some ends answer by on;
      none_sent = tt;
      no_memory = tt;
    }
