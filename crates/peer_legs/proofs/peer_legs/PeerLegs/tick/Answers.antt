use Rattle.std.proofs.Common.{◌≡◌, ◌==◌, ◌<◌, ◌∙◌, ℕ, Result, Ok, None, Some, length, slice_get, slice_set, sym, ap, arith, rules}
use Rattle.leg_machine.specs.Leg.{LegState}
use Rattle.leg_machine.specs.Ticks.{tick_step}
use Rattle.leg_machine.specs.Tie.{SendsAtMostOne}
use Rattle.peer_legs.specs.Legs.{NamedLeg, PeerLegs, filled}
use Rattle.peer_legs.specs.LegsInside.{legs_of}
use Rattle.peer_legs.proofs.AtRest.{rest_never}
use Rattle.peer_legs.proofs.LegSearch.{IsFoundAt, found_at, none_past, none_read}
use Rattle.peer_legs.proofs.LegSteps.{IsMade, named_leg, of_said, leg_made, tied_made, ruled_made, kept_made}
use Rattle.peer_legs.proofs.RuleChanges.{placed_legs_of}
use Rattle.peer_legs.proofs.SameCall.{IsSameCall, same_tick}
use Rattle.peer_legs.proofs.peer_legs.PeerLegs.tick.Goals as goal

abbrev step : goal.After-self-2-1 → LegState → LegState
step c leg = (tick_step (c.tick_into-skipped.result == 0) leg c.args.now).leg

leg_is : (c : goal.After-self-2-1) → c.tick_into-skipped.new.self.state ≡ step c c.named.inside.leg.state
leg_is c = search rules

same : (c : goal.After-self-2-1) → IsSameCall c.named.inside.leg.state (step c c.named.inside.leg.state)
same c = same_tick (c.tick_into-skipped.result == 0) c.named.inside.leg.state c.args.now

is_found : (c : goal.After-self-2-1) → IsFoundAt (legs_of c.self.inside) c.args.self.now c.args.index
    (named_leg c.named.inside.lease c.named.inside.leg.state)
is_found c =
    let within : c.args.index < length c.self.inside.places.items = omega (arith, c.len.ensures, c.if-index-len.false) in
    found_at (legs_of c.self.inside) c.args.self.now c.args.index c.index_mut.result.now c.in-Some.named
    (named_leg c.named.inside.lease c.named.inside.leg.state)
    c.self.view_is within c.index_mut.ensures.value c.in-Some.is c.named.view_is

-- a tick is never refused
abbrev answer : goal.After-self-2-1 → Result ℕ ℕ
answer c = Ok c.tick_into-skipped.result

made : (c : goal.After-self-2-1) → IsMade c.self.inside c.args.self.now c.args.index
    (filled (slice_get c.args.self.now.places c.args.index)) c.named.inside c.tick_into-skipped.new.self (answer c) (step c)
made c = record {
  view = c.self.view_is;
  are = record { legs_are = c.self.invariant.legs; index_is = c.self.invariant.index; most = c.self.invariant.most };
  at = (is_found c).at;
  said_is = (is_found c).leg_is;
  carried = leg_is c;
  refused = tt;
  kept = record {
    rules = (same c).ruled;
    recorded = c.recorded.ensures;
  };
}

pub invariant_of-self-2 : goal.invariant_of-self-2
invariant_of-self-2 c =
    let are = kept_made (made c) (same c) in
    record { legs = are.legs_are; index = are.index_is; most = are.most; rest = rest_never _ }

pub returns : goal.returns
returns c = record {
  leg = leg_made (made c);
  place = of_said (made c) _
      (ap (λ (leg : LegState). slice_set c.self.inside.places.items c.args.index (Some (named_leg c.named.inside.lease leg)))
      (leg_is c)
      ∙ ap (λ (v : PeerLegs). slice_set v.places c.args.index
      (Some (named_leg c.named.inside.lease (step c c.named.inside.leg.state)))) c.self.view_is);
  replies = of_said (made c) _ (search rules);
  skipped = of_said (made c) _ (search rules);
  extends_history = tied_made (made c) SendsAtMostOne c.tick_into-skipped.ensures.extends_history;
  none = rw (is_found c).leg_is tt;
  none_changed = rw (is_found c).leg_is tt;
  none_sent = rw (is_found c).leg_is tt;
  sound = (kept_made (made c) (same c)).legs_are;
  ruled = ruled_made (made c);
}

-- there is no leg past the end, or at an empty place
past : (c : goal.Then-index-len) (x : NamedLeg) → filled (slice_get c.args.self.now.places c.args.index) ≡ Some x → ⊥
past c = none_past (legs_of c.self.inside) c.args.self.now c.args.index c.self.view_is
    (omega (arith, c.len.ensures, c.if-index-len.true))

empty : (c : goal.After-self-in_default-1) (x : NamedLeg) → filled (slice_get c.args.self.now.places c.args.index) ≡ Some x → ⊥
empty c = none_read (legs_of c.self.inside) c.args.self.now c.args.index c.index_mut.result.now c.self.view_is
    c.index_mut.ensures.value c.in_default.is

pub returns-then-index-len : goal.returns-then-index-len
returns-then-index-len c = search (rules, past c)

pub returns-in_default-clause-leg : goal.returns-in_default-clause-leg
returns-in_default-clause-leg c = λ x e. absurd (empty c x e)

pub returns-in_default-clause-place : goal.returns-in_default-clause-place
returns-in_default-clause-place c = λ x e. absurd (empty c x e)

pub returns-in_default-clause-replies : goal.returns-in_default-clause-replies
returns-in_default-clause-replies c = λ x e. absurd (empty c x e)

pub returns-in_default-clause-skipped : goal.returns-in_default-clause-skipped
returns-in_default-clause-skipped c = λ x e. absurd (empty c x e)

pub returns-in_default-clause-extends_history : goal.returns-in_default-clause-extends_history
returns-in_default-clause-extends_history c = λ x e. absurd (empty c x e)

pub returns-in_default-clause-ruled : goal.returns-in_default-clause-ruled
returns-in_default-clause-ruled c = λ rules ruled.
    placed_legs_of (legs_of c.self.inside) c.args.self.now c.args.index c.index_mut.result.now rules c.self.view_is ruled
    (λ named e. let never : None ≡ Some named = sym c.in_default.is ∙ e in cc)
