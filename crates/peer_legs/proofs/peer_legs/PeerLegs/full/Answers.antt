use Rattle.std.proofs.lemmas.Result.{on_ok_weaker}
use Rattle.std.proofs.Common.{◌≡◌, ◌∙◌, Some, true, inl, ap, refl, subst, sym}
use Rattle.std.specs.Option.{option_copied_mut}
use Rattle.std.specs.Prelude.{OnOk}
use Rattle.leg_machine.specs.Leg.{LegState}
use Rattle.leg_machine.specs.Steps.{full_step}
use Rattle.leg_machine.specs.Tie.{TakesTurn}
use Rattle.peer_legs.specs.Legs.{AreLegs, NamedLeg, PeerLegs, is_from, leg_at}
use Rattle.peer_legs.specs.LegsInside.{legs_of}
use Rattle.peer_legs.proofs.AtRest.{rest_placed}
use Rattle.peer_legs.proofs.LegChanges.{AreIndexed, learned}
use Rattle.peer_legs.proofs.LegIndex.{placed}
use Rattle.peer_legs.proofs.LegSearch.{IsFound, found}
use Rattle.peer_legs.proofs.LegSteps.{IsMade, named_leg, made_at, of_said, of_either, leg_made, tied_made, step_made}
use Rattle.peer_legs.proofs.LegThere.{each_ok, each_if_ok, from_reached, made_there}
use Rattle.peer_legs.proofs.SameCall.{MayLearn, full_learns}
use Rattle.peer_legs.proofs.peer_legs.PeerLegs.full.Goals as goal

abbrev step : goal.After-note → LegState → LegState
step c leg = (full_step leg c.args.frame.now c.args.now).leg

-- the leg before, and the legs afterwards
abbrev before : goal.After-note → NamedLeg
before c = named_leg c.named.inside.lease c.named.inside.leg.state

abbrev after : goal.After-note → PeerLegs
after c = placed (legs_of c.self.inside) c.place_of-index.result
    (Some (named_leg c.named.inside.lease c.full_into-heard.new.self.state))

is_found : (c : goal.After-note) → IsFound (legs_of c.self.inside) c.args.self.now c.place_of-index.result c.args.number
    (before c)
is_found c =
    found c.args.number c.self.view_is c.place_of-index.ensures.place c.place_of-index.ensures.within c.place_of-index.ensures.leg
    c.index_mut.ensures.value
    (sym c.as_mut.ensures.value ∙ ap option_copied_mut c.unwrap-named.ensures) c.named.view_is

made : (c : goal.After-note) → IsMade c.self.inside c.args.self.now c.place_of-index.result (leg_at c.args.self.now c.args.number)
    c.named.inside c.full_into-heard.new.self c.full_into-heard.result (step c)
made c =
    made_at c.self.invariant c.self.view_is (is_found c) c.full_into-heard.ensures.leg c.full_into-heard.ensures.err
    (full_learns c.named.inside.leg.state c.args.frame.now c.args.now).ruled
    c.recorded.ensures

-- the other side's number may have been learnt
all : (c : goal.After-note) → AreIndexed (after c) c.note.new.self
all c =
    let source = c.args.frame.now.head.source in
    let from : is_from (legs_of c.self.inside) c.named.inside.leg.state.remote source ≡ true =
    subst (λ (legs : PeerLegs). is_from legs c.named.inside.leg.state.remote source ≡ true) (sym c.self.view_is)
    (from_reached c.args.self.now source (leg_at c.args.self.now c.args.number) (before c) c.requires.there
    (is_found c).leg_is) in
    let may = of_either (made c) (MayLearn source c.named.inside.leg.state) (full_learns c.named.inside.leg.state c.args.frame.now
    c.args.now)
    (record { number = refl; remote = inl refl; ruled = record { rules = refl; width = refl; limit = refl } }) in
    learned (legs_of c.self.inside) c.place_of-index.result (before c) c.full_into-heard.new.self.state c.self.inside.by_remote
    c.note.new.self source c.args.number
    c.remote-remote.result (made c).are (made c).at may from (is_found c).number_is c.remote-remote.ensures c.note.ensures.index
    c.note.ensures.within

pub invariant_of-self : goal.invariant_of-self
invariant_of-self c = let are = all c in record {
  legs = are.legs_are;
  index = are.index_is;
  most = are.most;
  rest = rw c.min-self-inside.ensures
      (rest_placed c.self.inside.rest_until c.rest_until.result c.self.inside.places.items c.place_of-index.result
      (Some (named_leg c.named.inside.lease c.full_into-heard.new.self.state)) c.self.invariant.rest c.rest_until.ensures);
}

there : (c : goal.After-note) (named : NamedLeg) → leg_at c.args.self.now c.args.number ≡ Some named
    → OnOk c.full_into-heard.result (leg_at (after c) c.args.number ≡ Some (named_leg named.name (step c named.leg)))
there c named e =
    made_there c.full_into-heard.result c.args.self.now (after c) c.args.number named (step c)
    (subst AreLegs c.self.view_is c.self.invariant.legs) e (leg_made (made c) named e)

pub returns : goal.returns
returns c =
    let said = leg_at c.args.self.now c.args.number in
    record {
      step = step_made (made c) (all c).legs_are;
      there = each_ok c.full_into-heard.result said _ (there c);
      kept = on_ok_weaker c.full_into-heard.result (λ at. rw at refl) (there c (before c) (is_found c).leg_is);
      replies = each_ok c.full_into-heard.result said _ (of_said (made c) _ c.full_into-heard.ensures.replies);
      heard = each_if_ok c.full_into-heard.result said _ (of_said (made c) _ c.full_into-heard.ensures.heard);
      extends_history = tied_made (made c) (λ old new. TakesTurn old c.args.frame.now new)
          c.full_into-heard.ensures.extends_history;
      unrefused = of_said (made c) _ c.full_into-heard.ensures.unrefused;
      refused = of_said (made c) _ c.full_into-heard.ensures.refused;
      none_sent = c.full_into-heard.ensures.none_sent;
      no_memory = c.full_into-heard.ensures.no_memory;
    }
