-- A step of the leg at a place, whether carried out or refused: its effect on the peer's legs.
use Rattle.std.proofs.Common.{◌≡◌, ℕ, Option, Some, Result, Ok, Err, OnOk, OnErr, slice_get, sym, ap, subst, ◌∙◌}
use Rattle.std.specs.Vec.{with_item}
use Rattle.std.proofs.lemmas.Result.{on_ok_weaker, on_err_weaker}
use Rattle.call_book.specs.declared.leg_name.LegName.{LegName}
use Rattle.call_signals.specs.declared.rules.PeerRules.{PeerRules}
use Rattle.leg_machine.specs.Leg.{Leg, LegState}
use Rattle.peer_legs.specs.Legs.{NamedLeg, PeerLegs, AreLegs, AreLegsOf, leg_at, with_leg}
use Rattle.peer_legs.specs.LegsInside.{IsRecorded, IsSound, RestUntil, legs_of}
use Rattle.peer_legs.specs.Steps.{IsStep}
use Rattle.peer_legs.specs.declared.named_leg.NamedLeg.TheInside.{Inside as LegInside}
use Rattle.peer_legs.specs.declared.peer_legs.PeerLegs.TheInside.{Inside}
use Rattle.peer_legs.proofs.LegChanges.{AreIndexed, stepped, placed_is_with_leg, still_there}
use Rattle.peer_legs.proofs.LegIndex.{placed}
use Rattle.peer_legs.proofs.LegSearch.{IsFound}
use Rattle.peer_legs.proofs.RuleChanges.{stepped_legs_of}
use Rattle.peer_legs.proofs.SameCall.{KeepsRules, IsSameCall, same}

-- the leg of this name, in a state
abbrev pub named_leg : LegName → LegState → NamedLeg
named_leg name leg = record { name = name; leg = leg }

-- the parts that a step keeps, and the property of the leg's record afterwards
pub record IsKept (old new : LegState) (step : LegState → LegState) : Type 0 where
  pub rules : KeepsRules old (step old)
  pub recorded : IsRecorded new

-- A step was carried out at the leg of a place, or was refused and left it. The clauses name that leg `said`.
pub record IsMade {T E : Type 0} (legs : Inside) (value : PeerLegs) (place : ℕ) (said : Option NamedLeg) (was : LegInside)
    (new : Leg) (result : Result T E) (step : LegState → LegState) : Type 0 where
  pub view : legs_of legs ≡ value
  pub are : AreIndexed (legs_of legs) legs.by_remote
  pub at : slice_get legs.places.items place ≡ Some (Some (named_leg was.lease was.leg.state))
  pub said_is : said ≡ Some (named_leg was.lease was.leg.state)
  pub carried : OnOk result (new.state ≡ step was.leg.state)
  pub refused : OnErr result (new ≡ was.leg)
  pub kept : IsKept was.leg.state new.state step

-- .. at the leg of a number
pub made_at : {T E : Type 0} {legs : Inside} {value : PeerLegs} {place number : ℕ} {was : LegInside} {new : Leg}
    {result : Result T E} {step : LegState → LegState}
    → IsSound legs → legs_of legs ≡ value → IsFound (legs_of legs) value place number (named_leg was.lease was.leg.state)
    → OnOk result (new.state ≡ step was.leg.state) → OnErr result (new ≡ was.leg) → KeepsRules was.leg.state (step was.leg.state)
    → IsRecorded new.state
    → IsMade legs value place (leg_at value number) was new result step
made_at sound view found carried refused rules recorded = record {
  view = view;
  are = record { legs_are = sound.legs; index_is = sound.index; most = sound.most };
  at = found.at;
  said_is = found.leg_is;
  carried = carried;
  refused = refused;
  kept = record { rules = rules; recorded = recorded };
}

chosen : {T E : Type 0} (result : Result T E) (P : LegState → Type 0) (old new : Leg) (after : LegState)
    → OnOk result (new.state ≡ after) → OnErr result (new ≡ old) → P after → P old.state → P new.state
chosen (Ok answer) P old new after carried refused is_after is_old = subst P (sym carried) is_after
chosen (Err refusal) P old new after carried refused is_after is_old = subst (λ (l : Leg). P l.state) (sym refused) is_old

as_carried : {T E : Type 0} (result : Result T E) (P : LegState → Type 0) (new after : LegState) → OnOk result (new ≡ after)
    → OnOk result (P new) → OnOk result (P after)
as_carried (Ok answer) P new after carried is = subst P carried is
as_carried (Err refusal) P new after carried is = tt

-- the legs, and the leg, before and after a step
abbrev pub after_step : Inside → ℕ → LegInside → Leg → PeerLegs
after_step legs place was new = placed (legs_of legs) place (Some (named_leg was.lease new.state))

module _ {T E : Type 0} {legs : Inside} {value : PeerLegs} {place : ℕ} {said : Option NamedLeg} {was : LegInside} {new : Leg}
    {result : Result T E}
    {step : LegState → LegState} (made : IsMade legs value place said was new result step) where
  -- a property of the leg at the place holds for the leg that the clauses name
  pub of_said : (P : NamedLeg → Type 0) → P (named_leg was.lease was.leg.state) → (named : NamedLeg) → said ≡ Some named → P named
  of_said P here named is =
      let both : Some (named_leg was.lease was.leg.state) ≡ Some named = sym made.said_is ∙ is in
      let it : named_leg was.lease was.leg.state ≡ named = cc in
      subst P it here

  -- a property of the leg before and after the step holds for it now
  pub of_either : (P : LegState → Type 0) → P (step was.leg.state) → P was.leg.state → P new.state
  of_either P = chosen result P was.leg new (step was.leg.state) made.carried made.refused

  pub leg_made : (named : NamedLeg) → said ≡ Some named
      → OnOk result (after_step legs place was new ≡ with_leg value named.name (step named.leg))
  leg_made = of_said (λ named. OnOk result (after_step legs place was new ≡ with_leg value named.name (step named.leg)))
      (on_ok_weaker result (placed_is_with_leg (legs_of legs) value place (named_leg was.lease was.leg.state) new.state
      (step was.leg.state) made.view made.are.legs_are made.at) made.carried)

  pub tied_made : (Tied : LegState → LegState → Type 0) → OnOk result (Tied was.leg.state new.state) → (named : NamedLeg)
      → said ≡ Some named → OnOk result (Tied named.leg (step named.leg))
  tied_made Tied tied = of_said (λ named. OnOk result (Tied named.leg (step named.leg))) (as_carried result (Tied was.leg.state)
      new.state (step was.leg.state) made.carried tied)

  pub still_made : OnErr result (new.state ≡ was.leg.state)
  still_made = on_err_weaker result (λ (is : new ≡ was.leg). ap (λ (l : Leg). l.state) is) made.refused

  pub none_made : OnErr result (after_step legs place was new ≡ value)
  none_made = on_err_weaker result (still_there (legs_of legs) value place (named_leg was.lease was.leg.state) new.state made.view
      made.at) still_made

  pub ruled_made : (rules : PeerRules) → AreLegsOf rules value → AreLegsOf rules (after_step legs place was new)
  ruled_made rules =
      stepped_legs_of (legs_of legs) value place (named_leg was.lease was.leg.state) new.state rules made.view made.at (record {
        ruled = of_either (KeepsRules was.leg.state) made.kept.rules (same was.leg.state).ruled;
        recorded = made.kept.recorded;
      })

  -- a step that leaves both numbers
  pub kept_made : IsSameCall was.leg.state (step was.leg.state) → AreIndexed (after_step legs place was new) legs.by_remote
  kept_made stays = stepped (legs_of legs) place (named_leg was.lease was.leg.state) new.state legs.by_remote made.are made.at
      (of_either (IsSameCall was.leg.state) stays (same was.leg.state))

-- the effect of a step that may be refused
pub step_made : {T E : Type 0} {legs : Inside} {value : PeerLegs} {place number : ℕ} {was : LegInside} {new : Leg}
    {result : Result T E} {step : LegState → LegState}
    → IsMade legs value place (leg_at value number) was new result step → AreLegs (after_step legs place was new)
    → IsStep value (after_step legs place was new) number result step
step_made made sound = record { leg = leg_made made; err = none_made made; sound = sound; ruled = ruled_made made }

-- the array of remote numbers stays right after a step that leaves both numbers, and the legs rest until this moment
pub sound_made : {T E : Type 0} {legs : Inside} {value : PeerLegs} {place : ℕ} {said : Option NamedLeg} {was : LegInside}
    {new : Leg} {result : Result T E} {step : LegState → LegState} {until : ℕ}
    → IsMade legs value place said was new result step → IsSameCall was.leg.state (step was.leg.state)
    → RestUntil until (after_step legs place was new).places
    → IsSound (record legs { places = with_item legs.places place (Some (named_leg was.lease new.state)); rest_until = until })
sound_made made stays rest =
    let are = kept_made made stays in record { legs = are.legs_are; index = are.index_is; rest = rest; most = are.most }
