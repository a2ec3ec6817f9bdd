-- The steps of one of a peer's legs.
use Rattle.std.specs.Option.{ForSome}
use Rattle.std.specs.Prelude.{◌≡◌, ℕ, Bool, true, Option, None, Result, Err, IfErr, OnErr, OnOk}
use Rattle.call_signals.specs.declared.order.OrderError.{OrderError}
use Rattle.call_signals.specs.declared.order.OrderError.TheVariants.{Memory}
use Rattle.call_signals.specs.declared.rules.PeerRules.{PeerRules}
use Rattle.leg_machine.specs.Leg.{LegState}
use Rattle.leg_machine.specs.OrderTable.{IsRefusal}
use Rattle.peer_legs.specs.Legs.{PeerLegs, AreLegs, AreLegsOf, leg_at, with_leg}

-- A step of the leg of a number, which may be refused: it changes only that leg, or nothing. The legs are still legs of a
-- peer, and follow the same rules as before.
pub record IsStep {A E : Type 0} (old new : PeerLegs) (number : ℕ) (result : Result A E) (step : LegState → LegState) : Type 0
  where
    pub leg : ForSome (leg_at old number) (λ named. OnOk result (new ≡ with_leg old named.name (step named.leg)))
    pub err : OnErr result (new ≡ old)
    pub sound : AreLegs new
    pub ruled : (rules : PeerRules) → AreLegsOf rules old → AreLegsOf rules new

-- An order is refused for what is due, and for want of memory only if it needs some.
pub record IsAnswer {A : Type 0} (result : Result A OrderError) (due : Option OrderError) (wants : Bool) : Type 0 where
  pub unrefused : OnOk result (due ≡ None)
  pub refused : IfErr result (IsRefusal due)
  pub memory : result ≡ Err Memory → wants ≡ true
