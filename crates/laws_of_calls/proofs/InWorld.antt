-- The stored exchange, seen in a world of the law over many calls.
use Rattle.std.proofs.Common.{List}
use Rattle.call_book.specs.declared.leg_name.LegName.{LegName}
use Rattle.call_control.specs.Law.{NamesAreHeldOnce, NoneIsBusy, NoneIsOutside, NoneIsStale, AllAreLookedAfter, NoneMeetsOffered}
use Rattle.call_control.specs.Law.{NamesAreTheLegs, AllHavePartners}
use Rattle.call_control.specs.World.{World}
use Rattle.laws_of_calls.specs.Stored.{Stored, ArePeers, IsSeenIn}

-- within: no step was refused because a peer's steps are spent
pub record IsInWorld (within : Type 0) (called : List LegName) (stored : Stored) : Type 0 where
  pub are : ArePeers stored.peers
  pub world : World
  pub seen : IsSeenIn called stored world
  pub names : NamesAreHeldOnce world
  pub busy : NoneIsBusy world
  pub outside : NoneIsOutside world
  pub stale : NoneIsStale world
  pub offered : NoneMeetsOffered world
  pub idle_names : NamesAreTheLegs world
  pub looked_after : within → AllAreLookedAfter world
  pub idle_partners : within → AllHavePartners world
