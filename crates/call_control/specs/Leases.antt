-- The lease that a call holds, and its change at each step.
use Rattle.std.specs.Prelude.{true, Option, None, Some, Ok}
use Rattle.call_book.specs.declared.leg_name.LegName.{LegName}
use Rattle.call_control.specs.Work.{Work, in_hand}
use Rattle.call_control.specs.WorkState.{first_of}
use Rattle.call_control.specs.declared.need.Need.{Need}
use Rattle.call_control.specs.declared.need.Need.TheVariants as needs
use Rattle.call_control.specs.declared.reply.Reply.{Reply}
use Rattle.call_control.specs.declared.reply.Reply.TheVariants as replies

-- the name for which the call has a lease, if it has one
abbrev pub lease_in : Work → Option LegName
lease_in work = first_of (in_hand work.place)

-- the name whose lease a step takes, if it takes one
abbrev pub lease_needed : Option Need → Option LegName
lease_needed (Some (needs.OpenIn name)) = Some name
lease_needed (Some (needs.OpenOut name)) = Some name
lease_needed (Some (needs.Release name)) = Some name
lease_needed need = None

-- the name of the lease after a step with this answer
abbrev pub lease_after : Option Need → Reply → Option LegName → Option LegName
lease_after (Some (needs.Reserve peer)) (replies.Reserve (Ok name)) lease = Some name
lease_after (Some (needs.Retire name)) (replies.Retire true) lease = Some name
lease_after (Some (needs.OpenIn name)) (replies.OpenIn (Ok heard)) lease = None
lease_after (Some (needs.OpenOut name)) (replies.OpenOut (Ok done)) lease = None
lease_after (Some (needs.Release name)) reply lease = None
lease_after need reply lease = lease
