use Rattle.std.proofs.Common.{◌≡◌, length}
use Rattle.call_control.specs.Leases.{lease_in}
use Rattle.call_control.specs.MediaLeft.{media_left}
use Rattle.exchange_core.specs.Covered.{IsCovered}
use Rattle.exchange_core.specs.Leaving.{LeftSince, leaving_of}
use Rattle.exchange_core.specs.Names.{named_by}
use Rattle.exchange_core.specs.Newcomers.{SpellsOpening}
use Rattle.exchange_core.specs.Traces.{Traces, call_of}
use Rattle.exchange_core.proofs.Denying.{DeniedSince}
use Rattle.exchange_core.proofs.FirstSteps.{IsUnderWay}
use Rattle.exchange_core.proofs.FirstPeers.{MayStand, OpensLeg, PlaceInPlan}
use Rattle.exchange_core.proofs.Rejecting.{RejectedSince}
use Rattle.exchange_core.proofs.Tracing.{LastSince}
use Rattle.exchange_core.proofs.exchange.Exchange.carry_out.Given as goal

abbrev pub invariant-loop : goal.invariant-loop
invariant-loop g l =
    (goal.iterator-loop g).can_next l.iterator' × (goal.iterator-loop g).is_finite l.iterator'
    × IsCovered (length l.given.datagram) l.pass.credit.octets (media_left l.work.work) ×
    (l.resources.lease ≡ lease_in l.work.work)
    × IsUnderWay l.initial.work.work.place l.initial.pass.credit l.pass.credit l.work.work.place l.resources.denial
    × PlaceInPlan (length l.self.peers) l.work.work.place
    × (OpensLeg l.work.work.place → SpellsOpening l.given.datagram)
    × MayStand l.initial.work.work.place l.initial.pass.credit l.pass.credit l.work.work.place l.resources.denial
    l.resources.named
    × Traces (call_of l.self l.given) l.initial.work l.work l.initial.pass l.pass
    × LeftSince l.given.now l.initial.pass l.pass (leaving_of l.resources.retired_legs)
    × RejectedSince l.initial.pass l.pass l.rejected
    × DeniedSince l.initial.pass l.pass l.work.work.place l.resources.denial
    × LastSince named_by l.initial.pass l.pass l.resources.named
