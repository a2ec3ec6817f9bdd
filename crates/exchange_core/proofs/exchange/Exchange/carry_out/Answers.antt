use Rattle.std.proofs.Common.{◌≡◌, Some, rules, true, length, sym, ap, subst, ◌∙◌}
use Rattle.call_control.specs.Beginnings.{beginning_at, is_answer}
use Rattle.call_control.specs.Leases.{lease_needed}
use Rattle.call_control.specs.Work.{next_of}
use Rattle.exchange_core.specs.Denial.{noted}
use Rattle.exchange_core.specs.FirstSteps.{InPlan, IsOfNew, KeepsPeer}
use Rattle.exchange_core.specs.Leaving.{LeftSince, leaving_of}
use Rattle.exchange_core.specs.Names.{named_by}
use Rattle.exchange_core.specs.Newcomers.{SpellsOpening}
use Rattle.exchange_core.proofs.Carrying.{covers_need, covers_rest, leaves_lease}
use Rattle.exchange_core.proofs.Denying.{CalledIsGiven, denied_more, none_denied, some_copied}
use Rattle.exchange_core.proofs.FirstSteps.{noted_first, noted_later, under_way}
use Rattle.exchange_core.proofs.FirstPeers.{starts_first, next_in_plan, stays_in_plan}
use Rattle.exchange_core.proofs.FirstPeers.{opened_here, opens_after, stands_on}
use Rattle.exchange_core.specs.Traces.{call_of, told}
use Rattle.exchange_core.proofs.Leaving.{left_since}
use Rattle.exchange_core.proofs.Naming.{named_more}
use Rattle.exchange_core.proofs.Rejecting.{none_rejected, one_more}
use Rattle.exchange_core.proofs.Tracing.{none_yet, traces_longer}
use Rattle.exchange_core.specs.declared.resources.TaskResources.{TaskResources}
use Rattle.exchange_core.specs.declared.retired_legs.RetiredLegs.{RetiredLegs}
use Rattle.exchange_core.proofs.exchange.Exchange.carry_out.Goals as goal
use Rattle.exchange_core.proofs.exchange.Exchange.carry_out.Goals.{then-is_beginning, else-is_beginning}

pub make-reply-requires-clause-media : goal.make-reply-requires-clause-media
make-reply-requires-clause-media g c lifetimes lives =
    let law = c.media_is_carried_once.ensures in
    covers_need law.needed law.covered (length c.args.given.now.datagram) c.loop.pass.credit.octets c.loop.work.work
    c.in-Some-next.need (sym c.next-in-loop.ensures ∙ c.in-Some-next.is)
    c.loop.invariant.2

pub make-reply-requires-clause-lease : goal.make-reply-requires-clause-lease
make-reply-requires-clause-lease g c lifetimes lives = λ name takes.
    c.loop.invariant.3
    ∙ c.leases_are_as_named.ensures.needed c.loop.work.work name (ap lease_needed (sym c.next-in-loop.ensures ∙ c.in-Some-next.is)
    ∙ takes)

pub make-reply-requires-clause-peer : goal.make-reply-requires-clause-peer
make-reply-requires-clause-peer g c lifetimes lives =
    subst (InPlan (length c.args.self.now.peers)) (sym c.next-in-loop.ensures ∙ c.in-Some-next.is)
    (next_in_plan (length c.args.self.now.peers) c.loop.work.work.place c.loop.invariant.5)

pub make-reply-requires-clause-opening : goal.make-reply-requires-clause-opening
make-reply-requires-clause-opening g c lifetimes lives = λ opened.
    let here = opened_here c.loop.work.work.place (subst IsOfNew (sym (sym c.next-in-loop.ensures ∙ c.in-Some-next.is)) opened) in
    (c.loop.invariant.6 here.0, c.requires.challenge (c.loop.invariant.4.before _ here.1).0)

pub loop-init : goal.loop-init
loop-init g c = (
  search rules,
  search rules,
  search rules,
  search rules,
  search rules,
  search rules,
  search rules,
  search rules,
  search rules,
  search rules,
  none_rejected c.args.pass.now,
  none_denied c.args.pass.now c.args.work.now.work.place (starts_first (length c.args.self.now.peers) c.args.work.now.work.place
      c.requires.peer),
  none_yet named_by c.args.pass.now,
)

pub loop-preserved : goal.loop-preserved
loop-preserved g c =
    let carried = c.media_is_carried_once.ensures in
    let begins = c.refused_calls_end.ensures in
    let need : next_of c.loop.work.work ≡ Some c.in-Some-next.need = sym c.next-in-loop.ensures ∙ c.in-Some-next.is in
    let answers : is_answer (next_of c.loop.work.work) c.make-reply.result ≡ true = ap (λ o. is_answer o c.make-reply.result) need
    ∙ c.make-reply.ensures.answer.0 in
    let keeps : KeepsPeer (next_of c.loop.work.work) c.make-reply.result = subst (λ o. KeepsPeer o c.make-reply.result) (sym need)
    c.make-reply.ensures.answer.1 in
    let work = c.told.ensures.work in
    let whole : c.told.new.self ≡ told c.loop.work c.make-reply.result = λ i. record {
      work = c.told.ensures.work i;
      onwards = c.told.ensures.onwards i;
    } in
    let lease : c.if-is_beginning.resources.lease ≡ c.make-reply.new.resources.lease = search rules in
    let named : c.if-is_beginning.resources.named ≡ c.make-reply.new.resources.named = search rules in
    let retired_legs : c.if-is_beginning.resources.retired_legs ≡ c.make-reply.new.resources.retired_legs = search rules in
    let denial : c.if-is_beginning.resources.denial ≡ noted (beginning_at c.loop.work.work.place) c.make-reply.result
    c.loop.resources.denial = elim c.if-is_beginning.branch [
      | then-is_beginning w ↦ ap (λ (h : TaskResources). h.denial) w.resources-is ∙ w.of-resources.ensures
          ∙ noted_first (beginning_at c.loop.work.work.place) c.make-reply.result c.loop.resources.denial
          (sym c.is_beginning.ensures ∙ w.if-is_beginning.true)
      | else-is_beginning w ↦ ap (λ (h : TaskResources). h.denial) w.resources-is ∙ c.make-reply.ensures.resources.1
          ∙ noted_later (beginning_at c.loop.work.work.place) c.make-reply.result c.loop.resources.denial
          (sym c.is_beginning.ensures ∙ w.if-is_beginning.false)
    ] in
    let given : CalledIsGiven (call_of c.args.self.now c.args.given.now) c.loop.work.work.place =
    λ called. some_copied c.args.given.now.called (c.requires.outside (c.loop.invariant.4.before _ called).0) in (
      tt,
      tt,
      covers_rest carried.within carried.octets (length c.args.given.now.datagram) c.loop.pass.credit.octets
          c.make-reply.new.pass.credit.octets c.loop.work.work c.told.new.self.work
          c.in-Some-next.need c.make-reply.result need c.make-reply.ensures.media.0 work c.make-reply.ensures.media.1
          c.loop.invariant.2,
      lease
          ∙ leaves_lease c.leases_are_as_named.ensures.after c.loop.work.work c.told.new.self.work c.in-Some-next.need
          c.make-reply.result c.loop.resources.lease
          c.make-reply.new.resources.lease need work c.loop.invariant.3 c.make-reply.ensures.resources.0,
      under_way begins.made begins.goes_on begins.past begins.refused begins.over begins.nothing c.args.work.now.work.place
          c.args.pass.now.credit c.loop.pass.credit
          c.make-reply.new.pass.credit c.loop.work.work c.told.new.self.work c.make-reply.result c.loop.resources.denial
          c.if-is_beginning.resources.denial answers c.make-reply.ensures.steps.0
          c.make-reply.ensures.steps.1 c.make-reply.ensures.answer.3 work denial c.loop.invariant.4,
      stays_in_plan begins.made begins.past (length c.args.self.now.peers) c.loop.work.work c.told.new.self.work
          c.make-reply.result work keeps
          c.loop.invariant.5,
      opens_after begins.made begins.past c.loop.work.work c.told.new.self.work c.make-reply.result
          (SpellsOpening c.args.given.now.datagram) work
          c.loop.invariant.6 c.make-reply.ensures.answer.2,
      stands_on c.args.work.now.work.place c.args.pass.now.credit c.loop.pass.credit c.make-reply.new.pass.credit c.loop.work.work
          c.told.new.self.work c.make-reply.result
          c.loop.resources.denial c.if-is_beginning.resources.denial c.loop.resources.named c.if-is_beginning.resources.named
          answers keeps c.make-reply.ensures.steps.2 c.make-reply.ensures.steps.1
          work denial (named ∙ c.make-reply.ensures.resources.2) c.loop.invariant.7,
      rw whole
          (traces_longer (call_of c.args.self.now c.args.given.now) c.args.work.now c.loop.work c.in-Some-next.need
          c.make-reply.result c.args.pass.now c.loop.pass
          c.make-reply.new.pass c.loop.invariant.8 need c.make-reply.ensures.noted),
      subst (λ (legs : RetiredLegs). LeftSince c.args.given.now.now c.args.pass.now c.make-reply.new.pass (leaving_of legs))
          (sym retired_legs)
          (left_since c.args.given.now.now c.args.pass.now c.loop.pass c.make-reply.new.pass
          (leaving_of c.loop.resources.retired_legs)
          (leaving_of c.make-reply.new.resources.retired_legs) c.loop.invariant.9 c.make-reply.ensures.left),
      one_more _ _ c.in-Some-next.need c.make-reply.result c.args.pass.now c.loop.pass c.make-reply.new.pass c.loop.rejected
          c.latest-rejected.result
          c.loop.invariant.10 c.make-reply.ensures.noted c.make-reply.ensures.steps.0 c.make-reply.ensures.steps.1
          c.latest-rejected.ensures,
      denied_more begins.made begins.goes_on begins.past begins.refused begins.over (call_of c.args.self.now c.args.given.now) _
          c.in-Some-next.need c.make-reply.result
          c.args.pass.now c.loop.pass c.make-reply.new.pass c.loop.work.work c.told.new.self.work c.loop.resources.denial
          c.if-is_beginning.resources.denial need answers
          c.make-reply.ensures.noted c.loop.invariant.5 given work denial c.loop.invariant.11,
      named_more _ _ c.in-Some-next.need c.make-reply.result c.args.pass.now c.loop.pass c.make-reply.new.pass
          c.loop.resources.named c.if-is_beginning.resources.named c.loop.invariant.12 c.make-reply.ensures.noted
          (named ∙ c.make-reply.ensures.resources.2),
    )
