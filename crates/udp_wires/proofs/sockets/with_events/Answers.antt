use Rattle.std.proofs.Common.{◌≡◌, ap, subst, sym, ◌∙◌}
use Rattle.udp_wires.proofs.ReadinessLaws.{event_of_none, event_of_place}
use Rattle.udp_wires.proofs.sockets.with_events.Goals as goal

pub loop-event-preserved-then-place-lt-PLACES : goal.loop-event-preserved-then-place-lt-PLACES
loop-event-preserved-then-place-lt-PLACES c place within =
    let named = ap (λ token. token.0) c.token-place.ensures in
    let step = event_of_place (λ event. event.inner.data) c.in-Some.event.now c.next.new.self.rest.now place c.loop-event.ready
    c.with-ready.result within
    (rw named at c.with-ready.ensures.there) (rw named at c.with-ready.ensures.others) in
    let so_far = rw c.in-Some.ensures.steps at c.loop-event.invariant place within in
    (λ now. so_far.0 (step.0 now), λ first. step.1 (so_far.1 first))

pub loop-event-preserved : goal.loop-event-preserved
loop-event-preserved c place within =
    let named = ap (λ token. token.0) c.token-place.ensures in
    let step = event_of_none (λ event. event.inner.data) c.in-Some.event.now c.next.new.self.rest.now place c.loop-event.ready
    within
    (rw named at c.if-place-lt-PLACES.false) in
    let so_far = rw c.in-Some.ensures.steps at c.loop-event.invariant place within in
    (λ now. so_far.0 (step.0 now), λ first. step.1 (so_far.1 first))
