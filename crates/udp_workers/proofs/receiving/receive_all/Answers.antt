use Rattle.std.proofs.Common.{◌≡◌, ◌+◌, ℕ, Bor, None, Some, ◌∙◌, ap, arith, refl, rules, subst, sym}
use Rattle.udp_workers.specs.Handed.{GivesAll}
use Rattle.udp_wires.specs.Parcels.{Parcel}
use Rattle.udp_workers.specs.Intake.{Fills, InboxView, IsLoaded, TurnView}
use Rattle.udp_workers.specs.Receipts.{Reports}
use Rattle.udp_workers.specs.Runs.{TakesAndReports}
use Rattle.udp_workers.specs.declared.report.TurnReport.{TurnReport}
use Rattle.udp_workers.proofs.HandingLaws.{gives_none, gives_on}
use Rattle.udp_workers.proofs.IntakeLaws.{TakesSoFar, at_error, not_there, takes_64, takes_no_more, takes_none, takes_one}
use Rattle.udp_workers.proofs.IntakeLaws.{takes_what_fits}
use Rattle.udp_workers.proofs.TickLaws.{later_on, later_same}
use Rattle.udp_workers.proofs.receiving.receive_all.Goals as goal

pub returns-then-is_err-clause-takes : goal.returns-then-is_err-clause-takes
returns-then-is_err-clause-takes g c =
    let turn = c.args.turn.now in
    let observed = g.V.Watch.observed c.args.tally.now.watch.now in
    let l = c.loop in
    let came = g.W.Wire.came c.args.wire.now in
    let seen = g.W.Wire.came l.wire in
    let now = g.W.Wire.came c.fill.new.wire in
    let view : TurnView = record { stage = turn.stage; now = turn.time; challenge = turn.challenge.now } in
    let none = sym (at_error c.fill.result (c.fill.new.self.datagram ≡ None) c.fill.ensures.fault
    (sym c.is_err.ensures.value ∙ c.if-is_err.true)) in
    let so_far = subst (λ (n : ℕ). TakesSoFar observed turn.intake turn.exchange.now view c.args.inbox.now.datagram l.inbox.datagram
    l.taken l.counter c.args.tally.now.report.received n c.args.pass.now l.pass came seen)
    (sym (ap (λ (report : TurnReport). report.received) c.observe.ensures.counted)) l.invariant.takes in
    subst (λ left. TakesAndReports observed turn.intake turn.exchange.now view c.args.inbox.now.datagram left
    c.args.tally.now.report.received
    c.observe.new.self.report.received c.args.pass.now l.pass came now) none
    (takes_no_more observed turn.intake turn.exchange.now view c.args.inbox.now.datagram c.args.tally.now.report.received
    c.args.pass.now
    came l.inbox.datagram l.taken l.counter c.observe.new.self.report.received l.pass seen now
    so_far (subst (λ here. Fills l.inbox.datagram here seen now) (sym none) c.fill.ensures.fills)
    (λ some. none ∙ ap (λ (inbox : InboxView). inbox.datagram) (c.fill.ensures.kept some)) (omega arith))

pub returns-in_default-clause-takes : goal.returns-in_default-clause-takes
returns-in_default-clause-takes g c =
    let turn = c.args.turn.now in
    let observed = g.V.Watch.observed c.args.tally.now.watch.now in
    let l = c.loop in
    let came = g.W.Wire.came c.args.wire.now in
    let seen = g.W.Wire.came l.wire in
    let now = g.W.Wire.came c.fill.new.wire in
    let view : TurnView = record { stage = turn.stage; now = turn.time; challenge = turn.challenge.now } in
    let none : None ≡ c.fill.new.self.datagram = not_there c.fill.new.self.datagram c.datagram.result c.datagram.ensures
    c.in_default.is in
    subst (λ left. TakesAndReports observed turn.intake turn.exchange.now view c.args.inbox.now.datagram left
    c.args.tally.now.report.received
    l.tally.report.received c.args.pass.now l.pass came now) none
    (takes_no_more observed turn.intake turn.exchange.now view c.args.inbox.now.datagram c.args.tally.now.report.received
    c.args.pass.now
    came l.inbox.datagram l.taken l.counter l.tally.report.received l.pass seen now
    l.invariant.takes (subst (λ here. Fills l.inbox.datagram here seen now) (sym none) c.fill.ensures.fills)
    (λ some. none ∙ ap (λ (inbox : InboxView). inbox.datagram) (c.fill.ensures.kept some)) (omega arith))

pub returns-in_default-loaded-clause-takes : goal.returns-in_default-loaded-clause-takes
returns-in_default-loaded-clause-takes g c =
    let turn = c.args.turn.now in
    let observed = g.V.Watch.observed c.args.tally.now.watch.now in
    let l = c.loop in
    let came = g.W.Wire.came c.args.wire.now in
    let seen = g.W.Wire.came l.wire in
    let now = g.W.Wire.came c.fill.new.wire in
    let view : TurnView = record { stage = turn.stage; now = turn.time; challenge = turn.challenge.now } in
    let arrival : Parcel = record { endpoint = c.in-Some.from; octets = c.in-Some.octets.now } in
    let here : Some arrival ≡ c.fill.new.self.datagram = c.in-Some.ensures in
    let full = subst (IsLoaded turn.intake l.taken arrival.octets) c.in_default-loaded.is c.loaded.ensures in
    subst (λ left. TakesAndReports observed turn.intake turn.exchange.now view c.args.inbox.now.datagram left
    c.args.tally.now.report.received
    l.tally.report.received c.args.pass.now l.pass came now) here
    (takes_what_fits observed turn.intake turn.exchange.now view c.args.inbox.now.datagram c.args.tally.now.report.received
    c.args.pass.now
    came l.inbox.datagram l.taken arrival l.counter l.tally.report.received l.pass seen now
    l.invariant.takes (subst (λ left. Fills l.inbox.datagram left seen now) (sym here) c.fill.ensures.fills) full (omega arith))

pub returns-clause-takes : goal.returns-clause-takes
returns-clause-takes g c =
    let turn = c.args.turn.now in
    let observed = g.V.Watch.observed c.args.tally.now.watch.now in
    let l = c.loop in
    let came = g.W.Wire.came c.args.wire.now in
    let seen = g.W.Wire.came l.wire in
    let view : TurnView = record { stage = turn.stage; now = turn.time; challenge = turn.challenge.now } in
    let all : l.counter ≡ 64 = omega arith in
    takes_64 observed turn.intake turn.exchange.now view c.args.inbox.now.datagram c.args.tally.now.report.received c.args.pass.now
    came
    l.inbox.datagram l.taken l.tally.report.received l.pass seen
    (subst (λ (n : ℕ). TakesSoFar observed turn.intake turn.exchange.now view c.args.inbox.now.datagram l.inbox.datagram l.taken n
    c.args.tally.now.report.received l.tally.report.received c.args.pass.now l.pass came seen) all l.invariant.takes)

pub loop-preserved : goal.loop-preserved
loop-preserved g c =
    let turn = c.args.turn.now in
    let observed = g.V.Watch.observed c.args.tally.now.watch.now in
    let l = c.loop in
    let came = g.W.Wire.came c.args.wire.now in
    let seen = g.W.Wire.came l.wire in
    let now = g.W.Wire.came c.fill.new.wire in
    let view : TurnView = record { stage = turn.stage; now = turn.time; challenge = turn.challenge.now } in
    let arrival : Parcel = record { endpoint = c.in-Some.from; octets = c.in-Some.octets.now } in
    let here : Some arrival ≡ c.fill.new.self.datagram = c.in-Some.ensures in
    let more = subst (IsLoaded turn.intake l.taken arrival.octets) c.in-Some-loaded.is c.loaded.ensures in
    let same = c.take.ensures.report in
    let received = ap (λ (report : TurnReport). report.received) same in
    let refused = ap (λ (report : TurnReport). report.refused) same in
    record {
      received = omega (arith, received);
      more = omega (arith, received);
      refused = omega (arith, received, refused);
      no_fault = c.take_arrival.ensures.faults ∙ ap (λ (report : TurnReport). report.faults) same ∙ l.invariant.no_fault;
      sent = c.take_arrival.ensures.sent ∙ ap (λ (report : TurnReport). report.sent) same ∙ l.invariant.sent;
      lost = c.take_arrival.ensures.lost ∙ ap (λ (report : TurnReport). report.lost) same ∙ l.invariant.lost;
      watch = c.take_arrival.ensures.watch ∙ c.take.ensures.watch ∙ l.invariant.watch;
      went = c.fill.ensures.went ∙ l.invariant.went;
      wire_sent = c.fill.ensures.sent ∙ l.invariant.wire_sent;
      given = c.fill.ensures.given ∙ l.invariant.given;
      given_to = λ to. c.fill.ensures.given_to to ∙ l.invariant.given_to to;
      failures = search rules;
      peers = c.fill.ensures.peers ∙ l.invariant.peers;
      steps = omega (arith, received, refused);
      later = later_on c.args.pass.now l.pass c.take_arrival.new.pass l.invariant.later c.take_arrival.ensures.later;
      handed =
          gives_on (g.V.Watch.given c.args.tally.now.watch.now) c.args.pass.now l.pass c.take_arrival.new.pass l.invariant.handed
          (subst (λ (watch : Bor g.row.V.Denot). GivesAll (g.V.Watch.given watch.now) l.pass c.take_arrival.new.pass)
          (c.take.ensures.watch ∙ l.invariant.watch) c.take_arrival.ensures.handed);
      none_lost = search rules;
      takes =
          subst (λ left. TakesSoFar observed turn.intake turn.exchange.now view c.args.inbox.now.datagram left (Some
          c.in-Some-loaded.load)
          (l.counter + 1) c.args.tally.now.report.received c.take_arrival.new.tally.report.received
          c.args.pass.now c.take_arrival.new.pass came now)
          (sym (ap (λ (inbox : InboxView). inbox.datagram) c.clear.ensures))
          (takes_one observed turn.intake turn.exchange.now view c.args.inbox.now.datagram c.args.tally.now.report.received
          c.args.pass.now
          came l.inbox.datagram l.taken c.in-Some-loaded.load arrival l.counter l.tally.report.received
          c.take_arrival.new.tally.report.received
          l.pass c.take_arrival.new.pass seen now l.invariant.takes (subst (λ left. Fills l.inbox.datagram left seen now) (sym
          here)
          c.fill.ensures.fills)
          (λ some. here ∙ ap (λ (inbox : InboxView). inbox.datagram) (c.fill.ensures.kept some)) more
          (record { away = λ is. (c.take_arrival.ensures.away is).0; heard = c.take_arrival.ensures.heard })
          (subst (λ (watch : Bor g.row.V.Denot). Reports (g.V.Watch.observed watch.now) turn.exchange.now turn.stage turn.time arrival
          l.pass c.take_arrival.new.pass) (c.take.ensures.watch ∙ l.invariant.watch) c.take_arrival.ensures.observed)
          (c.take_arrival.ensures.received ∙ ap (λ (n : ℕ). n + 1) received));
    }

pub loop-init : goal.loop-init
loop-init g c =
    let turn = c.args.turn.now in
    let observed = g.V.Watch.observed c.args.tally.now.watch.now in
    let view : TurnView = record { stage = turn.stage; now = turn.time; challenge = turn.challenge.now } in
    record {
      received = omega arith;
      more = omega arith;
      refused = omega arith;
      no_fault = refl;
      sent = refl;
      lost = refl;
      watch = refl;
      went = refl;
      wire_sent = refl;
      given = refl;
      given_to = λ to. refl;
      failures = refl;
      peers = refl;
      steps = omega arith;
      later = later_same c.args.pass.now;
      handed = gives_none (g.V.Watch.given c.args.tally.now.watch.now) c.args.pass.now;
      none_lost = refl;
      takes =
          takes_none observed turn.intake turn.exchange.now view c.args.inbox.now.datagram c.args.tally.now.report.received
          c.args.pass.now
          (g.W.Wire.came c.args.wire.now);
    }
