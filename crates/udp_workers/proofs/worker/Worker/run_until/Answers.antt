use Rattle.std.proofs.Common.{◌≡◌, ◌≤◌, ℕ, Bor, List, [], ◌∷◌, refl, ap, length, arith, subst, sym, ◌∙◌, rules}
use Rattle.udp_wires.specs.Parcels.{Parcel}
use Rattle.udp_workers.specs.Handed.{GivesAll}
use Rattle.udp_workers.specs.Intake.{InboxView, Passed, TurnView}
use Rattle.udp_workers.specs.Runs.{MakesAndReports, RunsTurns}
use Rattle.udp_workers.specs.declared.report.TurnReport.{TurnReport}
use Rattle.udp_workers.specs.Events.{nothing}
use Rattle.udp_workers.proofs.CountLaws.{counts_on}
use Rattle.udp_workers.proofs.HandingLaws.{gives_none, gives_on}
use Rattle.udp_workers.proofs.TickLaws.{later_on, later_same, must_tick}
use Rattle.udp_workers.proofs.worker.Worker.run_until.Goals as goal

abbrev passed_by : List Parcel → List Parcel → Passed
passed_by came went = record { came = came; went = went }

passed_same : {came came' went went' : List Parcel} → came ≡ came' → went ≡ went' → passed_by came went ≡ passed_by came' went'
passed_same {came' = came'} {went = went} same are = ap (λ c. passed_by c went) same ∙ ap (passed_by came') are

pub loop-made-preserved : goal.loop-made-preserved
loop-made-preserved g c =
    let l = c.loop-made in
    let made = c.turn_at-end in
    let all = c.ticks_all.result in
    let view : TurnView = record { stage = c.stage-stage.result; now = c.now-time.result; challenge = c.draw.result } in
    let run = l.invariant.intake.0 in
    let observed = g.V.Watch.observed c.args.watch.now in
    let now = passed_by (g.W.Wire.came made.new.wire) (g.W.Wire.went made.new.wire) in
    let turned : MakesAndReports observed c.args.intake c.args.exchange.now c.args.self.now.peers all view run.left
    made.new.inbox.datagram l.tally.report.received made.new.tally.report.received l.pass made.new.pass
    (passed_by (g.W.Wire.came l.wire) (g.W.Wire.went l.wire)) now =
    subst (λ was. MakesAndReports observed c.args.intake c.args.exchange.now c.args.self.now.peers all view was
    made.new.inbox.datagram l.tally.report.received made.new.tally.report.received l.pass made.new.pass
    (passed_by (g.W.Wire.came l.wire) (g.W.Wire.went l.wire)) now) (sym l.invariant.intake.1)
    (subst (λ from. MakesAndReports observed c.args.intake c.args.exchange.now c.args.self.now.peers all view l.inbox.datagram
    made.new.inbox.datagram l.tally.report.received made.new.tally.report.received l.pass made.new.pass from now)
    (passed_same c.pause.ensures.came c.pause.ensures.went)
    (subst (λ peers. MakesAndReports observed c.args.intake c.args.exchange.now peers all view l.inbox.datagram
    made.new.inbox.datagram l.tally.report.received made.new.tally.report.received l.pass made.new.pass
    (passed_by (g.W.Wire.came c.pause.new.wire) (g.W.Wire.went c.pause.new.wire)) now) l.invariant.peers
    (subst (λ (watch : g.row.V.Denot). MakesAndReports (g.V.Watch.observed watch) c.args.intake c.args.exchange.now l.self.peers all
    view l.inbox.datagram made.new.inbox.datagram l.tally.report.received made.new.tally.report.received l.pass made.new.pass
    (passed_by (g.W.Wire.came c.pause.new.wire) (g.W.Wire.went c.pause.new.wire)) now) l.invariant.watch made.ensures.turn))) in
    let few : length l.self.peers ≤ 32 = subst (λ (peers : List ℕ). length peers ≤ 32) made.ensures.peers made.ensures.few in
    record {
      received = omega arith;
      refused = omega arith;
      emptied = omega arith;
      faults = omega arith;
      watch = ap (λ (watch : Bor g.row.V.Denot). watch.now) made.ensures.watch ∙ l.invariant.watch;
      given = omega arith;
      failures = omega arith;
      counts =
          counts_on nothing l.tally.report made.new.tally.report _ _ _ _ _ _ l.invariant.counts
          (record {
            sent = omega (arith, made.ensures.counts.sent, ap (λ (l : List Parcel). length l) c.pause.ensures.sent);
            given = omega (arith, made.ensures.counts.given, ap (λ (l : List Parcel). length l) c.pause.ensures.went);
          });
      wire = made.ensures.wire ∙ c.pause.ensures.peers ∙ l.invariant.wire;
      steps = omega arith;
      later = later_on c.args.pass.now l.pass made.new.pass l.invariant.later made.ensures.later;
      handed =
          gives_on (g.V.Watch.given c.args.watch.now) c.args.pass.now l.pass made.new.pass l.invariant.handed
          (subst (λ (watch : g.row.V.Denot). GivesAll (g.V.Watch.given watch) l.pass made.new.pass) l.invariant.watch
          made.ensures.handed);
      place = made.ensures.place ∙ l.invariant.place;
      peers = made.ensures.peers ∙ l.invariant.peers;
      intake = (
        record {
          turns = view ∷ run.turns;
          left = made.new.inbox.datagram;
          all = record {
            was = run.left;
            counted = l.tally.report.received;
            mid = l.pass;
            between = passed_by (g.W.Wire.came l.wire) (g.W.Wire.went l.wire);
            before = run.all;
            all = all;
            must = must_tick c.args.intake l.before c.now-time.result l.end.was_full all run.turns l.invariant.intake.2
                c.ticks_all.ensures;
            makes = turned.makes;
          };
          reports = (run.reports, turned.reports);
          moments = (l.moments, run.moments, c.now-time.ensures);
          challenges = (l.challenges, run.challenges, c.draw.ensures);
        },
        refl,
        refl,
      );
      turns = omega arith;
    }

pub loop-made-init : goal.loop-made-init
loop-made-init g c =
    let none = c.new-tally.ensures.none in
    let received : c.new-tally.result.report.received ≡ 0 = ap (λ (report : TurnReport). report.received) none in
    let refused : c.new-tally.result.report.refused ≡ 0 = ap (λ (report : TurnReport). report.refused) none in
    let sent : c.new-tally.result.report.sent ≡ 0 = ap (λ (report : TurnReport). report.sent) none in
    let lost : c.new-tally.result.report.lost ≡ 0 = ap (λ (report : TurnReport). report.lost) none in
    let faults : c.new-tally.result.report.faults ≡ 0 = ap (λ (report : TurnReport). report.faults) none in
    record {
      received = omega arith;
      refused = omega arith;
      emptied = omega arith;
      faults = omega arith;
      watch = c.new-tally.ensures.watch;
      given = omega arith;
      failures = omega arith;
      counts = record { sent = omega arith; given = omega arith };
      wire = refl;
      steps = omega arith;
      later = later_same c.args.pass.now;
      handed = gives_none (g.V.Watch.given c.args.watch.now) c.args.pass.now;
      place = refl;
      peers = refl;
      intake = (
        record {
          turns = [];
          left = c.new-inbox.result.datagram;
          all = record {
            none_left = ap (λ (inbox : InboxView). inbox.datagram) c.new-inbox.ensures;
            none_received = received;
            same = refl;
            passed_nothing = refl;
          };
          reports = tt;
          moments = refl;
          challenges = refl;
        },
        refl,
        refl,
      );
      turns = omega arith;
    }

pub returns-then-eq-clause-turns : goal.returns-then-eq-clause-turns
returns-then-eq-clause-turns c = search rules

pub turn_at-end-requires-clause-going : goal.turn_at-end-requires-clause-going
turn_at-end-requires-clause-going c = search rules

pub returns-then-eq-clause-given : goal.returns-then-eq-clause-given
returns-then-eq-clause-given c = search rules

pub returns-then-eq-clause-faults : goal.returns-then-eq-clause-faults
returns-then-eq-clause-faults c = search rules

pub turn_at-end-requires-clause-asked : goal.turn_at-end-requires-clause-asked
turn_at-end-requires-clause-asked c = search rules

pub returns-clause-turns : goal.returns-clause-turns
returns-clause-turns c = search rules

pub returns-then-eq-clause-intake : goal.returns-then-eq-clause-intake
returns-then-eq-clause-intake g c =
    let l = c.loop-made in
    subst (λ (end : Passed). RunsTurns (g.V.Watch.observed c.args.watch.now) g.M.TurnClock.gave g.C.Challenges.gave
    c.args.context.moments.now l.moments c.args.context.challenges.now l.challenges c.args.intake c.args.exchange.now
    c.args.self.now.peers l.tally.report.received c.args.pass.now l.pass
    (passed_by (g.W.Wire.came c.args.wire.now) (g.W.Wire.went c.args.wire.now)) end)
    (sym (passed_same c.pause.ensures.came c.pause.ensures.went)) l.invariant.intake.0

pub returns-clause-intake : goal.returns-clause-intake
returns-clause-intake g c = c.loop-made.invariant.intake.0
