use Rattle.std.proofs.Common.{Bor, ◌≡◌, ◌≢◌, ℕ, ◌<◌, List, ◌∙◌, arith, subst, sym, ap, length, rules}
use Rattle.std.specs.Prelude.{All, AllPairs}
use Rattle.step_log.specs.Notes.{Noted}
use Rattle.peer_accounts.specs.Accounts.{Credit}
use Rattle.peer_plan.specs.Plan.{IsPlan}
use Rattle.peer_plan.specs.declared.endpoint.Endpoint.{Endpoint}
use Rattle.udp_wires.specs.Counts.{RisesByAtMost}
use Rattle.udp_wires.specs.Parcels.{Parcel}
use Rattle.udp_workers.specs.Emptied.{EmptiesDue}
use Rattle.udp_workers.specs.Handed.{GivesAll}
use Rattle.udp_workers.specs.Intake.{TurnView}
use Rattle.udp_workers.specs.Runs.{TakesAndReports}
use Rattle.udp_workers.specs.Served.{WorkerView, AreEndpoints}
use Rattle.udp_workers.specs.Ticked.{IsLater, TicksDue}
use Rattle.udp_workers.specs.declared.report.TurnReport.{TurnReport}
use Rattle.udp_workers.proofs.EmptyingLaws.{empties_gives, empties_later, empties_same}
use Rattle.udp_workers.proofs.HandingLaws.{gives_on}
use Rattle.udp_workers.proofs.ServedLaws.{peers_below, endpoints_apart}
use Rattle.udp_workers.proofs.TickLaws.{due_later, later_on}
use Rattle.udp_workers.proofs.worker.Worker.turn_at.Goals as goal

-- the counts of two reports that are the same
received_of : {one other : TurnReport} → one ≡ other → one.received ≡ other.received
received_of same = ap (λ (report : TurnReport). report.received) same

refused_of : {one other : TurnReport} → one ≡ other → one.refused ≡ other.refused
refused_of same = ap (λ (report : TurnReport). report.refused) same

sent_of : {one other : TurnReport} → one ≡ other → one.sent ≡ other.sent
sent_of same = ap (λ (report : TurnReport). report.sent) same

lost_of : {one other : TurnReport} → one ≡ other → one.lost ≡ other.lost
lost_of same = ap (λ (report : TurnReport). report.lost) same

pub tick_due-has_left_out-requires-clause-peers : goal.tick_due-has_left_out-requires-clause-peers
tick_due-has_left_out-requires-clause-peers g c κs within =
    let plan = c.args.turn.now.exchange.now in
    let own = c.as_slice-peers.ensures.value ∙ ap (λ (worker : WorkerView). worker.peers) c.self.view_is ∙ c.requires.peers in
    subst (All (λ peer. peer < length plan.peers)) (sym own) (peers_below plan c.args.self.now.place)

pub empty_due-was_full-requires-clause-peers : goal.empty_due-was_full-requires-clause-peers
empty_due-was_full-requires-clause-peers g c κs within =
    let plan = c.args.turn.now.exchange.now in
    let own = c.as_slice-peers.ensures.value ∙ ap (λ (worker : WorkerView). worker.peers) c.self.view_is ∙ c.requires.peers in
    subst (All (λ peer. peer < length plan.peers)) (sym own) (peers_below plan c.args.self.now.place)

pub empty_due-was_full-requires-clause-apart : goal.empty_due-was_full-requires-clause-apart
empty_due-was_full-requires-clause-apart g c κs within =
    let self = c.args.self.now in
    let plan = c.args.turn.now.exchange.now in
    let ends = g.W.Wire.peers c.args.wire.now in
    let sound : IsPlan plan = subst IsPlan c.plan.ensures c.peer_count-peers.ensures.sound in
    let are : AreEndpoints plan self.peers ends = c.requires.wire in
    let apart = endpoints_apart plan self.place ends sound (subst (λ (peers : List ℕ). AreEndpoints plan peers ends)
    c.requires.peers are) in
    subst (AllPairs (λ (one other : Endpoint). one ≢ other)) (sym c.receive_all.ensures.peers) apart

pub returns-clause-each : goal.returns-clause-each
returns-clause-each g c to =
    subst (λ (first : ℕ). RisesByAtMost 256 first (g.W.Wire.given_to c.empty_due-was_full.new.wire to))
    (c.receive_all.ensures.given_to to) (c.empty_due-was_full.ensures.each to)

pub returns-clause-later : goal.returns-clause-later
returns-clause-later g c =
    let arrived = c.receive_all.new.pass in
    let ticked = c.tick_due-has_left_out.new.pass in
    let sent = c.empty_due-was_full.new.pass in
    let plan = c.args.turn.now.exchange.now in
    let peers = c.as_slice-peers.result.now in
    subst (IsLater c.args.pass.now) (sym c.wake_others.ensures)
    (later_on c.args.pass.now arrived sent c.receive_all.ensures.later
    (later_on arrived ticked sent (due_later plan c.args.turn.now.time c.args.turn.now.all peers arrived ticked
    c.tick_due-has_left_out.ensures.ticked)
    (empties_later plan c.args.turn.now.all peers ticked sent _ _ c.empty_due-was_full.ensures.empties)))

pub returns-clause-steps : goal.returns-clause-steps
returns-clause-steps g c =
    let same = empties_same c.args.turn.now.exchange.now c.args.turn.now.all c.as_slice-peers.result.now
    c.tick_due-has_left_out.new.pass c.empty_due-was_full.new.pass _ _ c.empty_due-was_full.ensures.empties in
    let steps = ap (λ (credit : Credit). credit.steps) (ap (λ (pass : Noted). pass.credit) c.wake_others.ensures ∙ same) in
    let received = c.empty_due-was_full.ensures.received ∙ c.tick_due-has_left_out.ensures.only.received in
    let refused = c.empty_due-was_full.ensures.refused ∙ c.tick_due-has_left_out.ensures.only.refused in
    omega (
      arith,
      steps,
      received,
      refused,
      received_of c.begin_turn.ensures.report,
      received_of c.begin_ticks.ensures.report,
      received_of c.end_turn.ensures.report,
      refused_of c.begin_turn.ensures.report,
      refused_of c.begin_ticks.ensures.report,
      refused_of c.end_turn.ensures.report,
    )

pub returns-clause-counts : goal.returns-clause-counts
returns-clause-counts g c =
    let counts = c.empty_due-was_full.ensures.counts in
    let arrived = c.receive_all.ensures in
    let only = c.tick_due-has_left_out.ensures.only in
    let went = ap (λ (l : List Parcel). length l) arrived.went in
    let sent = ap (λ (l : List Parcel). length l) arrived.wire_sent in
    let begun = sent_of c.begin_turn.ensures.report in
    let ticks = sent_of c.begin_ticks.ensures.report in
    let ended = sent_of c.end_turn.ensures.report in
    record {
      sent = omega (arith, counts.sent, only.sent, arrived.sent, sent, begun, ticks, ended);
      given = omega (
        arith,
        counts.given,
        only.sent,
        only.lost,
        arrived.sent,
        arrived.lost,
        went,
        begun,
        ticks,
        ended,
        lost_of c.begin_turn.ensures.report,
        lost_of c.begin_ticks.ensures.report,
        lost_of c.end_turn.ensures.report,
      );
    }

pub returns-clause-turn : goal.returns-clause-turn
returns-clause-turn g c =
    let turn = c.args.turn.now in
    let plan = turn.exchange.now in
    let arrived = c.receive_all.new.pass in
    let ticked = c.tick_due-has_left_out.new.pass in
    let came = g.W.Wire.came c.args.wire.now in
    let went = g.W.Wire.went c.args.wire.now in
    let went_now = g.W.Wire.went c.empty_due-was_full.new.wire in
    let view : TurnView = record { stage = turn.stage; now = turn.time; challenge = turn.challenge.now } in
    let observed = g.V.Watch.observed c.args.tally.now.watch.now in
    let own = c.as_slice-peers.ensures.value ∙ ap (λ (worker : WorkerView). worker.peers) c.self.view_is in
    let counted = received_of c.end_turn.ensures.report ∙ c.empty_due-was_full.ensures.received
    ∙ c.tick_due-has_left_out.ensures.only.received ∙ received_of c.begin_ticks.ensures.report in
    let sent =
    subst (λ first. EmptiesDue plan turn.all c.as_slice-peers.result.now ticked c.wake_others.new.pass first went_now)
    c.receive_all.ensures.went
    (subst (λ end. EmptiesDue plan turn.all c.as_slice-peers.result.now ticked end (g.W.Wire.went c.receive_all.new.wire)
    went_now) (sym c.wake_others.ensures) c.empty_due-was_full.ensures.empties) in
    let heard : TakesAndReports observed turn.intake plan view c.args.inbox.now.datagram c.receive_all.new.inbox.datagram
    c.args.tally.now.report.received c.end_turn.new.self.report.received c.args.pass.now arrived came
    (g.W.Wire.came c.empty_due-was_full.new.wire) =
    subst (λ end. TakesAndReports observed turn.intake plan view c.args.inbox.now.datagram c.receive_all.new.inbox.datagram
    c.args.tally.now.report.received c.end_turn.new.self.report.received c.args.pass.now arrived came end)
    (sym c.empty_due-was_full.ensures.came)
    (subst (λ (n : ℕ). TakesAndReports observed turn.intake plan view c.args.inbox.now.datagram c.receive_all.new.inbox.datagram
    c.args.tally.now.report.received n c.args.pass.now arrived came (g.W.Wire.came c.receive_all.new.wire)) (sym counted)
    (subst (λ (n : ℕ). TakesAndReports observed turn.intake plan view c.args.inbox.now.datagram c.receive_all.new.inbox.datagram
    n c.receive_all.new.tally.report.received c.args.pass.now arrived came (g.W.Wire.came c.receive_all.new.wire))
    (received_of c.begin_turn.ensures.report)
    (subst (λ (w : Bor g.row.V.Denot). TakesAndReports (g.V.Watch.observed w.now) turn.intake plan view
    c.args.inbox.now.datagram c.receive_all.new.inbox.datagram c.begin_turn.new.self.report.received
    c.receive_all.new.tally.report.received c.args.pass.now arrived came (g.W.Wire.came c.receive_all.new.wire))
    c.begin_turn.ensures.watch c.receive_all.ensures.takes))) in
    record {
      makes = record {
        taken = arrived;
        takes = heard.takes;
        ticked = ticked;
        ticks = subst (λ peers. TicksDue plan turn.time turn.all peers arrived ticked) own
            c.tick_due-has_left_out.ensures.ticked;
        empties = subst (λ peers. EmptiesDue plan turn.all peers ticked c.wake_others.new.pass went went_now) own sent;
      };
      reports = heard.reports;
    }

pub returns-clause-handed : goal.returns-clause-handed
returns-clause-handed g c =
    let given = g.V.Watch.given c.args.tally.now.watch.now in
    let arrived = c.receive_all.new.pass in
    let ticked = c.tick_due-has_left_out.new.pass in
    let sent = c.empty_due-was_full.new.pass in
    let begun = c.begin_turn.ensures.watch in
    let arrives = subst (λ (w : Bor g.row.V.Denot). GivesAll (g.V.Watch.given w.now) c.args.pass.now arrived) begun
    c.receive_all.ensures.handed in
    let ticks = subst (λ (w : Bor g.row.V.Denot). GivesAll (g.V.Watch.given w.now) arrived ticked)
    (c.begin_ticks.ensures.watch ∙ c.receive_all.ensures.watch ∙ begun) c.tick_due-has_left_out.ensures.handed in
    let empties = empties_gives given c.args.turn.now.exchange.now c.args.turn.now.all c.as_slice-peers.result.now ticked sent _ _
    c.empty_due-was_full.ensures.empties in
    subst (GivesAll given c.args.pass.now) (sym c.wake_others.ensures)
    (gives_on given c.args.pass.now arrived sent arrives (gives_on given arrived ticked sent ticks empties))

pub returns-clause-turns : goal.returns-clause-turns
returns-clause-turns c = search rules
