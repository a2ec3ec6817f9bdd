use Rattle.std.proofs.Common.{Bool, ℕ, List, [], ◌∷◌, ◌++◌, None, Some, ◌∙◌, ap, arith, rules}
use Rattle.std.specs.Prelude.{if◌then◌else◌}
use Rattle.step_log.specs.Notes.{note}
use Rattle.step_log.specs.declared.made.Made.TheVariants as mades
use Rattle.udp_workers.proofs.CountLaws.{counts_on}
use Rattle.udp_workers.proofs.EmptyingLaws.{hands_one}
use Rattle.udp_workers.proofs.sending.send_all.Goals as goal

pub send_frame-requires-clause-room : goal.send_frame-requires-clause-room
send_frame-requires-clause-room c = search rules

pub returns-clause-emptied : goal.returns-clause-emptied
returns-clause-emptied c = search rules

pub returns-clause-few_faults : goal.returns-clause-few_faults
returns-clause-few_faults c = search rules

pub loop-preserved : goal.loop-preserved
loop-preserved g c =
    let l = c.loop in
    let gone = c.send_frame.ensures in
    let so_far = l.invariant.hands in
    let out = c.take_into.new.out in
    let noted = c.take_into.ensures.noted
    ∙ ap (λ (taken : Bool). note (mades.TakeOut c.args.peer (if taken then Some out else None)) l.pass)
    c.if-not-take_into.false in
    let went = gone.went ∙ ap (λ (octets : List ℕ). g.W.Wire.went l.wire ++ record { endpoint = c.args.to; octets = octets } ∷ [])
    c.octets.ensures.octets in
    record {
      emptied = omega arith;
      more = omega arith;
      some_lost = omega arith;
      few_faults = omega arith;
      more_lost = omega arith;
      received = gone.received ∙ l.invariant.received;
      refused = gone.refused ∙ l.invariant.refused;
      watch = gone.watch ∙ l.invariant.watch;
      given = omega arith;
      to = omega arith;
      others = λ other differ. gone.others other differ ∙ l.invariant.others other differ;
      faults = omega arith;
      peers = gone.peers ∙ l.invariant.peers;
      counts = counts_on c.args.tally.now.report l.tally.report c.send_frame.new.tally.report _ _ _ _ _ _ l.invariant.counts
          gone.counts;
      came = gone.came ∙ l.invariant.came;
      hands = (
        out ∷ so_far.0,
        let n = so_far.1 in omega arith,
        hands_one c.args.peer c.args.to so_far.0 out c.args.pass.now l.pass c.take_into.new.pass (g.W.Wire.went c.args.wire.now)
            (g.W.Wire.went l.wire)
            (g.W.Wire.went c.send_frame.new.wire) so_far.2 noted went,
      );
    }
