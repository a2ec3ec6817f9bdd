use Rattle.std.proofs.Common.{◌≡◌, rules}
use Rattle.rtrb.specs.Ring.{received}
use Rattle.call_files.specs.Ledgers.{LedgerState, with_noted}
use Rattle.call_files.proofs.LedgerLaws.{one_noted}
use Rattle.call_files.proofs.writer.Ledger.take_sent.Goals as goal
use Rattle.call_files.proofs.writer.Ledger.take_sent.Goals.{in-Ok, in_default}

pub loop-preserved : goal.loop-preserved
loop-preserved g c =
    let old : LedgerState = record { calls = c.args.self.now.calls; backlog = c.args.self.now.log.backlog } in
    let now : LedgerState = record { calls = c.loop.self.calls; backlog = c.loop.self.log.backlog } in
    let new : LedgerState = record { calls = c.match-pop.self.calls; backlog = c.match-pop.self.log.backlog } in
    elim c.match-pop.branch [
      | in-Ok w ↦
          let noted : new ≡ with_noted now w.in-Ok.row = search rules in (
            one_noted (received c.args.seam.now.ring) (received c.loop.seam.ring) (received c.pop.new.self) w.in-Ok.row
                old now new c.loop.invariant.0 (search rules) noted,
            search rules,
          )
      | in_default w ↦ search rules
    ]
