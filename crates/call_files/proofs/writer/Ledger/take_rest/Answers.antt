use Rattle.std.proofs.Common.{◌≡◌, length, sym, ◌∙◌, rules}
use Rattle.rtrb.specs.Ring.{received}
use Rattle.call_files.specs.Ledgers.{LedgerState}
use Rattle.call_files.proofs.LedgerLaws.{all_noted, noted_behind}
use Rattle.call_files.proofs.writer.Ledger.take_rest.Goals as goal

pub returns-clause-rows : goal.returns-clause-rows
returns-clause-rows g c =
    let old : LedgerState = record { calls = c.args.self.now.calls; backlog = c.args.self.now.log.backlog } in
    let sent : LedgerState = record { calls = c.take_sent.new.self.calls; backlog = c.take_sent.new.self.log.backlog } in
    let now : LedgerState = record { calls = c.loop.self.calls; backlog = c.loop.self.log.backlog } in
    let none : length c.loop.kept.waiting ≡ 0 = search rules in
    noted_behind (received c.args.seam.now.ring) (received c.take_sent.new.seam.ring) c.args.kept.waiting old sent now
    c.take_sent.ensures.rows (sym (all_noted now c.loop.kept.waiting none) ∙ c.loop.invariant.0)
